use Rattle.std.proofs.Common.{sym, subst}
use Rattle.store_files.specs.Kinds.{IsOtherSide}
use Rattle.store_files.proofs.Headers.{other_front, other_whole}
use Rattle.store_files.proofs.kinds.reads_other_header.Goals as goal

pub returns-clause-found : goal.returns-clause-found
returns-clause-found g c told =
    let file = g.D.Disk.disk.seen c.args.side.now in
    let store = c.args.store.now in
    let shows = c.in_ok-cover.ensures.shows told (c.new-window.ensures file) in
    let bytes = c.part.ensures.bytes file shows (c.in_ok-cover.ensures.covers told (c.new-window.ensures file)) in (
      λ is. other_front store file (subst (IsOtherSide store) bytes (c.has_other_header.ensures.0 is)),
      λ other. c.has_other_header.ensures.1 (subst (IsOtherSide store) (sym bytes) (other_whole store file other)),
    )
