use Rattle.std.proofs.Common.{ℕ, List, subst}
use mathlib.Core.Bool.{false≢true}
use Rattle.std.specs.Prelude.{IfOk, IsTrue, ◌↔◌}
use Rattle.store_files.specs.Kinds.{IsOtherSide}
use Rattle.store_files.proofs.Headers.{short_is_none}
use Rattle.store_files.proofs.kinds.is_other_side.Goals as goal

pub returns-then-branch-clause-found : goal.returns-then-branch-clause-found
returns-then-branch-clause-found g c told =
    (λ is. absurd (false≢true is), λ other. absurd (short_is_none c.args.store.now (g.D.Disk.disk.seen c.args.side.now) (c.in_ok-is_short.ensures.short told c.if-branch.true) other))

pub returns-clause-found : goal.returns-clause-found
returns-clause-found g c told =
    let still = c.is_short.ensures.still in
    subst (λ (l : List ℕ). IfOk c.reads_other_header.result (λ other. IsTrue other ↔ IsOtherSide c.args.store.now l)) still.seen_same (c.reads_other_header.ensures.found (still.told told))
