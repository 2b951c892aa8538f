use Rattle.news_journal.proofs.Parts.{payload_is}
use Rattle.news_journal.proofs.opening.read_payload.Goals as goal

pub returns-clause-reads : goal.returns-clause-reads
returns-clause-reads g c = λ told shows.
    let part = c.part-bytes.ensures.bytes (g.D.Disk.disk.seen c.args.disk.now) (c.in_ok-cover.ensures.shows told shows) (c.in_ok-cover.ensures.covers told shows) in
    payload_is c.args.count _ c.part-bytes.result.now _ part c.if-bytes-size.false c.in_ok-copy_of.ensures
