use Rattle.std.proofs.Common.{ℕ, List, drop, subst}
use Rattle.news_journal.specs.Opened.{LooksAs}
use Rattle.news_journal.proofs.Looks.{head_as}
use Rattle.news_journal.proofs.opening.read_head.Goals as goal

pub returns-clause-reads : goal.returns-clause-reads
returns-clause-reads g c = λ told shows.
    let part = c.part.ensures.bytes (g.D.Disk.disk.seen c.args.disk.now) (c.in_ok-cover.ensures.shows told shows) (c.in_ok-cover.ensures.covers told shows) in
    head_as c.args.gate (drop c.args.gate (g.D.Disk.disk.seen c.args.disk.now)) c.look.result (subst (λ (l : List ℕ). LooksAs c.args.gate l c.look.result) part c.look.ensures.looks)
