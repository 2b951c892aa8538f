use Rattle.std.proofs.Common.{ℕ, List, Err, subst}
use Rattle.news_journal.specs.Opened.{HeaderAs}
use Rattle.news_journal.proofs.Parts.{first_part}
use Rattle.news_journal.proofs.Progress.{no_header}
use Rattle.news_journal.proofs.header.Header.read_from.Goals as goal

pub returns-in-Err-clause-header : goal.returns-in-Err-clause-header
returns-in-Err-clause-header g c = λ told.
    let read = c.in_ok-count.ensures in
    let part = first_part (g.D.Disk.disk.seen c.args.disk.now) _ c.in_ok-count.count 64 read.within (read.enough told) (read.bytes told) in
    no_header _ c.in-Err.field-0 (subst (λ (l : List ℕ). HeaderAs l (Err c.in-Err.field-0)) part c.in-Err.ensures)
