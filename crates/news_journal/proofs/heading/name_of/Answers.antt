use Rattle.news_journal.proofs.Ascii.{name_text}
use Rattle.news_journal.proofs.heading.name_of.Goals as goal

pub returns-in_default : goal.returns-in_default
returns-in_default c = λ form. absurd (c.in_default.ensures.cases.0 (name_text c.args.text.now form))
