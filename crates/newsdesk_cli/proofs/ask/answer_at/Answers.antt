use Rattle.std.proofs.Common.{inl, inr, refl, arith}
use Rattle.newsdesk_cli.proofs.Looking.{as_many}
use Rattle.newsdesk_cli.proofs.ask.answer_at.Goals as goal

pub returns-then-records-entries-clause-asked : goal.returns-then-records-entries-clause-asked
returns-then-records-entries-clause-asked g c h are = inl (record { fewer = omega (arith, as_many _ h are, c.if-records-entries.true); input_same = refl; stopped = c.tell_trouble.ensures })

pub returns-clause-asked : goal.returns-clause-asked
returns-clause-asked g c h are = inr (record { enough = omega (arith, as_many _ h are, c.if-records-entries.false); answered = c.answer_past.ensures.answered h are; complete = c.answer_past.ensures.complete })
