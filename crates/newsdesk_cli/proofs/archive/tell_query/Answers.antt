use Rattle.std.proofs.Common.{inl, subst}
use Rattle.newsdesk_cli.specs.Telling.{IsTold}
use Rattle.newsdesk_cli.proofs.archive.tell_query.Goals as goal

pub returns-in-Ok : goal.returns-in-Ok
returns-in-Ok g c b stands = inl (c.in-Ok.text, c.in-Ok.ensures b stands, subst (λ l. IsTold g.O.Sink.sink l c.args.output.now c.tell_answer.new.output c.tell_answer.result) c.as_slice.ensures c.tell_answer.ensures)
