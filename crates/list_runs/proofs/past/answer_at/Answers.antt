use Rattle.std.proofs.Common.{inl}
use Rattle.list_runs.proofs.past.answer_at.Goals as goal

pub returns-clause-answered : goal.returns-clause-answered
returns-clause-answered g c store h stands = inl (record { old = _; new = c.run_lines.new.machine; run = c.run_lines.ensures.run tt h (store, stands) })
