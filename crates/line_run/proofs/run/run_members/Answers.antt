use Rattle.line_run.proofs.Ended.{leaves_ran}
use Rattle.line_run.proofs.run.run_members.Goals as goal

pub returns-in-Ok-clause-crash : goal.returns-in-Ok-clause-crash
returns-in-Ok-clause-crash g c = λ shelf h stands. leaves_ran _ _ _ _ _ _ _ _ _ _ _ _ _ h _ stands (c.in-Ok.ensures.ran shelf h stands)

pub returns-in-Err-clause-crash : goal.returns-in-Err-clause-crash
returns-in-Err-clause-crash g c = λ shelf h stands. leaves_ran _ _ _ _ _ _ _ _ _ _ _ _ _ h _ stands (c.in-Err.ensures.ran shelf h stands)
