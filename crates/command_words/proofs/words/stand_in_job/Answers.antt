use mathlib.Core.Bool.{false≢true}
use Rattle.command_words.proofs.Identifiers.{no_standby}
use Rattle.command_words.proofs.words.stand_in_job.Goals as goal

pub returns-in-Err : goal.returns-in-Err
returns-in-Err c = no_standby _ (λ found. false≢true (c.in-Err.ensures.ok.1 found))
