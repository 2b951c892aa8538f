use Rattle.world_laws.proofs.Reach as laws
use Rattle.world_laws.proofs.corrections_reach_law.Goals as goal

pub returns-clause-due : goal.returns-clause-due
returns-clause-due c = laws.reaches_all

pub returns-clause-kills : goal.returns-clause-kills
returns-clause-kills c = laws.kills_reach

pub returns-clause-corrections : goal.returns-clause-corrections
returns-clause-corrections c = laws.corrections_reach
