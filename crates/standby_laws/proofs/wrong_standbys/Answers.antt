use Rattle.standby_laws.proofs.WrongStandbys as wrong
use Rattle.standby_laws.proofs.wrong_standbys.Goals as goal

pub returns-clause-skip : goal.returns-clause-skip
returns-clause-skip c = wrong.skips

pub returns-clause-twice : goal.returns-clause-twice
returns-clause-twice c = wrong.twice

pub returns-clause-early : goal.returns-clause-early
returns-clause-early c = wrong.early

pub returns-clause-doubt : goal.returns-clause-doubt
returns-clause-doubt c = wrong.doubts

pub returns-clause-loses : goal.returns-clause-loses
returns-clause-loses c = wrong.loses
