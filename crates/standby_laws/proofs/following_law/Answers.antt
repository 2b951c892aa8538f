use Rattle.standby_laws.proofs.Following.{following_holds}
use Rattle.standby_laws.proofs.following_law.Goals as goal

pub returns : goal.returns
returns c = following_holds
