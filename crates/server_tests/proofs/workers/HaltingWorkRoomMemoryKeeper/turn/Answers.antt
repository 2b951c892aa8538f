use Rattle.std.proofs.Common.{[], refl}
use Rattle.server_tests.proofs.workers.HaltingWorkRoomMemoryKeeper.turn.Goals as goal

pub returns-else-front-self : goal.returns-else-front-self
returns-else-front-self c = ([], λ b is. (is, ([], refl)))
