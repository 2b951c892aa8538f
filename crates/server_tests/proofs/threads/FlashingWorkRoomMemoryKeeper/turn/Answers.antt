use Rattle.std.proofs.Common.{[], refl}
use Rattle.server_tests.proofs.threads.FlashingWorkRoomMemoryKeeper.turn.Goals as goal

pub returns-in_default : goal.returns-in_default
returns-in_default c = ([], λ b is. (is, ([], refl)))
