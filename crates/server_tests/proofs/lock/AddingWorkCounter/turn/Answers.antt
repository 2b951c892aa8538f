use Rattle.std.proofs.Common.{[], ◌∷◌, arith}
use Rattle.news_types.specs.declared.entry.Act.TheVariants.{Halt}
use Rattle.news_types.specs.declared.entry.Entry.{Entry}
use Rattle.server_tests.proofs.lock.AddingWorkCounter.turn.Goals as goal

entry : Entry
entry = record { moment = 0; act = Halt }

pub returns-then-room-lt18446744073709551615 : goal.returns-then-room-lt18446744073709551615
returns-then-room-lt18446744073709551615 c = (entry ∷ [], λ b is. (omega (arith, is), omega arith))
