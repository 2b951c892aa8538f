use Rattle.std.proofs.Common.{arith}
use Rattle.room_standby.proofs.Standing.{count_is}
use Rattle.room_standby.proofs.standby.Standby.count.Goals as goal

pub returns : goal.returns
returns g c = λ b h. omega (arith, c.len.ensures, count_is g.K.Keeper.keeper c.args.self.now b h)
