use Rattle.std.proofs.Common.{arith, subst, List}
use Rattle.news_io.specs.declared.record.Record.{Record}
use Rattle.news_room.specs.Opening.{Opened}
use Rattle.room_standby.proofs.Rooms.{promoted, follower}
use Rattle.room_standby.proofs.standby.Standby.promote.Goals as goal

pub open-requires-clause-few : goal.open-requires-clause-few
open-requires-clause-few g c = omega (arith, c.requires.holds.1.few)

pub returns-clause-stands : goal.returns-clause-stands
returns-clause-stands g c = λ b h legal.
    promoted g.K.Keeper.keeper c.args.store c.args.self b h legal c.open.result
    (subst (λ (records : List Record). Opened g.K.Keeper.keeper c.args.self.keeper c.args.store records c.open.result) c.as_slice.ensures.value c.open.ensures)

pub returns-clause-follows : goal.returns-clause-follows
returns-clause-follows g c = λ b h.
    follower g.K.Keeper.keeper c.args.store c.args.self b h c.open.result
    (subst (λ (records : List Record). Opened g.K.Keeper.keeper c.args.self.keeper c.args.store records c.open.result) c.as_slice.ensures.value c.open.ensures)
