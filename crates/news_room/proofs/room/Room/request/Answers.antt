use Rattle.std.proofs.Common.{◌≤◌, sym, subst}
use Rattle.news_types.specs.History.{moment}
use Rattle.news_room.proofs.Rooms.{moment_later}
use Rattle.news_room.proofs.Events.{requested}
use Rattle.news_room.proofs.room.Room.request.Goals as goal

pub returns : goal.returns
returns g c =
    let r = c.decide-answered.ensures in (
      r.0,
      λ b is.
          let at = c.moment_at.ensures b is in
          requested g.K.Keeper.keeper c.args.self.now _ b c.args.now c.moment_at.result c.args.caller c.args.number c.args.command r.0 c.decide-answered.result at
          (r.1 b is (subst (λ m. moment b.list ≤ m) (sym at) (moment_later b.list c.args.now))),
    )
