use Rattle.shared_workers.proofs.Seen.{untold, stands_untold}
use Rattle.server_roles.proofs.Halting.{halted_by}
use Rattle.server_roles.proofs.halts.HaltingWorkRoom.turn.Goals as goal

pub returns : goal.returns
returns g c =
    let r = c.halt-self.ensures in
    let keeper = g.K.Keeper.keeper in
    let room = c.args.room.now in (
      r.0,
      λ b is.
          let happens = r.1 b is in
          let event = (r.1 (untold b) (stands_untold keeper room b is)).event in
          (happens.stands, halted_by keeper room c.halt-self.new.self b r.0 c.args.self.now.now c.halt-self.result happens event),
    )
