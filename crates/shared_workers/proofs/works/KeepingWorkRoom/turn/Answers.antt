use Rattle.shared_workers.proofs.Seen.{untold, stands_untold, kept_by}
use Rattle.shared_workers.proofs.works.KeepingWorkRoom.turn.Goals as goal

pub returns : goal.returns
returns g c =
    let r = c.receipt-self.ensures in
    let keeper = g.K.Keeper.keeper in
    let room = c.args.room.now in
    let work = c.args.self.now in (
      r.0,
      λ b is.
          let happens = r.1 b is in
          let event = (r.1 (untold b) (stands_untold keeper room b is)).event in
          (happens.stands, kept_by keeper room c.receipt-self.new.self b r.0 work.now work.subscriber work.n c.receipt-self.result happens event),
    )
