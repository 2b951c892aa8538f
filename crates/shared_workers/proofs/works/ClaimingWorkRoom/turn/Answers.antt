use Rattle.std.proofs.Common.{ℕ, ◌≤◌, [], refl, subst}
use Rattle.shared_workers.proofs.Seen.{untold, stands_untold, claimed_by}
use Rattle.shared_workers.proofs.works.ClaimingWorkRoom.turn.Goals as goal

pub returns-then-place-self : goal.returns-then-place-self
returns-then-place-self g c = ([], λ b is. (is, (c.last_stop-place.ensures b is, c.if-place-self.true, refl)))

pub returns-else-place-self : goal.returns-else-place-self
returns-else-place-self g c =
    let r = c.claim.ensures in
    let keeper = g.K.Keeper.keeper in
    let room = c.args.room.now in
    let work = c.args.self.now in (
      r.0,
      λ b is.
          let happens = r.1 b is in
          let event = (r.1 (untold b) (stands_untold keeper room b is)).event in (
            happens.stands,
            (
              subst (λ (n : ℕ). n ≤ work.base) (c.last_stop-place.ensures b is) c.if-place-self.false,
              claimed_by keeper room c.claim.new.self b r.0 work.now work.names.now c.claim.result happens event,
            ),
          ),
    )
