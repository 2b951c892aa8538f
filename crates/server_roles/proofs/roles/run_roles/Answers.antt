use Rattle.room_lock.specs.Locks.{front}
use Rattle.server_roles.proofs.Longer.{roles_longer}
use Rattle.server_roles.proofs.roles.run_roles.Goals as goal

pub returns : goal.returns
returns g c =
    let r = c.close_at_last.ensures.room in
    record { roles = (r.0, r.2, roles_longer _ _ _ _ _ _ _ _ _ _ _ _ _ _ (front c.together-pass.result.0) r.0 c.together-pass.ensures.roles r.1, c.together-pass.ensures.door_faults) }
