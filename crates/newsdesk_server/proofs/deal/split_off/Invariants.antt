use Rattle.std.proofs.Common.{◌≡◌, All}
use Rattle.std.specs.Prelude.{vec_len}
use Rattle.std.specs.Vec.{vec_capacity}
use Rattle.room_lock.specs.Locks.{front, calls, lock_of, id_of}
use Rattle.newsdesk_server.specs.Workers.{IsNewPass}
use Rattle.newsdesk_server.proofs.deal.split_off.Given as goal

abbrev pub invariant-loop : goal.invariant-loop
invariant-loop g l =
    (lock_of l.pass ≡ id_of l.shared) × (front l.pass ≡ front l.initial.pass) × (calls l.pass ≡ calls l.initial.pass)
    × All (λ p. IsNewPass (id_of l.shared) (front l.initial.pass) p) l.made.items × (vec_len l.made ≡ l.counter) × (vec_capacity l.made ≡ vec_capacity l.initial.made)
