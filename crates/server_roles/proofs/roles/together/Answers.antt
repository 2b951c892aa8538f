use Rattle.std.proofs.Common.{◌≡◌, ◌∙◌}
use Rattle.room_lock.specs.Locks.{front, calls, lock_of, id_of, start_of, base_of}
use Rattle.news_room.specs.Stands.{Stands}
use Rattle.server_roles.specs.declared.job.Job.{Job}
use Rattle.server_roles.specs.declared.job.JobDone.{JobDone}
use Rattle.server_roles.specs.Teams.{WentRounds}
use Rattle.server_roles.proofs.Zips.{all_second}
use Rattle.server_roles.proofs.roles.together.Goals as goal

pub part-pass-requires-clause-lock : goal.part-pass-requires-clause-lock
part-pass-requires-clause-lock g c =
    let J : Type 0 = Job g.row.C.Denot g.row.L.Denot in
    let D : Type 0 = JobDone g.row.C.Denot g.row.L.Denot in
    let worked : J → D → Type 0 = WentRounds g.C.Clock.clock g.L.Link.link (base_of c.args.shared.now) (Stands g.K.Keeper.keeper (start_of c.args.shared.now)) in
    let P : J → Type 0 = λ j. lock_of j.pass ≡ id_of c.args.shared.now in
    let Q : D → Type 0 = λ k. lock_of k.pass ≡ id_of c.args.shared.now in (
      c.beside-all.ensures.lock ∙ c.requires.lock.0,
      all_second worked P Q (λ j k w p. w.lock ∙ p) c.args.server.jobs.items c.beside-all.result.0.items c.beside-all.ensures.work c.requires.lock.1,
    )

pub returns-clause-roles : goal.returns-clause-roles
returns-clause-roles g c =
    let p = c.part-pass.ensures in record {
      first_front = front c.beside-all.result.1.1;
      first_calls = calls c.beside-all.result.1.1;
      first = c.beside-all.ensures.first;
      first_begins = p.front.0;
      done = c.beside-all.result.0.items;
      worked = c.beside-all.ensures.work;
      done_begin = p.front.1;
      links_are = p.links.0;
      first_apart = p.apart.0;
      done_apart = p.apart.1;
    }
