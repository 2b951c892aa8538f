use Rattle.std.proofs.Common.{[], ◌∷◌, sym, ap, ◌∙◌, subst}
use Rattle.news_types.specs.declared.entry.Entry.{Entry}
use Rattle.newsroom.specs.Changes.{HasMemory}
use Rattle.newsroom.specs.Stands.{StandsFor, store_of}
use Rattle.news_room.specs.Log.{IsStored}
use Rattle.news_room.proofs.Legal.{legal_for}
use Rattle.news_room.proofs.Rooms.{place_left}
use Rattle.news_room.proofs.Appends.{kept_ok, not_kept}
use Rattle.news_room.proofs.room.Room.keep.Goals as goal

pub append-requires : goal.append-requires
append-requires g c = record { fits = c.requires.fits }

pub commit-requires-clause-stands : goal.commit-requires-clause-stands
commit-requires-clause-stands g c =
    let b = c.requires.stands.0 in
    let is = c.requires.stands.1.0 in
    (b.list, c.args.entry.now, (subst (λ m. StandsFor m b.list) (sym c.in-Ok.ensures.machine) is.machine_for, c.requires.stands.1.1, place_left _ _ is.few))

pub commit-requires-clause-memory : goal.commit-requires-clause-memory
commit-requires-clause-memory g c = subst (λ m. HasMemory m c.args.change) (sym c.in-Ok.ensures.machine) c.requires.memory

pub returns-in-Ok : goal.returns-in-Ok
returns-in-Ok g c =
    let e : Entry = c.args.entry.now in
    let s = c.in-Ok.ensures.step in (
      e ∷ [],
      λ b is for_it.
          let machine = subst (λ m. StandsFor m b.list) (sym c.in-Ok.ensures.machine) is.machine_for in
          let kept : IsStored (e ∷ b.list) = record { legal = legal_for c.args.change e b.list for_it; formed = (s.1.record_is.entry, is.kept.formed) } in
          kept_ok g.K.Keeper.keeper c.args.self.now _ b e s.0 _ s.1.record_is kept is (c.commit.ensures.store ∙ ap store_of c.in-Ok.ensures.machine)
          (c.commit.ensures.stands b.list e machine for_it) (c.commit.ensures.reply b.list e machine for_it) s.1.grown s.1.did,
    )

pub returns-in-Err : goal.returns-in-Err
returns-in-Err g c =
    let e : Entry = c.args.entry.now in (
      [],
      λ b is for_it.
          not_kept g.K.Keeper.keeper c.args.self.now _ b e c.in-Err.answered c.in-Err.ensures.step
          (λ entry. record { legal = legal_for c.args.change e b.list for_it; formed = (entry, is.kept.formed) })
          is (ap store_of c.in-Err.ensures.machine) (subst (λ m. StandsFor m b.list) (sym c.in-Err.ensures.machine) is.machine_for),
    )
