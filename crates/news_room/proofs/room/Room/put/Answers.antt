use Rattle.std.proofs.Common.{[], ◌∷◌, sym, ap, ◌∙◌, subst}
use Rattle.news_types.specs.declared.entry.Entry.{Entry}
use Rattle.newsroom.specs.Stands.{StandsFor, store_of}
use Rattle.news_room.specs.Log.{IsStored}
use Rattle.news_room.proofs.Rooms.{place_left}
use Rattle.news_room.proofs.Appends.{put_ok, put_none}
use Rattle.news_room.proofs.room.Room.put.Goals as goal

pub apply-requires-clause-stands : goal.apply-requires-clause-stands
apply-requires-clause-stands g c =
    let b = c.requires.stands.0 in
    let is = c.requires.stands.1 in
    (b.list, (subst (λ m. StandsFor m b.list) (sym c.in-Ok.ensures.machine) is.machine_for, place_left _ _ is.few))

pub apply-requires-clause-early : goal.apply-requires-clause-early
apply-requires-clause-early g c = c.requires.fits.moment

pub returns-in-Ok : goal.returns-in-Ok
returns-in-Ok g c =
    let e : Entry = c.args.entry.now in
    let s = c.in-Ok.ensures.step in (
      e ∷ [],
      λ b is legal.
          let machine = subst (λ m. StandsFor m b.list) (sym c.in-Ok.ensures.machine) is.machine_for in
          let kept : IsStored (e ∷ b.list) = record { legal = legal; formed = (s.1.record_is.entry, is.kept.formed) } in
          put_ok g.K.Keeper.keeper c.args.self.now _ b c.args.limit e s.0 c.requires.limit s.1.record_is kept is (c.apply.ensures.store ∙ ap store_of c.in-Ok.ensures.machine)
          (c.apply.ensures.stands b.list machine legal) s.1.grown s.1.did,
    )

pub returns-in-Err : goal.returns-in-Err
returns-in-Err g c =
    let e : Entry = c.args.entry.now in (
      [],
      λ b is legal.
          put_none g.K.Keeper.keeper c.args.self.now _ b c.args.limit e c.in-Err.fault c.in-Err.ensures.step (λ entry. record { legal = legal; formed = (entry, is.kept.formed) })
          is (ap store_of c.in-Err.ensures.machine) (subst (λ m. StandsFor m b.list) (sym c.in-Err.ensures.machine) is.machine_for),
    )

pub append_small-requires-clause-fits : goal.append_small-requires-clause-fits
append_small-requires-clause-fits g c = c.requires.fits

pub append_small-requires-clause-small : goal.append_small-requires-clause-small
append_small-requires-clause-small g c = c.requires.small

pub append_small-requires-clause-limit : goal.append_small-requires-clause-limit
append_small-requires-clause-limit g c = c.requires.limit

pub apply-requires-clause-small : goal.apply-requires-clause-small
apply-requires-clause-small g c = c.requires.small
