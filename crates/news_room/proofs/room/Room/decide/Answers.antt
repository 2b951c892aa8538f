use Rattle.std.proofs.Common.{[], refl}
use Rattle.news_types.specs.Outcome.{Done, Repeat, Denied}
use Rattle.newsroom.specs.declared.change.Prepared.TheVariants as prepared
use Rattle.news_room.proofs.Rooms.{place_left}
use Rattle.news_room.proofs.Steps.{none_kept}
use Rattle.news_room.proofs.Appends.{still_stands, after_none}
use Rattle.news_room.proofs.Decisions.{decides, decided_kept, decided_as}
use Rattle.news_room.proofs.room.Room.decide.Goals as goal

pub prepare-requires-clause-stands : goal.prepare-requires-clause-stands
prepare-requires-clause-stands g c =
    let b = c.requires.stands.0 in
    let is = c.requires.stands.1.0 in
    (b.list, (is.machine_for, place_left _ _ is.few))

pub prepare-requires-clause-given : goal.prepare-requires-clause-given
prepare-requires-clause-given g c = c.requires.given

pub keep-requires-clause-stands : goal.keep-requires-clause-stands
keep-requires-clause-stands g c =
    let b = c.requires.stands.0 in
    let is = c.requires.stands.1.0 in (
      b,
      (
        still_stands g.K.Keeper.keeper c.args.self.now _ b refl is c.prepare.ensures.store (c.prepare.ensures.stays b.list is.machine_for),
        c.in-Change.ensures.change b.list is.machine_for c.requires.stands.1.1,
      ),
    )

pub keep-requires-clause-memory : goal.keep-requires-clause-memory
keep-requires-clause-memory g c = c.in-Change.ensures.memory

pub keep-requires-clause-fits : goal.keep-requires-clause-fits
keep-requires-clause-fits g c = c.requires.fits

pub returns-in-Change : goal.returns-in-Change
returns-in-Change g c =
    let r = c.keep.ensures in
    let e = c.args.entry.now in (
      r.0,
      λ b is le.
          let a = r.1 b (still_stands g.K.Keeper.keeper c.args.self.now _ b refl is c.prepare.ensures.store (c.prepare.ensures.stays b.list is.machine_for)) (c.in-Change.ensures.change b.list is.machine_for le) in
          decided_kept g.K.Keeper.keeper c.args.self.now _ b e r.0 _ c.keep.result
          (decides b.list e.moment e.act (prepared.Change c.in-Change.change) (c.in-Change.ensures.outcome b.list is.machine_for))
          (record { stands = a.stands; did = a.did; told = λ t. let told = a.told t in record { crash = told.crash; doubt = told.doubt } }),
    )

pub returns-in-Settled : goal.returns-in-Settled
returns-in-Settled g c =
    let e = c.args.entry.now in (
      [],
      λ b is le.
          after_none g.K.Keeper.keeper c.args.self.now _ b _ _ refl is c.prepare.ensures.store (c.prepare.ensures.stays b.list is.machine_for)
          (decided_as g.K.Keeper.keeper c.args.self.now c.args.self.now b e (Done c.in-Settled.reply) refl (decides b.list e.moment e.act (prepared.Settled c.in-Settled.reply) (c.in-Settled.ensures.outcome b.list is.machine_for))),
    )

pub returns-in-Repeat : goal.returns-in-Repeat
returns-in-Repeat g c =
    let e = c.args.entry.now in (
      [],
      λ b is le.
          after_none g.K.Keeper.keeper c.args.self.now _ b _ _ refl is c.prepare.ensures.store (c.prepare.ensures.stays b.list is.machine_for)
          (decided_as g.K.Keeper.keeper c.args.self.now c.args.self.now b e (Repeat c.in-Repeat.reply) refl (decides b.list e.moment e.act (prepared.Repeat c.in-Repeat.reply) (c.in-Repeat.ensures.outcome b.list is.machine_for))),
    )

pub returns-in-Denied : goal.returns-in-Denied
returns-in-Denied g c =
    let e = c.args.entry.now in (
      [],
      λ b is le.
          after_none g.K.Keeper.keeper c.args.self.now _ b _ _ refl is c.prepare.ensures.store (c.prepare.ensures.stays b.list is.machine_for)
          (decided_as g.K.Keeper.keeper c.args.self.now c.args.self.now b e (Denied c.in-Denied.denial) refl (decides b.list e.moment e.act (prepared.Denied c.in-Denied.denial) (c.in-Denied.ensures.outcome b.list is.machine_for))),
    )

pub returns-in-Memory : goal.returns-in-Memory
returns-in-Memory g c =
    ([], λ b is le. after_none g.K.Keeper.keeper c.args.self.now _ b _ _ refl is c.prepare.ensures.store (c.prepare.ensures.stays b.list is.machine_for) (none_kept _ refl refl))
