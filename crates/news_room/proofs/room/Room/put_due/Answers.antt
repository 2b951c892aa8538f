use Rattle.std.proofs.Common.{◌≡◌, true, false, [], Ok, Err, refl, sym, ap, subst, ◌∙◌, arith}
use Rattle.news_types.specs.declared.entry.Entry.{Entry}
use Rattle.news_types.specs.declared.entry.Act.{Act}
use Rattle.news_types.specs.declared.entry.Act.TheVariants.{Advance}
use Rattle.news_types.specs.Legal.{some_waits}
use Rattle.news_types.specs.Outcome.{entry_of}
use Rattle.entry_codec.specs.Fits.{FitsAct}
use Rattle.newsroom.specs.Acts.{IsSmall, may_follow}
use Rattle.news_room.specs.Steps.{Puts}
use Rattle.news_room.proofs.Steps.{nothing_given}
use Rattle.news_room.proofs.Appends.{after_none}
use Rattle.news_room.proofs.Small.{waits_is, ticks_none, released_ok, released_err}
use Rattle.news_room.proofs.room.Room.put_due.Goals as goal

pub put-requires-clause-stands : goal.put-requires-clause-stands
put-requires-clause-stands g c = (c.requires.stands.0, c.requires.stands.1.0)

pub put-requires-clause-fits : goal.put-requires-clause-fits
put-requires-clause-fits g c = record { moment = c.requires.early; act = subst (λ (a : Act). FitsAct a) (sym c.requires.tick) tt }

pub put-requires-clause-small : goal.put-requires-clause-small
put-requires-clause-small g c = subst (λ (a : Act). IsSmall a) (sym c.requires.tick) tt

pub put-requires-clause-limit : goal.put-requires-clause-limit
put-requires-clause-limit g c = omega arith

pub returns-then-not-legal : goal.returns-then-not-legal
returns-then-not-legal g c = (
  [],
  λ b is le.
      let m = c.args.entry.now.moment in
      let waits : some_waits b.list m ≡ false = sym (waits_is b.list m le) ∙ ap (λ (a : Act). may_follow b.list a m) (sym c.requires.tick) ∙ sym (c.legal.ensures.value b.list is.machine_for) ∙ c.if-not-legal.true in
      after_none g.K.Keeper.keeper c.args.self.now _ b _ _ refl is refl is.machine_for (waits, nothing_given _ _ _ (ticks_none b.list m waits) refl refl),
)

pub returns-in-Ok : goal.returns-in-Ok
returns-in-Ok g c =
    let m = c.args.entry.now.moment in
    let e_is : c.args.entry.now ≡ entry_of m Advance = ap (λ (a : Act). entry_of m a) c.requires.tick in
    let r = subst (λ (e : Entry). Puts g.K.Keeper.keeper c.args.self.now c.put.new.self 1073737728 e (Ok tt)) e_is c.in-Ok.ensures in (
      r.0,
      λ b is le.
          let waits : some_waits b.list m ≡ true = sym (waits_is b.list m le) ∙ ap (λ (a : Act). may_follow b.list a m) (sym c.requires.tick) ∙ sym (c.legal.ensures.value b.list is.machine_for) ∙ c.if-not-legal.false in
          released_ok g.K.Keeper.keeper c.args.self.now _ b m r.0 waits (r.1 b is (is.kept.legal, le, waits)),
    )

pub returns-in-Err : goal.returns-in-Err
returns-in-Err g c =
    let m = c.args.entry.now.moment in
    let e_is : c.args.entry.now ≡ entry_of m Advance = ap (λ (a : Act). entry_of m a) c.requires.tick in
    let r = subst (λ (e : Entry). Puts g.K.Keeper.keeper c.args.self.now c.put.new.self 1073737728 e (Err c.in-Err.fault)) e_is c.in-Err.ensures in (
      r.0,
      λ b is le.
          let waits : some_waits b.list m ≡ true = sym (waits_is b.list m le) ∙ ap (λ (a : Act). may_follow b.list a m) (sym c.requires.tick) ∙ sym (c.legal.ensures.value b.list is.machine_for) ∙ c.if-not-legal.false in
          released_err g.K.Keeper.keeper c.args.self.now _ b m r.0 c.in-Err.fault waits (r.1 b is (is.kept.legal, le, waits)),
    )
