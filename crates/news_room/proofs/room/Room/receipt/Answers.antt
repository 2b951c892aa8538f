use Rattle.std.proofs.Common.{[], ◌∙◌, refl, sym, ap, subst}
use Rattle.news_types.specs.History.{moment_at}
use Rattle.news_types.specs.Outcome.{Outcome, Done, Denied, no_entry, kept, receipt}
use Rattle.news_types.specs.Outcome as outcome
use Rattle.news_room.specs.Stands.{numbers}
use Rattle.news_room.specs.Steps.{entries, Receives}
use Rattle.news_room.specs.declared.answers.Kept.{Kept}
use Rattle.news_room.proofs.Going.{after_as, after_should}
use Rattle.news_room.proofs.Events.{received}
use Rattle.news_room.proofs.Appends.{after_none}
use Rattle.news_room.proofs.Small.{receipt_kept, receipt_settled, receipt_refused, receipt_within, receipt_raises, receives_none}
use Rattle.news_room.proofs.room.Room.receipt.Goals as goal

pub returns-in-Ok-true : goal.returns-in-Ok-true
returns-in-Ok-true g c =
    let r = c.raise.ensures in (
      r.0,
      λ b is.
          let s = c.args.subscriber in
          let n = c.args.n in
          let judged = c.in-Ok-true.ensures b.list is.machine_for in
          let same = receipt_kept b.list s n (moment_at b.list c.args.now) judged.0 (sym judged.1 ∙ c.in-Ok-true.field-0-test) in
          let a = r.1 b is (receipt_raises b.list s n (sym judged.1 ∙ c.in-Ok-true.field-0-test)) (receipt_within b.list s n judged.0) in
          let t = after_should g.K.Keeper.keeper c.args.self.now c.raise.new.self b _ _ r.0 _ _ _ (sym (ap (λ (o : Outcome outcome.Answered). entries o.more) same)) a
          (subst (λ (o : Outcome outcome.Answered). Receives (numbers g.K.Keeper.keeper c.args.self.now c.raise.new.self) r.0 o c.raise.result) (sym same) a.did) in
          received g.K.Keeper.keeper c.args.self.now c.raise.new.self b c.args.now s n r.0 c.raise.result t,
    )

pub returns-in-Ok-false : goal.returns-in-Ok-false
returns-in-Ok-false g c = (
  [],
  λ b is.
      let s = c.args.subscriber in
      let n = c.args.n in
      let judged = c.in-Ok-false.ensures b.list is.machine_for in
      let same = receipt_settled b.list s n (moment_at b.list c.args.now) judged.0 (sym judged.1 ∙ c.in-Ok-false.field-0-test) in
      let none = receives_none (numbers g.K.Keeper.keeper c.args.self.now c.args.self.now) (receipt b.list s n c.args.now) (Done (no_entry 0)) same refl refl in
      let t = after_none g.K.Keeper.keeper c.args.self.now _ b (entries (receipt b.list s n c.args.now).more) _ refl is refl is.machine_for none in
      received g.K.Keeper.keeper c.args.self.now c.args.self.now b c.args.now s n [] (Kept.Done c.reply_of.result) (after_as g.K.Keeper.keeper c.args.self.now c.args.self.now b _ [] _ _ _ t (none.0 ∙ ap (λ x. Done x) (sym c.reply_of.ensures), none.1)),
)

pub returns-in-Err : goal.returns-in-Err
returns-in-Err g c = (
  [],
  λ b is.
      let s = c.args.subscriber in
      let n = c.args.n in
      let same = receipt_refused b.list s n (moment_at b.list c.args.now) c.in-Err.denial (c.in-Err.ensures b.list is.machine_for) in
      let t = after_none g.K.Keeper.keeper c.args.self.now _ b (entries (receipt b.list s n c.args.now).more) _ refl is refl is.machine_for
      (receives_none (numbers g.K.Keeper.keeper c.args.self.now c.args.self.now) (receipt b.list s n c.args.now) (Denied c.in-Err.denial) same refl refl) in
      received g.K.Keeper.keeper c.args.self.now c.args.self.now b c.args.now s n [] (Kept.Denied c.in-Err.denial) (after_as g.K.Keeper.keeper c.args.self.now c.args.self.now b _ [] _ _ _ t t.did),
)

pub raise-requires : goal.raise-requires
raise-requires g c = record { stands = c.requires.stands }
