use Rattle.std.proofs.Common.{◌≡◌, [], ◌∙◌, refl, sym}
use Rattle.news_types.specs.declared.query.Ready.TheVariants.{Later}
use Rattle.news_types.specs.Delivery.{choice}
use Rattle.news_room.proofs.Steps.{nothing_given}
use Rattle.news_room.proofs.Appends.{after_none}
use Rattle.news_room.proofs.Claims.{attempt_none}
use Rattle.news_room.proofs.room.Room.attempt.Goals as goal

pub send-requires-clause-chosen : goal.send-requires-clause-chosen
send-requires-clause-chosen g c =
    let b = c.requires.stands.0 in
    let is = c.requires.stands.1.0 in
    (b, c.args.names.now, (is, sym (c.next_ready.ensures b.list is.machine_for) ∙ c.in-Now.is))

pub send-requires-clause-early : goal.send-requires-clause-early
send-requires-clause-early g c = c.requires.early

pub returns-in-Now : goal.returns-in-Now
returns-in-Now g c =
    let r = c.send.ensures in
    (r.0, λ b is le. r.1 b c.args.names.now is le (sym (c.next_ready.ensures b.list is.machine_for) ∙ c.in-Now.is))

pub returns-in-Later : goal.returns-in-Later
returns-in-Later g c = (
  [],
  λ b is le.
      let chosen : choice b.list c.args.names.now c.args.moment ≡ Later c.in-Later.next = sym (c.next_ready.ensures b.list is.machine_for) ∙ c.in-Later.is in
      after_none g.K.Keeper.keeper c.args.self.now _ b _ _ refl is refl is.machine_for (chosen, nothing_given _ _ _ (attempt_none b.list c.args.names.now c.args.moment c.in-Later.next chosen) refl refl),
)
