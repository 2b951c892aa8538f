use Rattle.std.proofs.Common.{[], sym, ◌∙◌}
use Rattle.feed_http.proofs.Callers.{allowed_turn, forbidden_turn, unknown_turn}
use Rattle.feed_http.proofs.turn.answer_asking.Goals as goal

pub may_ask-requires : goal.may_ask-requires
may_ask-requires g c = c.requires.stands

pub answer_allowed-requires-clause-stands : goal.answer_allowed-requires-clause-stands
answer_allowed-requires-clause-stands g c = c.requires.stands

pub answer_allowed-requires-clause-fits : goal.answer_allowed-requires-clause-fits
answer_allowed-requires-clause-fits g c = c.requires.fits

pub returns-in-Ok-true : goal.returns-in-Ok-true
returns-in-Ok-true g c =
    let r = c.answer_allowed.ensures in (
      r.0,
      λ b stands.
          allowed_turn g.K.Keeper.keeper c.args.room.now c.answer_allowed.new.room b r.0 c.args.asking c.args.now c.answer_allowed.result
          (sym (c.in-Ok-true.ensures b stands) ∙ c.in-Ok-true.field-0-test) (r.1 b stands),
    )

pub returns-in-Ok-false : goal.returns-in-Ok-false
returns-in-Ok-false g c =
    ([], λ b stands. forbidden_turn g.K.Keeper.keeper c.args.room.now b c.args.asking c.args.now c.notify.result stands (sym (c.in-Ok-false.ensures b stands) ∙ c.in-Ok-false.field-0-test) c.notify.ensures)

pub returns-in-Err : goal.returns-in-Err
returns-in-Err g c = ([], λ b stands. unknown_turn g.K.Keeper.keeper c.args.room.now b c.args.asking c.args.now c.notify-in-Err.result stands c.notify-in-Err.ensures)
