use Rattle.std.proofs.Common.{[], ◌∷◌, refl, sym, ap, ◌∙◌, subst, inr, Ok, Err}
use Rattle.std.specs.Prelude.{Result}
use Rattle.news_types.specs.declared.story.Incoming.{Incoming}
use Rattle.news_types.specs.Names.{Bytes}
use Rattle.feed_http.specs.Serving.{CameTo}
use Rattle.feed_http.specs.Wires.{story_turn}
use Rattle.feed_http.proofs.Wires.{or_none}
use Rattle.feed_http.proofs.wire.answer_member.Goals as goal

pub returns-in-Ok-Line-clause-came : goal.returns-in-Ok-Line-clause-came
returns-in-Ok-Line-clause-came g c =
    let told = rw c.in-Ok-Line.field-0-is at c.in-Ok-Line.ensures in
    record {
      turns = [];
      turned = refl;
      stop = refl;
      row = subst (λ (t : Result Incoming Bytes). CameTo c.args.caller c.args.provider c.args.now [] t (Ok c.in-Ok-Line.line)) (sym told) (refl, refl);
    }

pub answer_story-requires-clause-fits : goal.answer_story-requires-clause-fits
answer_story-requires-clause-fits g c = (rw c.in-Ok-Story.field-0-is at c.in-Ok-Story.ensures).1

pub returns-in-Ok-Story-clause-came : goal.returns-in-Ok-Story-clause-came
returns-in-Ok-Story-clause-came g c =
    let told = rw c.in-Ok-Story.field-0-is at c.in-Ok-Story.ensures in
    let incoming = c.in-Ok-Story.incoming in
    let t = story_turn c.args.caller c.args.provider c.args.now incoming c.answer_story.result in
    record {
      turns = t ∷ [];
      turned = (c.answer_story.new.room, c.answer_story.ensures.turn, refl);
      stop = c.came_of.ensures.stop ∙ or_none c.answer_story.result.stop;
      row = subst (λ (r : Result Incoming Bytes). CameTo c.args.caller c.args.provider c.args.now (t ∷ []) r c.came_of.result.row) (sym told.0) (c.came_of.ensures.row c.args.caller c.args.provider c.args.now incoming);
    }

pub returns-in-Err-clause-came : goal.returns-in-Err-clause-came
returns-in-Err-clause-came g c = record { turns = []; turned = refl; stop = refl; row = inr (refl, c.notify.ensures) }
