use Rattle.std.proofs.Common.{codes, map, ap, ◌∙◌}
use Rattle.serde_json.specs.Data.{Items, array, put}
use Rattle.told_objects.specs.Members.{◌with◌, text, answering, written}
use Rattle.told_objects.specs.Seen.{seen}
use Rattle.desk_questions.specs.declared.answer.DeskTold.TheVariants as told
use Rattle.desk_questions.specs.Words.{register_word}
use Rattle.desk_questions.specs.Things.{thing_row}
use Rattle.desk_questions.proofs.Listed.{same_objects}
use Rattle.desk_questions.proofs.things.tell_things.Goals as goal

pub returns : goal.returns
returns c = λ h stands.
    let of = c.args.of in
    let keeps = c.rules-rules.ensures h stands in
    let rows = c.in_ok-rows.ensures h keeps ∙ ap (map (thing_row h of)) (c.things-names.ensures h keeps) in
    ap told.Found (c.in_ok-things_object.ensures
    ∙ ap (λ (d : Items). written (put (codes "rows") (array d) (answering "things" with text "of" (register_word of)))) (same_objects seen (thing_row h of) _ _ rows))
