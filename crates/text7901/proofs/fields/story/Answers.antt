use Rattle.std.proofs.Common.{◌≤◌, ◌*◌, ap, ◌∙◌, arith, length}
use Rattle.text7901.specs.Fields.{without_last_lf}
use Rattle.text7901.proofs.Sizes.{if_ok, lines_length}
use Rattle.text7901.proofs.fields.story.Goals as goal

pub returns-clause-size : goal.returns-clause-size
returns-clause-size c =
    let text = c.args.text.now in
    let lines = ap length (c.without_last_lf.ensures ∙ ap without_last_lf (c.as_slice.ensures.value ∙ c.in_ok-lines.ensures)) in
    if_ok c.story_of.result (λ t. length t.body ≤ 2 * length c.without_last_lf.result.now) (λ t. length t.body ≤ 2 * length text)
    (λ t h. omega (arith, h, lines, lines_length text)) c.story_of.ensures.size
