use Rattle.std.proofs.Common.{ap, ◌∙◌, arith, length}
use Rattle.text7901.specs.Fields.{digit, past, before, behind_byte}
use Rattle.text7901.proofs.Sizes.{text_length}
use Rattle.text7901.proofs.fields.incoming_of.Goals as goal

pub returns-clause-size : goal.returns-clause-size
returns-clause-size c =
    let behind_number = c.split_digits.ensures.back ∙ ap (past digit 8) c.split_letters.ensures.back in
    let text = c.split_around-2.ensures.front ∙ ap (before 3) (c.split_around.ensures.back ∙ ap (behind_byte 2) behind_number) in
    omega (arith, ap length text, text_length c.args.message.now, c.in_ok-story.ensures.size)
