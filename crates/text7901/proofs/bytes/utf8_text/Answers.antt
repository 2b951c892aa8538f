use Rattle.std.proofs.Common.{◌∙◌, ap, arith, ◌++◌, take, length}
use Rattle.std.proofs.lemmas.List.{take_all}
use Rattle.std.specs.Char.{encode_utf8}
use Rattle.text7901.specs.Fields.{utf8}
use Rattle.text7901.proofs.Parts.{utf8_more}
use Rattle.text7901.proofs.Sizes.{utf8_most}
use Rattle.text7901.proofs.bytes.utf8_text.Goals as goal

pub loop-byte-preserved : goal.loop-byte-preserved
loop-byte-preserved c =
    c.in_ok-push.ensures.bytes ∙ ap (λ z. z ++ encode_utf8 c.from.result) c.loop-byte.invariant
    ∙ ap (λ b. utf8 (take c.loop-byte.byte-index c.args.bytes.now) ++ encode_utf8 b) c.from.ensures
    ∙ utf8_more c.args.bytes.now c.loop-byte.byte-index (omega arith)

pub returns-clause-size : goal.returns-clause-size
returns-clause-size c =
    let bytes = c.args.bytes.now in
    let whole = c.of.ensures ∙ c.loop-byte.invariant ∙ ap utf8 (take_all c.loop-byte.byte-index bytes c.loop-byte-test.false) in
    omega (arith, ap length whole, utf8_most bytes (λ k _. omega (arith, c.type_inv.bytes k)))
