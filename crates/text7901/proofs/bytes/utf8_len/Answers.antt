use Rattle.std.proofs.Common.{◌∙◌, ap, ◌+◌, length, arith}
use Rattle.text7901.proofs.Parts.{utf8_length}
use Rattle.text7901.proofs.bytes.utf8_len.Goals as goal

pub returns : goal.returns
returns c = ap (λ n. length c.args.bytes.now + n) c.two_byte_count.ensures.value ∙ utf8_length c.args.bytes.now (λ k _. omega (arith, c.type_inv.bytes k))
