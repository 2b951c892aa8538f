use Rattle.std.proofs.Common.{ap, ◌∙◌, drop, take}
use Rattle.std.specs.List.{prefix_len}
use Rattle.text7901.specs.Fields.{digit}
use Rattle.text7901.proofs.Parts.{lead_prefix, past_prefix}
use Rattle.text7901.proofs.bytes.split_digits.Goals as goal

pub returns-clause-front : goal.returns-clause-front
returns-clause-front c =
    c.split_at.ensures.front ∙ ap (λ n. take n c.args.bytes.now) (c.leading_digits.ensures.value ∙ ap (prefix_len digit) c.first_bytes.ensures) ∙ lead_prefix digit c.args.most c.args.bytes.now

pub returns-clause-back : goal.returns-clause-back
returns-clause-back c =
    c.split_at.ensures.back ∙ ap (λ n. drop n c.args.bytes.now) (c.leading_digits.ensures.value ∙ ap (prefix_len digit) c.first_bytes.ensures) ∙ past_prefix digit c.args.most c.args.bytes.now
