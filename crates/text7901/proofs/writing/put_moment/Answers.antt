use Rattle.std.proofs.Common.{◌++◌, ap, ◌∙◌}
use Rattle.text7901.specs.Written.{released}
use Rattle.text7901.proofs.writing.put_moment.Goals as goal

pub returns : goal.returns
unfolding released
returns c = c.in_ok-extend_from_slice.ensures.items ∙ ap (λ z. c.args.out.now.items ++ z) (c.as_bytes.ensures.value ∙ c.as_str.ensures ∙ c.text_of_moment-text.ensures.value)
