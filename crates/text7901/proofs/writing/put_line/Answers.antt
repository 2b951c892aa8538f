use Rattle.std.proofs.Common.{◌++◌, ap, ◌∙◌, sym, map}
use Rattle.std.proofs.lemmas.Iterator.{YieldsList-from_chars}
use Rattle.std.proofs.lemmas.Iterator.Consumers.{YieldsList-end}
use Rattle.std.proofs.lemmas.List.{map-id}
use Rattle.std.specs.Str.{chars}
use Rattle.text7901.specs.Written.{line_text, line_byte}
use Rattle.text7901.proofs.writing.put_line.Goals as goal

pub returns : goal.returns
unfolding line_text
returns c =
    let t = YieldsList-end (YieldsList-from_chars c.as_str.result.now c.as_str.utf8 cc) c.loop-letter.yielded _ c.loop-letter.yielded_by _ _ c.in-None.is c.next.ensures.steps in
    let all = sym (map-id c.loop-letter.yielded) ∙ t.0 ∙ ap chars c.as_str.ensures in
    c.loop-letter.invariant ∙ ap (λ z. c.args.out.now.items ++ map line_byte z) all
