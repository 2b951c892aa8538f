use Rattle.std.proofs.Common.{◌++◌, ◌∙◌, ap}
use Rattle.std.specs.Str.{chars}
use Rattle.std.specs.Str.Iter.{chars_rest}
use Rattle.std.proofs.lemmas.Str.{IsUtf8-past_char}
use Rattle.agency_wires.specs.Characters.{cleaned}
use Rattle.agency_wires.specs.Cleaning.{kept_before}
use Rattle.agency_wires.proofs.Cleaning.{step_utf8, end_utf8}
use Rattle.agency_wires.proofs.characters.cleaned_text.Goals as goal

pub loop-letter-preserved : goal.loop-letter-preserved
loop-letter-preserved c =
    let s = c.loop-letter in
    let bytes = chars_rest s.characters in
    let rest = chars_rest c.next.new.self in
    let letter = c.in-Some.letter in
    let split = c.in-Some.ensures.steps.0 in
    record {
      utf8 = IsUtf8-past_char bytes rest letter s.invariant.utf8 split;
      kept = step_utf8 bytes rest s.kept.items c.put_kept.new.kept.items (cleaned (chars c.args.text.now)) letter s.invariant.utf8 split
          (c.in_ok-put_kept.ensures ∙ ap (λ z. s.kept.items ++ kept_before letter z) (c.as_bytes.ensures.value ∙ c.as_str.ensures)) s.invariant.kept;
    }

pub returns : goal.returns
returns c = end_utf8 (chars_rest c.loop-letter.characters) c.loop-letter.kept.items (cleaned (chars c.args.text.now)) c.in_default.ensures.steps.0.0 c.loop-letter.invariant.kept
