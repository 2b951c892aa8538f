use Rattle.std.proofs.Common.{◌≡◌, ◌++◌, length}
use Rattle.std.specs.Str.{IsUtf8, chars}
use Rattle.std.specs.Str.Iter.{chars_rest}
use Rattle.agency_wires.specs.Characters.{cleaned}
use Rattle.agency_wires.proofs.characters.cleaned_text.Given as goal

abbrev pub invariant-loop-letter : goal.invariant-loop-letter
invariant-loop-letter l = record {
  utf8 : IsUtf8 (chars_rest l.characters);
  kept : l.kept.items ++ cleaned (chars (chars_rest l.characters)) ≡ cleaned (chars l.text);
}

abbrev pub decreases-loop-letter : goal.decreases-loop-letter
decreases-loop-letter l = length (chars_rest l.characters)
