use Rattle.std.proofs.Common.{◌∙◌, ◌++◌, List, ℕ, refl, sym, ap, encode_utf8}
use Rattle.archive_query.proofs.Mending.{first_long, first_lower, mended_first}
use Rattle.archive_query.proofs.near.mend_first.Goals as goal

pub mend_character-requires-clause-long : goal.mend_character-requires-clause-long
mend_character-requires-clause-long c =
    first_long c.args.text.now _ c.args.into.now c.in-Some.character (sym c.chars-characters.ensures.rest ∙ c.in-Some.ensures.steps.0) c.requires.lower

pub mend_character-requires-clause-lower : goal.mend_character-requires-clause-lower
mend_character-requires-clause-lower c =
    first_lower c.args.text.now _ c.args.into.now c.in-Some.character (sym c.chars-characters.ensures.rest ∙ c.in-Some.ensures.steps.0) c.requires.lower

pub returns-in-Some : goal.returns-in-Some
returns-in-Some c =
    mended_first c.args.text.now c.as_str.result.now c.args.into.now c.mend_character.new.into c.in-Some.character c.utf8.text
    (sym c.chars-characters.ensures.rest ∙ c.in-Some.ensures.steps.0 ∙ ap (λ (l : List ℕ). encode_utf8 c.in-Some.character ++ l) (sym c.as_str.ensures))
    c.requires.lower c.mend_character.auto.into (c.if-mend_character.ensures.mended refl)
