-- Folding is computed at the examples' texts.
use Rattle.std.proofs.Common.{refl}
use Rattle.std.specs.Str.{chars}
use Rattle.caseless.proofs.Computing.{caseless}
use Rattle.news_types.specs.Conditions.{folded}
use Rattle.worked_rows.proofs.permission.text_is_compared_without_its_case.Goals as goal

pub returns-clause-fire_like : goal.returns-clause-fire_like
unfolding caseless folded chars lib.Utf8.encode
returns-clause-fire_like c = refl

pub returns-clause-fire_starts : goal.returns-clause-fire_starts
unfolding caseless folded chars lib.Utf8.encode
returns-clause-fire_starts c = refl

pub returns-clause-sharp_like : goal.returns-clause-sharp_like
unfolding caseless folded chars lib.Utf8.encode
returns-clause-sharp_like c = refl

pub returns-clause-sharp_starts : goal.returns-clause-sharp_starts
unfolding caseless folded chars lib.Utf8.encode
returns-clause-sharp_starts c = refl
