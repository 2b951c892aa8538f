-- The answer where the item is there, and where it is not.
use Rattle.std.proofs.Common.{◌≡◌, ℕ, true, false, Option, Some, None, refl}
use Rattle.std.specs.Prelude.{option_map, is_some}
use Rattle.news_types.specs.declared.words.Thing.TheVariants as thing
use Rattle.news_types.specs.Names.{Bytes}
use Rattle.news_types.specs.Items.{Item}
use Rattle.story_tables.specs.Views.{version_in}
use Rattle.desk_questions.specs.declared.answer.DeskTold.TheVariants as told
use Rattle.desk_questions.specs.Told.{unknown_item, unless_unknown}

pub found : (it : Option Item) (version : Option ℕ) (bytes : Bytes) → version ≡ option_map version_in it → is_some version ≡ true → told.Found bytes ≡ unless_unknown (unknown_item it) bytes
found None None bytes is there = absurd cc
found None (Some n) bytes is there = absurd cc
found (Some it) version bytes is there = refl

pub missing : (it : Option Item) (version : Option ℕ) (bytes : Bytes) → version ≡ option_map version_in it → is_some version ≡ false → told.Unknown thing.Item ≡ unless_unknown (unknown_item it) bytes
missing None version bytes is absent = refl
missing (Some it) None bytes is absent = absurd cc
missing (Some it) (Some n) bytes is absent = absurd cc
