-- Folded fields of a story.
use Rattle.std.specs.Prelude.{◌≡◌, ℕ, ◌<◌, List, length, string_bytes, slice_index_or}
use Rattle.std.specs.List.{All}
use Rattle.news_types.specs.Names.{Bytes}
use Rattle.news_types.specs.declared.words.Field.{Field}
use Rattle.news_types.specs.declared.story.Story.{Story}
use Rattle.news_types.specs.Conditions.{folded, text_of}
use Rattle.content_filters.specs.declared.folds.FoldedField.{FoldedField}

-- it is a field of the story
pub record IsFold (story : Story) (f : FoldedField) : Type 0 where
  pub text : string_bytes f.text ≡ folded (text_of f.field story)

-- each of them is
abbrev pub AreFolds : Story → List FoldedField → Type 0
AreFolds story folds = All (IsFold story) folds

-- the field stands at the place
pub record HasField (folds : List FoldedField) (field : Field) (place : ℕ) : Type 0 where
  pub inside : place < length folds
  pub field_is : (d : FoldedField) → (slice_index_or folds place d).field ≡ field

-- the text stands at the place
pub record IsFoldAt (folds : List FoldedField) (text : Bytes) (place : ℕ) : Type 0 where
  pub inside : place < length folds
  pub text_is : (d : FoldedField) → string_bytes (slice_index_or folds place d).text ≡ text
