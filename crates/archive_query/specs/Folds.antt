-- Texts of a story without their case.
use Rattle.std.specs.Prelude.{◌≡◌, ℕ, ◌<◌, List, length, slice_index_or}
use Rattle.std.specs.List.{All}
use Rattle.news_types.specs.declared.story.Story.{Story}
use Rattle.news_types.specs.Names.{Bytes}
use Rattle.news_types.specs.Conditions.{folded}
use Rattle.archive_query.specs.declared.words.TextField.{TextField}
use Rattle.archive_query.specs.declared.subject.FoldedField.{FoldedField}
use Rattle.archive_query.specs.Query.{text_of}

-- it is a text of the story
pub record IsFold (story : Story) (f : FoldedField) : Type 0 where
  pub text : f.text.items ≡ folded (text_of f.field story)

-- each of them is
abbrev pub AreFolds : Story → List FoldedField → Type 0
AreFolds story folds = All (IsFold story) folds

-- the field stands at the place
pub record HasField (folds : List FoldedField) (field : TextField) (place : ℕ) : Type 0 where
  pub inside : place < length folds
  pub field_is : (d : FoldedField) → (slice_index_or folds place d).field ≡ field

-- the text stands at the place
pub record IsFoldAt (folds : List FoldedField) (text : Bytes) (place : ℕ) : Type 0 where
  pub inside : place < length folds
  pub text_is : (d : FoldedField) → (slice_index_or folds place d).text.items ≡ text
