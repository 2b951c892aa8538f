-- Queries of the archive, and which publications they mean.
use Rattle.std.specs.Prelude.{ℕ, Bool, true, false, not, ◌==◌, ◌&&◌, ◌||◌, nat_eq, nat_lt, List, map, filter, reverse}
use Rattle.std.specs.List.{starts_with}
use Rattle.news_types.specs.declared.words.Kind.{Kind}
use Rattle.news_types.specs.declared.words.Kind.TheVariants.{First, Correct, Kill, Recall}
use Rattle.news_types.specs.declared.story.Story.{Story}
use Rattle.news_types.specs.declared.query.Publication.{Publication}
use Rattle.news_types.specs.Names.{Bytes, same}
use Rattle.news_types.specs.Conditions.{folded, has_part}
use Rattle.news_types.specs.History.{History}
use Rattle.news_types.specs.Due.{Pub, shown}
use Rattle.news_types.specs.Publications.{pubs}
use Rattle.archive_query.specs.declared.words.TextField.{TextField}
use Rattle.archive_query.specs.declared.words.TextField.TheVariants.{Slugline, Headline, Byline, Language, Category, Body}
use Rattle.archive_query.specs.declared.words.NumberField.{NumberField}
use Rattle.archive_query.specs.declared.words.NumberField.TheVariants as field
use Rattle.archive_query.specs.declared.words.TextOperator.{TextOperator}
use Rattle.archive_query.specs.declared.words.TextOperator.TheVariants as text
use Rattle.archive_query.specs.declared.words.NumberOperator.{NumberOperator}
use Rattle.archive_query.specs.declared.words.NumberOperator.TheVariants as number

-- ---- what a query is

pub data Test : Type 0 where
  Text : TextField → TextOperator → Bytes → Test
  Number : NumberField → NumberOperator → ℕ → Test
  Act : Kind → Test

pub data Query : Type 0 where
  Tested : Test → Query
  Not : Query → Query
  And : Query → Query → Query
  Or : Query → Query → Query

-- ---- what it means of a publication

abbrev pub text_of : TextField → Story → Bytes
text_of Slugline story = story.slugline
text_of Headline story = story.headline
text_of Byline story = story.byline
text_of Language story = story.language
text_of Category story = story.category
text_of Body story = story.body

abbrev pub number_of : NumberField → Publication → ℕ
number_of field.Number p = p.number
number_of field.Item p = p.item
number_of field.Version p = p.version
number_of field.Urgency p = p.story.urgency
number_of field.Release p = p.release

-- `is` compares bytes, `has` and `starts` compare without case
abbrev pub text_holds : TextOperator → Bytes → Bytes → Bool
text_holds text.Is found value = same found value
text_holds text.Has found value = has_part (folded found) (folded value)
text_holds text.Starts found value = starts_with nat_eq (folded found) (folded value)

abbrev pub number_holds : NumberOperator → ℕ → ℕ → Bool
number_holds number.Is found value = found == value
number_holds number.Below found value = nat_lt found value
number_holds number.Above found value = nat_lt value found

abbrev pub same_act : Kind → Kind → Bool
same_act First First = true
same_act Correct Correct = true
same_act Kill Kill = true
same_act Recall Recall = true
same_act _ _ = false

abbrev pub test_holds : Test → Publication → Bool
test_holds (Text f o value) p = text_holds o (text_of f p.story) value
test_holds (Number f o value) p = number_holds o (number_of f p) value
test_holds (Act kind) p = same_act p.kind kind

abbrev pub meaning : Query → Publication → Bool
meaning (Tested t) p = test_holds t p
meaning (Not q) p = not (meaning q p)
meaning (And q r) p = meaning q p && meaning r p
meaning (Or q r) p = meaning q p || meaning r p

-- ---- what it finds in a list

-- the numbers of the publications of which it is true, in order
abbrev pub hits : History → Query → List ℕ
hits h q = map (λ (p : Pub). p.number) (filter (λ (p : Pub). meaning q (shown p)) (reverse (pubs h)))
