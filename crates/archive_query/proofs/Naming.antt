-- Words, and what they name.
use Rattle.std.proofs.Common.{◌≡◌, true, false, List, [], ◌∷◌, Some, refl, ap, ◌∙◌}
use Rattle.std.specs.Prelude.{if◌then◌else◌}
use Rattle.news_types.specs.declared.words.Kind.{Kind}
use Rattle.news_types.specs.declared.words.Kind.TheVariants.{First, Correct, Kill, Recall}
use Rattle.news_types.specs.Names.{Bytes, same}
use Rattle.news_types.proofs.Members.{same_is, some_is, none_some}
use Rattle.archive_query.specs.declared.words.TextField.{TextField}
use Rattle.archive_query.specs.declared.words.TextField.TheVariants.{Slugline, Headline, Byline, Language, Category, Body}
use Rattle.archive_query.specs.declared.words.NumberField.{NumberField}
use Rattle.archive_query.specs.declared.words.NumberField.TheVariants as field
use Rattle.archive_query.specs.declared.words.TextOperator.{TextOperator}
use Rattle.archive_query.specs.declared.words.TextOperator.TheVariants as text
use Rattle.archive_query.specs.declared.words.NumberOperator.{NumberOperator}
use Rattle.archive_query.specs.declared.words.NumberOperator.TheVariants as number
use Rattle.archive_query.specs.Words.{named, text_field_word, text_field_of, number_field_word, number_field_of, text_operator_word, text_operator_of, number_operator_word, number_operator_of, act_word, act_of}

-- what a word names has that word
pub named_is : {A : Type 0} (word_of : A → Bytes) (others : List A) (word : Bytes) (a : A) → named word_of others word ≡ Some a → word ≡ word_of a
named_is word_of [] word a is = absurd (none_some a is)
named_is word_of (b ∷ others) word a is =
    elim (same word (word_of b)) as (λ v. same word (word_of b) ≡ v → (if v then Some b else named word_of others word) ≡ Some a → word ≡ word_of a) [
      | true ↦ λ alike this. same_is word (word_of b) alike ∙ ap word_of (some_is b a this)
      | false ↦ λ differ that. named_is word_of others word a that
    ] refl is

-- and a word names what has it
pub text_field_itself : (f : TextField) → text_field_of (text_field_word f) ≡ Some f
text_field_itself Slugline = refl
text_field_itself Headline = refl
text_field_itself Byline = refl
text_field_itself Language = refl
text_field_itself Category = refl
text_field_itself Body = refl

pub number_field_itself : (f : NumberField) → number_field_of (number_field_word f) ≡ Some f
number_field_itself field.Number = refl
number_field_itself field.Item = refl
number_field_itself field.Version = refl
number_field_itself field.Urgency = refl
number_field_itself field.Release = refl

pub text_operator_itself : (o : TextOperator) → text_operator_of (text_operator_word o) ≡ Some o
text_operator_itself text.Is = refl
text_operator_itself text.Has = refl
text_operator_itself text.Starts = refl

pub number_operator_itself : (o : NumberOperator) → number_operator_of (number_operator_word o) ≡ Some o
number_operator_itself number.Is = refl
number_operator_itself number.Below = refl
number_operator_itself number.Above = refl

pub act_itself : (kind : Kind) → act_of (act_word kind) ≡ Some kind
act_itself First = refl
act_itself Correct = refl
act_itself Kill = refl
act_itself Recall = refl
