-- The words of a query.
use Rattle.std.specs.Prelude.{List, [], ◌∷◌, Option, Some, None, codes, if◌then◌else◌}
use Rattle.news_types.specs.declared.words.Kind.{Kind}
use Rattle.news_types.specs.declared.words.Kind.TheVariants.{First, Correct, Kill, Recall}
use Rattle.news_types.specs.Names.{Bytes, same}
use Rattle.archive_query.specs.declared.words.TextField.{TextField}
use Rattle.archive_query.specs.declared.words.TextField.TheVariants.{Slugline, Headline, Byline, Language, Category, Body}
use Rattle.archive_query.specs.declared.words.NumberField.{NumberField}
use Rattle.archive_query.specs.declared.words.NumberField.TheVariants as field
use Rattle.archive_query.specs.declared.words.TextOperator.{TextOperator}
use Rattle.archive_query.specs.declared.words.TextOperator.TheVariants as text
use Rattle.archive_query.specs.declared.words.NumberOperator.{NumberOperator}
use Rattle.archive_query.specs.declared.words.NumberOperator.TheVariants as number

abbrev pub text_field_word : TextField → Bytes
text_field_word Slugline = codes "slugline"
text_field_word Headline = codes "headline"
text_field_word Byline = codes "byline"
text_field_word Language = codes "language"
text_field_word Category = codes "category"
text_field_word Body = codes "body"

abbrev pub number_field_word : NumberField → Bytes
number_field_word field.Number = codes "number"
number_field_word field.Item = codes "item"
number_field_word field.Version = codes "version"
number_field_word field.Urgency = codes "urgency"
number_field_word field.Release = codes "release"

abbrev pub text_operator_word : TextOperator → Bytes
text_operator_word text.Is = codes "is"
text_operator_word text.Has = codes "has"
text_operator_word text.Starts = codes "starts"

abbrev pub number_operator_word : NumberOperator → Bytes
number_operator_word number.Is = codes "is"
number_operator_word number.Below = codes "below"
number_operator_word number.Above = codes "above"

abbrev pub act_word : Kind → Bytes
act_word First = codes "first"
act_word Correct = codes "correct"
act_word Kill = codes "kill"
act_word Recall = codes "recall"

-- ---- what a word names

-- the first of these whose word it is
abbrev pub named : {A : Type 0} → (A → Bytes) → List A → Bytes → Option A
named word_of [] word = None
named word_of (a ∷ others) word = if same word (word_of a) then Some a else named word_of others word

abbrev pub text_fields : List TextField
text_fields = Slugline ∷ Headline ∷ Byline ∷ Language ∷ Category ∷ Body ∷ []

abbrev pub number_fields : List NumberField
number_fields = field.Number ∷ field.Item ∷ field.Version ∷ field.Urgency ∷ field.Release ∷ []

abbrev pub text_operators : List TextOperator
text_operators = text.Is ∷ text.Has ∷ text.Starts ∷ []

abbrev pub number_operators : List NumberOperator
number_operators = number.Is ∷ number.Below ∷ number.Above ∷ []

abbrev pub acts : List Kind
acts = First ∷ Correct ∷ Kill ∷ Recall ∷ []

abbrev pub text_field_of : Bytes → Option TextField
text_field_of word = named text_field_word text_fields word

abbrev pub number_field_of : Bytes → Option NumberField
number_field_of word = named number_field_word number_fields word

abbrev pub text_operator_of : Bytes → Option TextOperator
text_operator_of word = named text_operator_word text_operators word

abbrev pub number_operator_of : Bytes → Option NumberOperator
number_operator_of word = named number_operator_word number_operators word

abbrev pub act_of : Bytes → Option Kind
act_of word = named act_word acts word
