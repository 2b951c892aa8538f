-- The words of rows.
use Rattle.std.specs.Prelude.{ℕ, ◌==◌, bit_and, List, [], ◌∷◌, codes, if◌then◌else◌, Bool}
use Rattle.std.specs.List.{flat_map}
use Rattle.news_types.specs.declared.words.Format.{Format}
use Rattle.news_types.specs.declared.words.How.{How}
use Rattle.news_types.specs.declared.words.Field.{Field}
use Rattle.news_types.specs.declared.words.Op.{Op}
use Rattle.news_types.specs.declared.words.PubStatus.{PubStatus}
use Rattle.news_types.specs.declared.words.PubStatus.TheVariants as status
use Rattle.news_types.specs.declared.words.Privileges.{Privileges}
use Rattle.news_types.specs.contracts.words.FormatPartialEq.TheImpl as format_eq
use Rattle.news_types.specs.contracts.words.HowPartialEq.TheImpl as how_eq
use Rattle.news_types.specs.contracts.words.FieldPartialEq.TheImpl as field_eq
use Rattle.news_types.specs.contracts.words.OpPartialEq.TheImpl as op_eq
use Rattle.news_types.specs.Names.{Bytes}
use Rattle.feed_reasons.specs.declared.course.Course.{Course}
use Rattle.feed_reasons.specs.declared.course.Course.TheVariants.{NotDue, TakenBack, Waits, Sent}
use Rattle.desk_views.specs.declared.question.Register.{Register}
use Rattle.desk_views.specs.contracts.question.RegisterPartialEq.TheImpl as register_eq
use Rattle.desk_lines.specs.Words.{register_words, format_words, how_words, field_words, op_words, privilege_bits, day_bits}

-- ---- the words that lines are read by

-- the first word that stands for the value
abbrev pub word_in : {A : Type 0} → (A → A → Bool) → List (Bytes × A) → A → Bytes
word_in is_same [] value = []
word_in is_same (w ∷ words) value = if is_same w.1 value then w.0 else word_in is_same words value

abbrev pub register_word : Register → Bytes
register_word of = word_in (register_eq.ghosts).eq register_words of

abbrev pub format_word : Format → Bytes
format_word format = word_in (format_eq.ghosts).eq format_words format

abbrev pub how_word : How → Bytes
how_word how = word_in (how_eq.ghosts).eq how_words how

abbrev pub field_word : Field → Bytes
field_word field = word_in (field_eq.ghosts).eq field_words field

abbrev pub op_word : Op → Bytes
op_word op = word_in (op_eq.ghosts).eq op_words op

-- the word, if its bit is in the set
abbrev pub word_if : ℕ → Bytes × ℕ → List Bytes
word_if set w = if bit_and set w.1 == 0 then [] else w.0 ∷ []

-- the words whose bits are in the set
abbrev pub words_of : List (Bytes × ℕ) → ℕ → List Bytes
words_of words set = flat_map (word_if set) words

-- what a user may do
abbrev pub privilege_words : Privileges → List Bytes
privilege_words set = words_of privilege_bits set.bits

-- the days of a rule, from Monday on
abbrev pub day_words : ℕ → List Bytes
day_words days = words_of day_bits days

-- ---- others

-- whether what a provider sent may be used
abbrev pub status_word : PubStatus → Bytes
status_word status.Usable = codes "usable"
status_word status.Withheld = codes "withheld"
status_word status.Canceled = codes "canceled"

-- what becomes of a publication
abbrev pub course_word : Course → Bytes
course_word NotDue = codes "not_due"
course_word TakenBack = codes "taken_back"
course_word (Waits until) = codes "waits"
course_word (Sent k acked) = codes "sent"
