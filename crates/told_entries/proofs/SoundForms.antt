-- What stands in a request is sound, and not long.
use Rattle.std.specs.Prelude.{◌≡◌, ℕ, suc, ◌+◌, ◌*◌, ◌/◌, ◌%◌, ◌^◌, ◌<◌, ◌≤◌, List, [], ◌∷◌, length, true, false, ◌==◌, if◌then◌else◌, Option, Some, None, All, IsUtf8}
use Rattle.std.specs.List.{AllByRecursion}
use Rattle.std.proofs.Common.{refl, arith}
use Rattle.std.proofs.lemmas.List.Elements.{recursion_from_All}
use Rattle.json.proofs.Printed.Utf8.{are_ascii, IsUtf8-are_ascii}
use Rattle.serde_json.specs.Data as json
use Rattle.serde_json.specs.Data.{Data, Items, Members}
use Rattle.news_types.specs.declared.words.Media.{Media}
use Rattle.news_types.specs.declared.words.Media.TheVariants as media
use Rattle.news_types.specs.declared.words.Field.{Field}
use Rattle.news_types.specs.declared.words.Field.TheVariants as field
use Rattle.news_types.specs.declared.words.Op.{Op}
use Rattle.news_types.specs.declared.words.Op.TheVariants as op
use Rattle.news_types.specs.declared.words.Format.{Format}
use Rattle.news_types.specs.declared.words.Format.TheVariants as format
use Rattle.news_types.specs.declared.words.How.{How}
use Rattle.news_types.specs.declared.words.How.TheVariants as how
use Rattle.news_types.specs.declared.story.Story.{Story}
use Rattle.news_types.specs.declared.rules.Statement.{Statement}
use Rattle.news_types.specs.declared.rules.Place.{Place}
use Rattle.news_types.specs.declared.rules.Rule.{Rule}
use Rattle.news_types.specs.Conditions.{media_word}
use Rattle.news_types.specs.Fits.{IsMoment, FitsStory}
use Rattle.news_types.specs.FitsCommands.{IfGiven, FitsStatement, FitsRule}
use Rattle.news_types.specs.Names.{Bytes}
use Rattle.byte_formats.specs.Spelling.{IsName, IsOption}
use Rattle.byte_formats.proofs.Names.{name_parts, name_text}
use Rattle.entry_codec.specs.Formed.{IsFormedStory, IsFormedStatement, IsFormedPlace, IsFormedRule}
use Rattle.desk_lines.specs.Words.{privilege_bits, day_bits}
use Rattle.told_objects.specs.Members.{objects}
use Rattle.told_entries.specs.Words.{field_word, op_word, format_word, how_word}
use Rattle.told_entries.specs.Members.{strings, bit_words, text_or_null, number_or_null, inner_or_null}
use Rattle.told_entries.specs.Objects.{story_members, statement_members, place_members, rule_members}
use Rattle.told_entries.proofs.Sound.{IsSound, ItemsAreSound}
use Rattle.told_entries.proofs.Sizes.{size, items_size}
use Rattle.told_entries.proofs.Each.{each_so, both_so}

-- ---- words

-- a text in ASCII of few bytes
pub record IsWord (text : Bytes) : Type 0 where
  pub ascii : are_ascii text ≡ true
  pub short : length text ≤ 16

abbrev pub literal : (text : Bytes) → are_ascii text ≡ true → length text ≤ 16 → IsWord text
literal text a s = record { ascii = a; short = s }

pub word_text : (text : Bytes) → IsWord text → IsUtf8 text
word_text text w = IsUtf8-are_ascii text w.ascii

pub media_is : (x : Media) → IsWord (media_word x)
media_is media.Text = literal _ refl (omega arith)
media_is media.Audio = literal _ refl (omega arith)
media_is media.Video = literal _ refl (omega arith)
media_is media.Picture = literal _ refl (omega arith)
media_is media.Graphic = literal _ refl (omega arith)
media_is media.Composite = literal _ refl (omega arith)

pub field_is : (x : Field) → IsWord (field_word x)
field_is field.Slugline = literal _ refl (omega arith)
field_is field.Headline = literal _ refl (omega arith)
field_is field.Byline = literal _ refl (omega arith)
field_is field.Language = literal _ refl (omega arith)
field_is field.Category = literal _ refl (omega arith)
field_is field.Body = literal _ refl (omega arith)
field_is field.Urgency = literal _ refl (omega arith)
field_is field.Kind = literal _ refl (omega arith)

pub op_is : (x : Op) → IsWord (op_word x)
op_is op.Eq = literal _ refl (omega arith)
op_is op.Ne = literal _ refl (omega arith)
op_is op.Within = literal _ refl (omega arith)
op_is op.Nin = literal _ refl (omega arith)
op_is op.Like = literal _ refl (omega arith)
op_is op.NotLike = literal _ refl (omega arith)
op_is op.StartsWith = literal _ refl (omega arith)
op_is op.EndsWith = literal _ refl (omega arith)
op_is op.Lt = literal _ refl (omega arith)
op_is op.Lte = literal _ refl (omega arith)
op_is op.Gt = literal _ refl (omega arith)
op_is op.Gte = literal _ refl (omega arith)

pub format_is : (x : Format) → IsWord (format_word x)
format_is format.Ninjs = literal _ refl (omega arith)
format_is format.Text7901 = literal _ refl (omega arith)

pub how_is : (x : How) → IsWord (how_word x)
how_is how.Permitting = literal _ refl (omega arith)
how_is how.Blocking = literal _ refl (omega arith)

-- ---- names, lists and what may be null

pub name_short : (name : Bytes) → IsName name → length name ≤ 32
name_short name form = (name_parts name form).1

pub given_name_sound : (levels : ℕ) (given : Option Bytes) → IsOption IsName given → IsSound levels (text_or_null given)
given_name_sound levels None h = tt
given_name_sound levels (Some n) h = name_text n h

pub given_name_size : (given : Option Bytes) → IsOption IsName given → size (text_or_null given) ≤ 194
given_name_size None h = omega arith
given_name_size (Some n) h = omega (arith, name_short n h)

pub given_number_sound : (levels : ℕ) (given : Option ℕ) → IfGiven (λ n. n < 2 ^ 64) given → IsSound levels (number_or_null given)
given_number_sound levels None h = tt
given_number_sound levels (Some n) h = h

pub given_number_size : (given : Option ℕ) → size (number_or_null given) ≤ 20
given_number_size None = omega arith
given_number_size (Some n) = omega arith

pub given_so : {A : Type 0} (P Q : A → Type 0) → ((a : A) → P a → Q a) → (given : Option A) → IfGiven P given → IfGiven Q given
given_so P Q f None h = tt
given_so P Q f (Some a) h = f a h

pub moment_whole : (given : Option ℕ) → IfGiven IsMoment given → IfGiven (λ n. n < 2 ^ 64) given
moment_whole given h = given_so IsMoment (λ n. n < 2 ^ 64) (λ n small. omega arith) given h

strings_sound : (levels : ℕ) (texts : List Bytes) → AllByRecursion IsUtf8 texts → ItemsAreSound levels (strings texts)
strings_sound levels [] h = tt
strings_sound levels (t ∷ texts) h = (h.0, strings_sound levels texts h.1)

strings_size : (most : ℕ) (texts : List Bytes) → AllByRecursion (λ t. 3 + 6 * length t ≤ most) texts → items_size (strings texts) ≤ 1 + most * length texts
strings_size most [] h = omega arith
strings_size most (t ∷ texts) h = omega (arith, h.0, strings_size most texts h.1)

pub names_sound : (levels : ℕ) (names : List Bytes) → All IsName names → ItemsAreSound levels (strings names)
names_sound levels names h = strings_sound levels names (each_so _ _ name_text names (recursion_from_All IsName names h))

pub names_size : (names : List Bytes) → All IsName names → items_size (strings names) ≤ 1 + 195 * length names
names_size names h = strings_size 195 names (each_so IsName (λ n. 3 + 6 * length n ≤ 195) (λ n form. omega (arith, name_short n form)) names (recursion_from_All IsName names h))

pub texts_sound : (levels : ℕ) (texts : List Bytes) → All IsUtf8 texts → ItemsAreSound levels (strings texts)
texts_sound levels texts h = strings_sound levels texts (recursion_from_All IsUtf8 texts h)

pub texts_size : (texts : List Bytes) → All (λ t. length t ≤ 500) texts → items_size (strings texts) ≤ 1 + 3003 * length texts
texts_size texts h = strings_size 3003 texts (each_so (λ t. length t ≤ 500) (λ t. 3 + 6 * length t ≤ 3003) (λ t short. omega arith) texts (recursion_from_All (λ t. length t ≤ 500) texts h))

-- ---- sets

abbrev AreWords : List (Bytes × ℕ) → Type 0
AreWords rows = AllByRecursion (λ (row : Bytes × ℕ). IsWord row.0) rows

bit_words_sound : (levels : ℕ) (rows : List (Bytes × ℕ)) (set : ℕ) → AreWords rows → ItemsAreSound levels (strings (bit_words rows set))
bit_words_sound levels [] set h = tt
bit_words_sound levels (row ∷ rows) set h =
    elim (set / row.1 % 2 == 1) as (λ b. ItemsAreSound levels (strings (if b then row.0 ∷ bit_words rows set else bit_words rows set))) [
      | true ↦ (word_text row.0 h.0, bit_words_sound levels rows set h.1)
      | false ↦ bit_words_sound levels rows set h.1
    ]

bit_words_size : (rows : List (Bytes × ℕ)) (set : ℕ) → AreWords rows → items_size (strings (bit_words rows set)) ≤ 1 + 99 * length rows
bit_words_size [] set h = omega arith
bit_words_size (row ∷ rows) set h =
    elim (set / row.1 % 2 == 1) as (λ b. items_size (strings (if b then row.0 ∷ bit_words rows set else bit_words rows set)) ≤ 1 + 99 * length (row ∷ rows)) [
      | true ↦ omega (arith, h.0.short, bit_words_size rows set h.1)
      | false ↦ omega (arith, bit_words_size rows set h.1)
    ]

day_words : AreWords day_bits
day_words =
    (literal _ refl (omega arith), (literal _ refl (omega arith), (literal _ refl (omega arith), (literal _ refl (omega arith), (literal _ refl (omega arith), (literal _ refl (omega arith), (literal _ refl (omega arith), tt)))))))

privilege_words : AreWords privilege_bits
privilege_words = (
  literal _ refl (omega arith),
  (
    literal _ refl (omega arith),
    (
      literal _ refl (omega arith),
      (
        literal _ refl (omega arith),
        (
          literal _ refl (omega arith),
          (literal _ refl (omega arith), (literal _ refl (omega arith), (literal _ refl (omega arith), (literal _ refl (omega arith), (literal _ refl (omega arith), tt))))),
        ),
      ),
    ),
  ),
)

pub days_sound : (levels set : ℕ) → ItemsAreSound levels (strings (bit_words day_bits set))
days_sound levels set = bit_words_sound levels day_bits set day_words

pub days_size : (set : ℕ) → items_size (strings (bit_words day_bits set)) ≤ 694
days_size set = bit_words_size day_bits set day_words

pub privileges_sound : (levels set : ℕ) → ItemsAreSound levels (strings (bit_words privilege_bits set))
privileges_sound levels set = bit_words_sound levels privilege_bits set privilege_words

pub privileges_size : (set : ℕ) → items_size (strings (bit_words privilege_bits set)) ≤ 991
privileges_size set = bit_words_size privilege_bits set privilege_words

-- ---- objects

pub story_sound : (levels : ℕ) (s : Story) → FitsStory s → IsFormedStory s → IsSound (suc levels) (json.object (story_members s))
unfolding story_members
story_sound levels s fits formed = (
  refl,
  (
    refl,
    formed.plain.body,
    (
      refl,
      formed.plain.byline,
      (
        refl,
        formed.plain.category,
        (
          refl,
          formed.copyright,
          (
            refl,
            formed.plain.headline,
            (
              refl,
              tt,
              (refl, word_text _ (media_is s.kind), (refl, formed.plain.language, (refl, formed.plain.slugline, (refl, omega (arith, fits.urgency), tt)))),
            ),
          ),
        ),
      ),
    ),
  ),
)

pub story_size : (s : Story) → FitsStory s → size (json.object (story_members s)) ≤ 3200000
unfolding story_members
story_size s fits =
    omega (arith, fits.body, fits.byline, fits.category, fits.copyright, fits.headline, fits.language, fits.slugline, (media_is s.kind).short)

statement_sound : (levels : ℕ) (s : Statement) → IsFormedStatement s → IsSound (suc (suc levels)) (json.object (statement_members s))
unfolding statement_members
statement_sound levels s formed = (refl, (refl, names_sound levels s.conditions formed.conditions, (refl, names_sound levels s.filters formed.filters, tt)))

statement_size : (s : Statement) → FitsStatement s → IsFormedStatement s → size (json.object (statement_members s)) ≤ 6000
unfolding statement_members
statement_size s fits formed = omega (arith, fits.conditions, fits.filters, names_size s.conditions formed.conditions, names_size s.filters formed.filters)

place_sound : (levels : ℕ) (given : Option Place) → IsOption IsFormedPlace given → IsSound (suc levels) (inner_or_null place_members given)
unfolding place_members
place_sound levels None formed = tt
place_sound levels (Some p) formed = (refl, (refl, name_text p.desk formed.desk, (refl, name_text p.stage formed.stage, tt)))

place_size : (given : Option Place) → IsOption IsFormedPlace given → size (inner_or_null place_members given) ≤ 600
unfolding place_members
place_size None formed = omega arith
place_size (Some p) formed = omega (arith, name_short p.desk formed.desk, name_short p.stage formed.stage)

rule_sound : (levels : ℕ) (r : Rule) → IsFormedRule r → IsSound (suc (suc levels)) (json.object (rule_members r))
unfolding rule_members
rule_sound levels r formed = (
  refl,
  (
    refl,
    days_sound levels r.days,
    (
      refl,
      tt,
      (
        refl,
        place_sound levels r.fetch formed.fetch,
        (
          refl,
          given_name_sound (suc levels) r.filter formed.filter,
          (refl, omega (arith, formed.from), (refl, tt, (refl, omega (arith, formed.to), (refl, formed.zone, tt)))),
        ),
      ),
    ),
  ),
)

rule_size : (r : Rule) → FitsRule r → IsFormedRule r → size (json.object (rule_members r)) ≤ 3000
unfolding rule_members
rule_size r fits formed = omega (arith, days_size r.days, place_size r.fetch formed.fetch, given_name_size r.filter formed.filter, fits.zone)

objects_sound : {A : Type 0} (levels : ℕ) (members_of : A → Members) (xs : List A) → AllByRecursion (λ x. IsSound levels (json.object (members_of x))) xs → ItemsAreSound levels (objects members_of xs)
objects_sound levels members_of [] h = tt
objects_sound levels members_of (x ∷ xs) h = (h.0, objects_sound levels members_of xs h.1)

objects_size : {A : Type 0} (most : ℕ) (members_of : A → Members) (xs : List A) → AllByRecursion (λ x. 1 + size (json.object (members_of x)) ≤ most) xs → items_size (objects members_of xs) ≤ 1 + most * length xs
objects_size most members_of [] h = omega arith
objects_size most members_of (x ∷ xs) h = omega (arith, h.0, objects_size most members_of xs h.1)

pub statements_sound : (levels : ℕ) (xs : List Statement) → All IsFormedStatement xs → ItemsAreSound (suc (suc levels)) (objects statement_members xs)
statements_sound levels xs formed = objects_sound (suc (suc levels)) statement_members xs (each_so _ _ (statement_sound levels) xs (recursion_from_All IsFormedStatement xs formed))

pub statements_size : (xs : List Statement) → All FitsStatement xs → All IsFormedStatement xs → items_size (objects statement_members xs) ≤ 1 + 6001 * length xs
statements_size xs fits formed =
    objects_size 6001 statement_members xs (both_so FitsStatement IsFormedStatement (λ x. 1 + size (json.object (statement_members x)) ≤ 6001) (λ x f g. omega (arith, statement_size x f g)) xs
    (recursion_from_All FitsStatement xs fits) (recursion_from_All IsFormedStatement xs formed))

pub rules_sound : (levels : ℕ) (xs : List Rule) → All IsFormedRule xs → ItemsAreSound (suc (suc levels)) (objects rule_members xs)
rules_sound levels xs formed = objects_sound (suc (suc levels)) rule_members xs (each_so _ _ (rule_sound levels) xs (recursion_from_All IsFormedRule xs formed))

pub rules_size : (xs : List Rule) → All FitsRule xs → All IsFormedRule xs → items_size (objects rule_members xs) ≤ 1 + 3001 * length xs
rules_size xs fits formed =
    objects_size 3001 rule_members xs (both_so FitsRule IsFormedRule (λ x. 1 + size (json.object (rule_members x)) ≤ 3001) (λ x f g. omega (arith, rule_size x f g)) xs
    (recursion_from_All FitsRule xs fits) (recursion_from_All IsFormedRule xs formed))
