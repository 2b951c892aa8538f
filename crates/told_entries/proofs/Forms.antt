-- Values that are told are read back by their form.
use Rattle.std.specs.Prelude.{◌≡◌, ℕ, zero, suc, ◌/◌, ◌%◌, ◌<◌, ◌≤◌, List, [], ◌∷◌, length, Bool, true, false, ◌&&◌, ◌==◌, nat_le, if◌then◌else◌, Option, Some, None, option_and_then, All, bit_or}
use Rattle.std.specs.List.{AllByRecursion}
use Rattle.std.proofs.Common.{refl, ap, ◌∙◌, arith, le-leb, inl, inr}
use Rattle.std.proofs.lemmas.Bool.{and_parts, eqb-true, cases_eq, cond-true}
use Rattle.std.proofs.lemmas.List.Elements.{recursion_from_All}
use Rattle.serde_json.specs.Data as json
use Rattle.serde_json.specs.Data.{Data, Items, no_items, item}
use Rattle.news_types.specs.Fits.{IsMoment}
use Rattle.news_types.specs.FitsCommands.{IfGiven}
use Rattle.news_types.specs.Names.{Bytes}
use Rattle.byte_formats.specs.Spelling.{IsName, IsOption}
use Rattle.desk_lines.specs.Reading.{Form, unless_null, count}
use Rattle.desk_lines.specs.Forms.{whole, moment, text, name, all_of, list, among, bits, bits_from}
use Rattle.desk_lines.specs.Words.{privilege_bits, day_bits}
use Rattle.told_entries.specs.Members.{strings, bit_words, text_or_null, number_or_null}
use Rattle.told_entries.proofs.Each.{each_so}

-- ---- numbers, texts and names

pub whole_back : (most n : ℕ) → n ≤ most → whole most (json.number (json.unsigned n)) ≡ Some n
whole_back most n fits = cond-true _ _ _ (le-leb n most fits)

pub moment_back : (n : ℕ) → IsMoment n → moment (json.number (json.unsigned n)) ≡ Some n
moment_back n fits = let most : nat_le n 253402300799 ≡ true = le-leb n 253402300799 (omega arith) in rw most refl

pub text_back : (limit : ℕ) (t : Bytes) → length t ≤ limit → text limit (json.string t) ≡ Some t
text_back limit t fits = cond-true _ _ _ (le-leb (length t) limit fits)

pub name_back : (n : Bytes) → IsName n → name (json.string n) ≡ Some n
name_back n form = cond-true _ _ _ form

-- ---- what may be null

pub given_name_back : (given : Option Bytes) → IsOption IsName given → unless_null name (text_or_null given) ≡ Some given
given_name_back None form = refl
given_name_back (Some n) form = ap (option_and_then (λ a. Some (Some a))) (name_back n form)

pub given_moment_back : (given : Option ℕ) → IfGiven IsMoment given → unless_null moment (number_or_null given) ≡ Some given
given_moment_back None fits = refl
given_moment_back (Some n) fits = ap (option_and_then (λ a. Some (Some a))) (moment_back n fits)

pub given_number_back : (most : ℕ) (given : Option ℕ) → IfGiven (λ n. n ≤ most) given → unless_null (whole most) (number_or_null given) ≡ Some given
given_number_back most None fits = refl
given_number_back most (Some n) fits = ap (option_and_then (λ a. Some (Some a))) (whole_back most n fits)

-- ---- lists of texts

pub count_strings : (texts : List Bytes) → count (strings texts) ≡ length texts
count_strings [] = refl
count_strings (t ∷ texts) = ap suc (count_strings texts)

all_back : (form : Form Bytes) (texts : List Bytes) → AllByRecursion (λ t. form (json.string t) ≡ Some t) texts → all_of form (strings texts) ≡ Some texts
all_back form [] h = refl
all_back form (t ∷ texts) h = rw (h.0, all_back form texts h.1) refl

list_back : (limit : ℕ) (form : Form Bytes) (texts : List Bytes) → length texts ≤ limit → AllByRecursion (λ t. form (json.string t) ≡ Some t) texts
    → list limit form (json.array (strings texts)) ≡ Some texts
list_back limit form texts few h =
    cond-true _ _ _ (ap (λ n. nat_le n limit) (count_strings texts) ∙ le-leb (length texts) limit few) ∙ all_back form texts h

pub names_back : (limit : ℕ) (names : List Bytes) → length names ≤ limit → All IsName names → list limit name (json.array (strings names)) ≡ Some names
names_back limit names few forms = list_back limit name names few (each_so _ _ name_back names (recursion_from_All IsName names forms))

pub texts_back : (limit most : ℕ) (texts : List Bytes) → length texts ≤ limit → All (λ t. length t ≤ most) texts → list limit (text most) (json.array (strings texts)) ≡ Some texts
texts_back limit most texts few short = list_back limit (text most) texts few (each_so _ _ (text_back most) texts (recursion_from_All (λ t. length t ≤ most) texts short))

-- ---- sets

-- what is read of the words of the rows that are in the set
abbrev gathered : List (Bytes × ℕ) → ℕ → ℕ → ℕ
gathered [] read set = read
gathered (row ∷ rows) read set = gathered rows (if set / row.1 % 2 == 1 then bit_or read row.1 else read) set

abbrev AreAmong : List (Bytes × ℕ) → List (Bytes × ℕ) → Type 0
AreAmong words [] = Unit {0}
AreAmong words (row ∷ rows) = (among words row.0 ≡ Some row.1) × AreAmong words rows

gathered_back : (words rows : List (Bytes × ℕ)) (read set : ℕ) → AreAmong words rows → bits_from words read (strings (bit_words rows set)) ≡ Some (gathered rows read set)
gathered_back words [] read set h = refl
gathered_back words (row ∷ rows) read set h =
    elim (set / row.1 % 2 == 1) as (λ b. bits_from words read (strings (if b then row.0 ∷ bit_words rows set else bit_words rows set)) ≡ Some (gathered rows (if b then bit_or read row.1 else read) set)) [
      | true ↦ ap (option_and_then (λ bit. bits_from words (bit_or read bit) (strings (bit_words rows set)))) h.0 ∙ gathered_back words rows (bit_or read row.1) set h.1
      | false ↦ gathered_back words rows read set h.1
    ]

-- the test holds of each number below
abbrev below : (ℕ → Bool) → ℕ → Bool
below test zero = true
below test (suc n) = test n && below test n

below_so : (test : ℕ → Bool) (n : ℕ) → below test n ≡ true → (x : ℕ) → x < n → test x ≡ true
below_so test zero h x less = absurd (omega arith)
below_so test (suc n) h x less =
    let p = and_parts (test n) (below test n) h in
    elim (cases_eq x n) [ inl same ↦ ap test same ∙ p.0 | inr other ↦ below_so test n p.1 x (omega arith) ]

abbrev is_gathered : List (Bytes × ℕ) → ℕ → Bool
is_gathered rows set = gathered rows 0 set == set

days_gathered : below (is_gathered day_bits) 128 ≡ true
days_gathered = refl

privileges_gathered : below (is_gathered privilege_bits) 1024 ≡ true
privileges_gathered = refl

privileges_among : AreAmong privilege_bits privilege_bits
privileges_among = (refl, (refl, (refl, (refl, (refl, (refl, (refl, (refl, (refl, (refl, tt))))))))))

days_among : AreAmong day_bits day_bits
days_among = (refl, (refl, (refl, (refl, (refl, (refl, (refl, tt)))))))

pub privileges_back : (set : ℕ) → set < 1024 → bits privilege_bits (json.array (strings (bit_words privilege_bits set))) ≡ Some set
privileges_back set fits =
    gathered_back privilege_bits privilege_bits 0 set privileges_among ∙ ap Some (eqb-true _ _ (below_so (is_gathered privilege_bits) 1024 privileges_gathered set fits))

pub days_back : (set : ℕ) → set < 128 → bits day_bits (json.array (strings (bit_words day_bits set))) ≡ Some set
days_back set fits = gathered_back day_bits day_bits 0 set days_among ∙ ap Some (eqb-true _ _ (below_so (is_gathered day_bits) 128 days_gathered set fits))
