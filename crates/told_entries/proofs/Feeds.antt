-- No text of a value has a line feed.
use Rattle.std.specs.Prelude.{◌≡◌, ◌≢◌, ℕ, zero, suc, ◌<◌, List, [], ◌∷◌, ◌++◌, Bool, true, false, not, ◌&&◌, ◌==◌, decimal}
use Rattle.std.proofs.Common.{refl, ap, ◌∙◌, subst, arith, inl, inr, ne_eqb}
use Rattle.std.proofs.lemmas.Bool.{and_parts, and_from, cases_lt, cases_eq}
use Rattle.std.proofs.lemmas.Fmt.{decimal_is_IsNumeral}
use Rattle.std.specs.Char.{digit_value}
use Rattle.std.specs.Str.Parse.{AllDigits}
use Rattle.json.specs.Print.{escape_byte, escape, quoted}
use Rattle.json.proofs.Printed.Strings.{escape_byte_plain}
use Rattle.serde_json.specs.Data.{unsigned, negative, float, Data, null, boolean, number, string, array, object, Items, no_items, item, Members, no_members, member}
use Rattle.serde_json.specs.Written.{compact_text, items_text, members_text, comma_if}
use Rattle.told_entries.proofs.Sound.{IsSound, ItemsAreSound, MembersAreSound}

-- no byte is a line feed
abbrev pub one_line : List ℕ → Bool
one_line [] = true
one_line (x ∷ xs) = not (x == 10) && one_line xs

pub line-append : (xs ys : List ℕ) → one_line xs ≡ true → one_line ys ≡ true → one_line (xs ++ ys) ≡ true
line-append [] ys h k = k
line-append (x ∷ xs) ys h k = let p = and_parts (not (x == 10)) (one_line xs) h in and_from _ _ p.0 (line-append xs ys p.1 k)

-- the escapes of the bytes below n have none
abbrev escapes_below : ℕ → Bool
escapes_below zero = true
escapes_below (suc n) = one_line (escape_byte n) && escapes_below n

below : (n : ℕ) → escapes_below n ≡ true → (x : ℕ) → x < n → one_line (escape_byte x) ≡ true
below zero e x h = absurd (omega arith)
below (suc n) e x h =
    let p = and_parts _ _ e in
    elim (cases_eq x n) [ inl same ↦ rw same p.0 | inr other ↦ below n p.1 x (omega arith) ]

first_ones : escapes_below 128 ≡ true
unfolding escape_byte
first_ones = refl

one_byte : (x : ℕ) → x ≢ 10 → one_line (x ∷ []) ≡ true
one_byte x other = rw (ne_eqb x 10 other) refl

escape_line : (x : ℕ) → one_line (escape_byte x) ≡ true
escape_line x = elim (cases_lt x 128) [
  | inl small ↦ below 128 first_ones x small
  | inr large ↦ ap one_line (escape_byte_plain x (λ e. omega arith) (λ e. omega arith) (omega arith)) ∙ one_byte x (λ e. omega arith)
]

escaped : (s : List ℕ) → one_line (escape s) ≡ true
escaped [] = refl
escaped (x ∷ s) = line-append (escape_byte x) (escape s) (escape_line x) (escaped s)

quoted_line : (s : List ℕ) → one_line (quoted s) ≡ true
quoted_line s = line-append (escape s) (34 ∷ []) (escaped s) refl

digit_line : (d : ℕ) → digit_value d < 10 → d ≢ 10
digit_line d small e = let low : 36 < 10 = subst (λ (x : ℕ). digit_value x < 10) e small in absurd (omega arith)

digits_line : (ds : List ℕ) → AllDigits 10 ds → one_line ds ≡ true
digits_line [] h = refl
digits_line (d ∷ ds) h = and_from _ _ (ap not (ne_eqb d 10 (digit_line d h.0))) (digits_line ds h.1)

comma_line : (later : Bool) (bytes : List ℕ) → one_line bytes ≡ true → one_line (comma_if later ++ bytes) ≡ true
comma_line true bytes h = h
comma_line false bytes h = h

mutual
  pub text_line : (levels : ℕ) (d : Data) → IsSound levels d → one_line (compact_text d) ≡ true
  text_line levels null h = refl
  text_line levels (boolean true) h = refl
  text_line levels (boolean false) h = refl
  text_line levels (number (unsigned n)) h = digits_line (decimal n) (decimal_is_IsNumeral n h).0.1
  text_line levels (number (negative z)) h = absurd h
  text_line levels (number (float x)) h = absurd h
  text_line levels (string s) h = quoted_line s
  text_line zero (array ds) h = absurd h
  text_line (suc levels) (array ds) h = items_line levels false ds h
  text_line zero (object ms) h = absurd h
  text_line (suc levels) (object ms) h = members_line levels false ms h.1

  items_line : (levels : ℕ) (later : Bool) (ds : Items) → ItemsAreSound levels ds → one_line (items_text later ds) ≡ true
  items_line levels later no_items h = refl
  items_line levels later (item d ds) h = comma_line later _ (line-append (compact_text d) (items_text true ds) (text_line levels d h.0) (items_line levels true ds h.1))

  members_line : (levels : ℕ) (later : Bool) (ms : Members) → MembersAreSound levels ms → one_line (members_text later ms) ≡ true
  members_line levels later no_members h = refl
  members_line levels later (member k d ms) h =
      comma_line later _ (line-append (quoted k) _ (quoted_line k) (line-append (compact_text d) (members_text true ms) (text_line levels d h.1) (members_line levels true ms h.2)))
