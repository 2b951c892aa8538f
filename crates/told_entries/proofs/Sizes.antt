-- How many bytes a text has at most: six for each byte of a string, twenty for a number.
use Rattle.std.specs.Prelude.{ℕ, zero, suc, ◌+◌, ◌*◌, ◌/◌, ◌%◌, ◌≤◌, List, [], ◌∷◌, ◌++◌, length, Bool, true, false}
use Rattle.std.proofs.Common.{arith, length-append, nat_lt, cond}
use Rattle.std.specs.Char.{digit_char}
use Rattle.std.proofs.lemmas.Fmt.{length-decimal-le}
use Rattle.json.specs.Print.{escape_byte, escape_letter, escape, quoted}
use Rattle.serde_json.specs.Data.{unsigned, negative, float, Data, null, boolean, number, string, array, object, Items, no_items, item, Members, no_members, member}
use Rattle.serde_json.specs.Written.{compact_text, items_text, members_text, comma_if}
use Rattle.told_entries.proofs.Sound.{IsSound, ItemsAreSound, MembersAreSound}

abbrev mutual
  pub size : Data → ℕ
  size null = 4
  size (boolean b) = 5
  size (number n) = 20
  size (string s) = 2 + 6 * length s
  size (array ds) = 1 + items_size ds
  size (object ms) = 1 + members_size ms

  -- with the closing bracket
  pub items_size : Items → ℕ
  items_size no_items = 1
  items_size (item d ds) = 1 + size d + items_size ds

  pub members_size : Members → ℕ
  members_size no_members = 1
  members_size (member k d ms) = 4 + 6 * length k + size d + members_size ms

picked : (p q : Bool) (x : ℕ) (a b : List ℕ) → length a ≤ 6 → length b ≤ 6 → length (cond p a (cond q b (x ∷ []))) ≤ 6
picked true q x a b ha hb = ha
picked false true x a b ha hb = hb
picked false false x a b ha hb = omega arith

escape_short : (x : ℕ) → length (escape_byte x) ≤ 6
unfolding escape_byte
escape_short x = picked (nat_lt 0 (escape_letter x)) (nat_lt x 32) x (92 ∷ escape_letter x ∷ []) (92 ∷ 117 ∷ 48 ∷ 48 ∷ digit_char (x / 16) ∷ digit_char (x % 16) ∷ []) (omega arith) (omega arith)

escaped : (s : List ℕ) → length (escape s) ≤ 6 * length s
escaped [] = omega arith
escaped (x ∷ s) = omega (arith, length-append (escape_byte x) (escape s), escape_short x, escaped s)

quoted_size : (s : List ℕ) → length (quoted s) ≤ 2 + 6 * length s
quoted_size s = omega (arith, length-append (escape s) (34 ∷ []), escaped s)

comma_size : (later : Bool) (bytes : List ℕ) → length (comma_if later ++ bytes) ≤ 1 + length bytes
comma_size true bytes = omega arith
comma_size false bytes = omega arith

mutual
  pub text_size : (levels : ℕ) (d : Data) → IsSound levels d → length (compact_text d) ≤ size d
  text_size levels null h = omega arith
  text_size levels (boolean true) h = omega arith
  text_size levels (boolean false) h = omega arith
  text_size levels (number (unsigned n)) h = length-decimal-le 20 n (omega arith) (omega arith) h
  text_size levels (number (negative z)) h = absurd h
  text_size levels (number (float x)) h = absurd h
  text_size levels (string s) h = quoted_size s
  text_size zero (array ds) h = absurd h
  text_size (suc levels) (array ds) h = omega (arith, items_text_size levels false ds h)
  text_size zero (object ms) h = absurd h
  text_size (suc levels) (object ms) h = omega (arith, members_text_size levels false ms h.1)

  items_text_size : (levels : ℕ) (later : Bool) (ds : Items) → ItemsAreSound levels ds → length (items_text later ds) ≤ items_size ds
  items_text_size levels later no_items h = omega arith
  items_text_size levels later (item d ds) h =
      omega (arith, comma_size later (compact_text d ++ items_text true ds), length-append (compact_text d) (items_text true ds), text_size levels d h.0, items_text_size levels true ds h.1)

  members_text_size : (levels : ℕ) (later : Bool) (ms : Members) → MembersAreSound levels ms → length (members_text later ms) ≤ members_size ms
  members_text_size levels later no_members h = omega arith
  members_text_size levels later (member k d ms) h =
      let rest = compact_text d ++ members_text true ms in
      omega (arith, comma_size later (quoted k ++ 58 ∷ rest), length-append (quoted k) (58 ∷ rest), length-append (compact_text d) (members_text true ms), quoted_size k, text_size levels d h.1, members_text_size levels true ms h.2)
