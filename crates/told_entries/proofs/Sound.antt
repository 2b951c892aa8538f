-- Values whose text is read back as the value: whole numbers of 64 bits, texts in UTF-8, keys in order, and few levels.
use Rattle.std.specs.Prelude.{◌≡◌, ℕ, zero, suc, ◌^◌, ◌<◌, ◌≤◌, List, [], ◌∷◌, ◌++◌, Bool, true, false, Option, Some, option_map, option_and_then, IsUtf8}
use Rattle.std.proofs.Common.{refl, sym, ap, ◌∙◌, arith, append-nil}
use Rattle.std.proofs.lemmas.Fmt.{IsAscii-decimal}
use Rattle.std.proofs.lemmas.Str.{IsUtf8-append, IsUtf8-from_ascii}
use Rattle.json.specs.Json as json
use Rattle.json.specs.Json.{if_last}
use Rattle.json.specs.Lex.{tokens}
use Rattle.json.specs.Token.{Token}
use Rattle.json.specs.Tree as tree
use Rattle.json.specs.Tree.{json_tokens}
use Rattle.json.proofs.Printed.Tokens.{tokens-print}
use Rattle.json.proofs.Printed.Trees.{value-json_tokens, ArePrintable-json_tokens}
use Rattle.json.proofs.Printed.Decimals.{IsNumber-decimal}
use Rattle.json.proofs.Printed.Utf8.{are_ascii, IsUtf8-are_ascii, IsUtf8-quoted, IsUtf8-boolean}
use Rattle.serde_json.specs.Data.{Num, unsigned, negative, float, Data, null, boolean, number, string, array, object, Items, no_items, item, Members, no_members, member, put}
use Rattle.serde_json.specs.Read.{read, of_json, of_items, of_members, max_depth}
use Rattle.serde_json.specs.Written.{outline, items_outline, members_outline, compact_text, items_text, members_text, comma_if}
use Rattle.serde_json.proofs.Numbers.{number_of-decimal}
use Rattle.serde_json.proofs.Texts.{print-outline}

-- the members, put in one after another
abbrev pub put_in : Members → Members → Members
put_in no_members found = found
put_in (member k d ms) found = put_in ms (put k d found)

abbrev pub IsWhole : Num → Type 0
IsWhole (unsigned n) = n < 2 ^ 64
IsWhole (negative z) = ⊥
IsWhole (float x) = ⊥

-- of a value with at most so many levels
abbrev mutual
  pub IsSound : ℕ → Data → Type 0
  IsSound levels null = Unit {0}
  IsSound levels (boolean b) = Unit {0}
  IsSound levels (number n) = IsWhole n
  IsSound levels (string s) = IsUtf8 s
  IsSound zero (array ds) = ⊥
  IsSound (suc levels) (array ds) = ItemsAreSound levels ds
  IsSound zero (object ms) = ⊥
  IsSound (suc levels) (object ms) = (put_in ms no_members ≡ ms) × MembersAreSound levels ms

  pub ItemsAreSound : ℕ → Items → Type 0
  ItemsAreSound levels no_items = Unit {0}
  ItemsAreSound levels (item d ds) = IsSound levels d × ItemsAreSound levels ds

  pub MembersAreSound : ℕ → Members → Type 0
  MembersAreSound levels no_members = Unit {0}
  MembersAreSound levels (member k d ms) = (are_ascii k ≡ true) × IsSound levels d × MembersAreSound levels ms

-- ---- reading

mutual
  json_back : (levels : ℕ) (d : Data) → IsSound levels d → of_json (outline d) ≡ Some d
  json_back levels null h = refl
  json_back levels (boolean b) h = refl
  json_back levels (number (unsigned n)) h = ap (option_map number) (number_of-decimal n h)
  json_back levels (number (negative z)) h = absurd h
  json_back levels (number (float x)) h = absurd h
  json_back levels (string s) h = refl
  json_back zero (array ds) h = absurd h
  json_back (suc levels) (array ds) h = ap (option_map array) (items_back levels ds h)
  json_back zero (object ms) h = absurd h
  json_back (suc levels) (object ms) h = ap (option_map object) (members_back levels ms no_members h.1 ∙ ap Some h.0)

  items_back : (levels : ℕ) (ds : Items) → ItemsAreSound levels ds → of_items (items_outline ds) ≡ Some ds
  items_back levels no_items h = refl
  items_back levels (item d ds) h =
      ap (option_and_then (λ e. option_map (item e) (of_items (items_outline ds)))) (json_back levels d h.0)
      ∙ ap (option_map (item d)) (items_back levels ds h.1)

  members_back : (levels : ℕ) (ms found : Members) → MembersAreSound levels ms → of_members (members_outline ms) found ≡ Some (put_in ms found)
  members_back levels no_members found h = refl
  members_back levels (member k d ms) found h =
      ap (option_and_then (λ e. of_members (members_outline ms) (put k e found))) (json_back levels d h.1)
      ∙ members_back levels ms (put k d found) h.2

mutual
  numbers : (levels : ℕ) (d : Data) → IsSound levels d → tree.HasNumbers (outline d)
  numbers levels null h = tt
  numbers levels (boolean b) h = tt
  numbers levels (number (unsigned n)) h = IsNumber-decimal n h
  numbers levels (number (negative z)) h = absurd h
  numbers levels (number (float x)) h = absurd h
  numbers levels (string s) h = tt
  numbers zero (array ds) h = absurd h
  numbers (suc levels) (array ds) h = items_numbers levels ds h
  numbers zero (object ms) h = absurd h
  numbers (suc levels) (object ms) h = members_numbers levels ms h.1

  items_numbers : (levels : ℕ) (ds : Items) → ItemsAreSound levels ds → tree.ItemsHaveNumbers (items_outline ds)
  items_numbers levels no_items h = tt
  items_numbers levels (item d ds) h = (numbers levels d h.0, items_numbers levels ds h.1)

  members_numbers : (levels : ℕ) (ms : Members) → MembersAreSound levels ms → tree.MembersHaveNumbers (members_outline ms)
  members_numbers levels no_members h = tt
  members_numbers levels (member k d ms) h = (numbers levels d h.1, members_numbers levels ms h.2)

mutual
  shallow : (levels : ℕ) (d : Data) → IsSound levels d → tree.depth (outline d) ≤ levels
  shallow levels null h = omega arith
  shallow levels (boolean b) h = omega arith
  shallow levels (number n) h = omega arith
  shallow levels (string s) h = omega arith
  shallow zero (array ds) h = absurd h
  shallow (suc levels) (array ds) h = omega (arith, items_shallow levels ds h)
  shallow zero (object ms) h = absurd h
  shallow (suc levels) (object ms) h = omega (arith, members_shallow levels ms h.1)

  items_shallow : (levels : ℕ) (ds : Items) → ItemsAreSound levels ds → tree.items_depth (items_outline ds) ≤ levels
  items_shallow levels no_items h = omega arith
  items_shallow levels (item d ds) h = omega (arith, shallow levels d h.0, items_shallow levels ds h.1)

  members_shallow : (levels : ℕ) (ms : Members) → MembersAreSound levels ms → tree.members_depth (members_outline ms) ≤ levels
  members_shallow levels no_members h = omega arith
  members_shallow levels (member k d ms) h = omega (arith, shallow levels d h.1, members_shallow levels ms h.2)

abbrev last_of : Option (json.Json × List Token) → Option Data
last_of found = option_and_then of_json (option_and_then (λ p. if_last p.0 p.1) found)

-- the text of such a value is read back as the value
pub read_back : (levels : ℕ) (d : Data) → IsSound levels d → levels ≤ 127 → read (compact_text d) ≡ Some d
read_back levels d h few =
    let j = outline d in
    let printed : tokens (compact_text d) ≡ json_tokens j = ap tokens (sym (print-outline d)) ∙ tokens-print (json_tokens j) (ArePrintable-json_tokens j (numbers levels d h)) in
    let depth : tree.depth j ≤ max_depth = omega (arith, shallow levels d h) in
    ap last_of (ap (json.value max_depth) (printed ∙ sym (append-nil (json_tokens j))) ∙ value-json_tokens j max_depth [] depth) ∙ json_back levels d h

-- ---- texts

then_utf8 : (byte : ℕ) (bytes : List ℕ) → are_ascii (byte ∷ []) ≡ true → IsUtf8 bytes → IsUtf8 (byte ∷ bytes)
then_utf8 byte bytes small h = IsUtf8-append (byte ∷ []) bytes (IsUtf8-are_ascii (byte ∷ []) small) h

comma_utf8 : (later : Bool) (bytes : List ℕ) → IsUtf8 bytes → IsUtf8 (comma_if later ++ bytes)
comma_utf8 true bytes h = then_utf8 44 bytes refl h
comma_utf8 false bytes h = h

mutual
  pub text_utf8 : (levels : ℕ) (d : Data) → IsSound levels d → IsUtf8 (compact_text d)
  text_utf8 levels null h = IsUtf8-are_ascii _ refl
  text_utf8 levels (boolean b) h = IsUtf8-boolean b
  text_utf8 levels (number (unsigned n)) h = IsUtf8-from_ascii _ (IsAscii-decimal n h)
  text_utf8 levels (number (negative z)) h = absurd h
  text_utf8 levels (number (float x)) h = absurd h
  text_utf8 levels (string s) h = IsUtf8-quoted s h
  text_utf8 zero (array ds) h = absurd h
  text_utf8 (suc levels) (array ds) h = then_utf8 91 _ refl (items_utf8 levels false ds h)
  text_utf8 zero (object ms) h = absurd h
  text_utf8 (suc levels) (object ms) h = then_utf8 123 _ refl (members_utf8 levels false ms h.1)

  items_utf8 : (levels : ℕ) (later : Bool) (ds : Items) → ItemsAreSound levels ds → IsUtf8 (items_text later ds)
  items_utf8 levels later no_items h = IsUtf8-are_ascii _ refl
  items_utf8 levels later (item d ds) h = comma_utf8 later _ (IsUtf8-append _ _ (text_utf8 levels d h.0) (items_utf8 levels true ds h.1))

  members_utf8 : (levels : ℕ) (later : Bool) (ms : Members) → MembersAreSound levels ms → IsUtf8 (members_text later ms)
  members_utf8 levels later no_members h = IsUtf8-are_ascii _ refl
  members_utf8 levels later (member k d ms) h =
      comma_utf8 later _ (IsUtf8-append _ _ (IsUtf8-quoted k (IsUtf8-are_ascii k h.0))
      (then_utf8 58 _ refl (IsUtf8-append _ _ (text_utf8 levels d h.1) (members_utf8 levels true ms h.2))))
