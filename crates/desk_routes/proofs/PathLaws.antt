-- The proofs of the laws of paths.
use Rattle.std.specs.Prelude.{◌≡◌, ◌<◌, ℕ, zero, suc, Bool, true, false, not, cond, ◌&&◌, ◌||◌, nat_lt, nat_le, List, [], ◌∷◌, ◌++◌, ◌==◌, length, get_or, slice_get, decimal, Option, Some, None}
use Rattle.std.proofs.Common.{refl, sym, ap, subst, ◌∙◌, arith, rules}
use Rattle.std.specs.List.{list_all, list_any}
use Rattle.std.specs.Char.{is_ascii_digit}
use Rattle.std.specs.Str.Parse.{digits_value}
use Rattle.std.proofs.lemmas.Bool.{and_parts, true≢false, not-true, ltb-true, lt-ltb, le-leb, ne_eqb}
use Rattle.std.proofs.lemmas.Bool.Decides.{nat_tests}
use Rattle.std.proofs.lemmas.Str.Parse.{IsNumeralModel, numerals_by_value}
use Rattle.std.proofs.lemmas.Fmt.{decimal_digit, digits_decimal, digits_value-decimal, decimal-digits_value, length-decimal-le, decimal_nonempty, first_decimal}
use Rattle.news_types.specs.Names.{Bytes}
use Rattle.news_types.specs.Members.{Each}
use Rattle.desk_routes.specs.Paths.{behind_slash, before_slash, behind, leads_with_zero, is_decimal, number_in}
use Rattle.desk_routes.specs.Laws.{IsPlain, path_of, PartsComeBack, NumbersAreDecimals}

-- ---- parts

-- the path of the parts, behind its first slash
opened : List Bytes → Bytes
opened [] = []
opened (text ∷ parts) = text ++ path_of parts

open_path : (parts : List Bytes) → behind_slash (path_of parts) ≡ opened parts
unfolding opened
open_path [] = refl
open_path (text ∷ parts) = refl

no_slash : (t r : Bool) → t || r ≡ false → (t ≡ false) × (r ≡ false)
no_slash true r e = absurd (true≢false e)
no_slash false r e = (refl, e)

before_plain : (text : Bytes) (parts : List Bytes) → IsPlain text → before_slash (text ++ path_of parts) ≡ text
before_plain [] [] plain = refl
before_plain [] (next ∷ parts) plain = refl
before_plain (b ∷ text) parts plain =
    let p = no_slash (b == 47) (list_any (λ x. x == 47) text) plain in
    rw p.0 (ap (λ rest. b ∷ rest) (before_plain text parts p.1))

behind_plain : (text : Bytes) (parts : List Bytes) → IsPlain text → behind_slash (text ++ path_of parts) ≡ opened parts
unfolding opened
behind_plain [] [] plain = refl
behind_plain [] (next ∷ parts) plain = refl
behind_plain (b ∷ text) parts plain =
    let p = no_slash (b == 47) (list_any (λ x. x == 47) text) plain in
    rw p.0 (behind_plain text parts p.1)

behind_inside : (n : ℕ) (path : Bytes) → behind_slash (behind n path) ≡ behind n (behind_slash path)
behind_inside zero path = refl
behind_inside (suc n) path = ap behind_slash (behind_inside n path)

part_in : (parts : List Bytes) (i : ℕ) (text : Bytes) → Each IsPlain parts → slice_get parts i ≡ Some text → before_slash (behind i (opened parts)) ≡ text
unfolding opened
part_in [] i text plain e = absurd cc
part_in (next ∷ parts) zero text plain e = let same : next ≡ text = cc in before_plain next parts plain.0 ∙ same
part_in (next ∷ parts) (suc i) text plain e =
    ap before_slash (behind_inside i (next ++ path_of parts) ∙ ap (behind i) (behind_plain next parts plain.0))
    ∙ part_in parts i text plain.1 e

pub parts_come_back : PartsComeBack
parts_come_back parts i text plain e =
    ap before_slash (behind_inside i (path_of parts) ∙ ap (behind i) (open_path parts)) ∙ part_in parts i text plain e

-- ---- numbers

own : IsNumeralModel (λ ds. list_all is_ascii_digit ds ≡ true) (digits_value 10)
own = numerals_by_value _ (search rules)

taken : (t : Bool) (v n : ℕ) → cond {A = Option ℕ} t (Some v) None ≡ Some n → (t ≡ true) × (v ≡ n)
taken true v n e = (refl, cc)
taken false v n e = absurd cc

alone : (n b : ℕ) → 0 < n → (nat_lt 1 n && b == 48) ≡ false → b ≡ 48 → n ≡ 1
alone n b some lead zero_first = grind (arith, nat_tests)

read_back : (text : Bytes) (n : ℕ) → number_in text ≡ Some n → (n < 4294967296) × (text ≡ decimal n)
read_back text n e =
    let k = taken (is_decimal text && nat_lt (digits_value 10 text) 4294967296) (digits_value 10 text) n e in
    let p = and_parts (is_decimal text) (nat_lt (digits_value 10 text) 4294967296) k.0 in
    let q = and_parts (nat_lt 0 (length text) && nat_le (length text) 10 && list_all is_ascii_digit text) (not (leads_with_zero text)) p.0 in
    let r = and_parts (nat_lt 0 (length text) && nat_le (length text) 10) (list_all is_ascii_digit text) q.0 in
    let s = and_parts (nat_lt 0 (length text)) (nat_le (length text) 10) r.0 in
    let some : 0 < length text = ltb-true 0 (length text) s.0 in
    let small : digits_value 10 text < 4294967296 = ltb-true (digits_value 10 text) 4294967296 p.1 in
    let whole : decimal (digits_value 10 text) ≡ text =
    decimal-digits_value own text r.1 some (alone (length text) (get_or text 0 0) some (not-true (leads_with_zero text) q.1)) (omega arith) in
    (subst (λ (v : ℕ). v < 4294967296) k.1 small, sym whole ∙ ap decimal k.1)

first_digit : (n : ℕ) → n < 4294967296 → leads_with_zero (decimal n) ≡ false
first_digit zero small = ap leads_with_zero (decimal_digit 0 (omega arith))
first_digit (suc n) small =
    let first : 48 < get_or (decimal (suc n)) 0 0 = first_decimal (suc n) (omega arith) (omega arith) in
    by (nat_lt 1 (length (decimal (suc n)))) (get_or (decimal (suc n)) 0 0 == 48) (ne_eqb (get_or (decimal (suc n)) 0 0) 48 (λ e. omega arith))
  where
    by : (t r : Bool) → r ≡ false → (t && r) ≡ false
    by true r e = e
    by false r e = refl

put_in : (a b c d f : Bool) (v n : ℕ) → a ≡ true → b ≡ true → c ≡ true → d ≡ false → f ≡ true → v ≡ n
    → cond {A = Option ℕ} ((a && b && c && not d) && f) (Some v) None ≡ Some n
put_in a b c d f v n ea eb ec ed ef same = rw (ea, eb, ec, ed, ef) (ap Some same)

read_decimal : (n : ℕ) → n < 4294967296 → number_in (decimal n) ≡ Some n
read_decimal n small =
    let value : digits_value 10 (decimal n) ≡ n = digits_value-decimal own n (omega arith) in
    put_in (nat_lt 0 (length (decimal n))) (nat_le (length (decimal n)) 10) (list_all is_ascii_digit (decimal n)) (leads_with_zero (decimal n))
    (nat_lt (digits_value 10 (decimal n)) 4294967296) (digits_value 10 (decimal n)) n
    (lt-ltb 0 (length (decimal n)) (decimal_nonempty n (omega arith)))
    (le-leb (length (decimal n)) 10 (length-decimal-le 10 n (omega arith) (omega arith) (omega arith)))
    (digits_decimal own n (omega arith))
    (first_digit n small)
    (lt-ltb (digits_value 10 (decimal n)) 4294967296 (omega arith))
    value

pub numbers_are_decimals : NumbersAreDecimals
numbers_are_decimals text n =
    (read_back text n, λ h. subst (λ (t : Bytes). number_in t ≡ Some n) (sym h.1) (read_decimal n h.0))
