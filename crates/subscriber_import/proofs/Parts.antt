-- The names of a field are read part by part.
use Rattle.std.proofs.Common.{◌≡◌, ◌≤◌, ◌<◌, ℕ, zero, suc, ◌+◌, ◌*◌, ◌-◌, Bool, true, false, ◌&&◌, ◌==◌, cond, take, drop, get_or, not, List, [], ◌∷◌, ◌++◌, length, Some, None, refl, sym, ap, subst, ◌∙◌, arith, append_assoc, length-append}
use Rattle.std.specs.Prelude.{nat_le, nat_lt, IsUtf8}
use Rattle.std.specs.List.{list_all, position, position_or_len}
use Rattle.std.specs.Char.{is_ascii_digit}
use mathlib.Core.Bool.{true≢false}
use Rattle.std.proofs.lemmas.Bool.{and_parts}
use Rattle.std.proofs.lemmas.Bool.Decides.{nat_tests}
use Rattle.std.proofs.lemmas.List.{take_more, take_all}
use Rattle.std.proofs.lemmas.List.Folds.{list_all-append, list_all_at}
use Rattle.std.proofs.lemmas.List.Elements.{All-from_get_or}
use Rattle.std.proofs.lemmas.List.Sums.{fails_before_first}
use Rattle.std.proofs.lemmas.List.Splits.{slice_split_first, slice_split_none}
use Rattle.byte_formats.proofs.Names.{name_text}
use Rattle.news_types.specs.Names.{Bytes, is_name}
use Rattle.csv.specs.Records.{field_at}
use Rattle.subscriber_import.specs.Fields.{parts_of, few_names, name_of, format_of, products_of, lag_of, is_decimal, leads_with_zero, value_behind, wanted_by, wanted_of}
use Rattle.subscriber_import.specs.Reads.{field_of}
use Rattle.subscriber_import.specs.Table.{Row}

-- ---- names

pub no_name : (field : Bytes) → (IsUtf8 field → ⊥) → None ≡ name_of field
no_name field other = by (is_name field) refl
  where
    by : (b : Bool) → is_name field ≡ b → None ≡ cond b (Some field) None
    by true is = absurd (other (name_text field is))
    by false is = refl

some_of : {A : Type 0} (x y : A) → Some x ≡ Some y → x ≡ y
some_of x y same = cc

pub name_is : (field name : Bytes) → Some name ≡ name_of field → (is_name field ≡ true) × (name ≡ field)
name_is field name is = by (is_name field) refl is
  where
    by : (b : Bool) → is_name field ≡ b → Some name ≡ cond b (Some field) None → (is_name field ≡ true) × (name ≡ field)
    by true found is = (found, some_of name field is)
    by false found is = absurd (cc (is))

pub not_name : (field : Bytes) → None ≡ name_of field → is_name field ≡ false
not_name field is = by (is_name field) refl is
  where
    by : (b : Bool) → is_name field ≡ b → None ≡ cond b (Some field) None → is_name field ≡ false
    by true found is = absurd (cc (is))
    by false found is = found

-- ---- parts

-- these names stand in front, and the parts of the rest follow
pub record SoFar (field : Bytes) (names : List Bytes) (rest : Bytes) : Type 0 where
  pub parts : parts_of field ≡ names ++ parts_of rest
  pub names_are : list_all is_name names ≡ true
  pub few : length names ≤ 64

pub none_so_far : (field : Bytes) → SoFar field [] field
none_so_far field = record { parts = refl; names_are = refl; few = omega arith }

and_false : (a b : Bool) → b ≡ false → (a && b) ≡ false
and_false true b is = is
and_false false b is = refl

few_none : (parts : List Bytes) → (nat_le (length parts) 64 && list_all is_name parts) ≡ false → None ≡ few_names parts
few_none parts is = sym (ap (λ (b : Bool). cond b (Some parts) None) is)

-- the next part is no name
pub bad_part : (field : Bytes) (names : List Bytes) (rest part : Bytes) (more : List Bytes) → SoFar field names rest → parts_of rest ≡ part ∷ more → is_name part ≡ false → None ≡ few_names (parts_of field)
bad_part field names rest part more so parts bad =
    let all : parts_of field ≡ names ++ part ∷ more = so.parts ∙ ap (λ (l : List Bytes). names ++ l) parts in
    let here : list_all is_name (part ∷ more) ≡ false = ap (λ (b : Bool). b && list_all is_name more) bad in
    let none : list_all is_name (names ++ part ∷ more) ≡ false = list_all-append is_name names (part ∷ more) ∙ and_false (list_all is_name names) (list_all is_name (part ∷ more)) here in
    few_none (parts_of field) (ap (λ (l : List Bytes). nat_le (length l) 64 && list_all is_name l) all ∙ and_false (nat_le (length (names ++ part ∷ more)) 64) (list_all is_name (names ++ part ∷ more)) none)

-- there are too many
pub many_parts : (field : Bytes) (names : List Bytes) (rest part : Bytes) (more : List Bytes) → SoFar field names rest → parts_of rest ≡ part ∷ more → length names ≡ 64 → None ≡ few_names (parts_of field)
many_parts field names rest part more so parts full =
    let all : parts_of field ≡ names ++ part ∷ more = so.parts ∙ ap (λ (l : List Bytes). names ++ l) parts in
    let long : length (parts_of field) ≡ 65 + length more = ap length all ∙ omega (arith, length-append names (part ∷ more), full) in
    let past : nat_le (length (parts_of field)) 64 ≡ false = grind (arith, nat_tests, long) in
    few_none (parts_of field) (ap (λ (b : Bool). b && list_all is_name (parts_of field)) past)

one_more : (field : Bytes) (names : List Bytes) (rest part next : Bytes) → SoFar field names rest → parts_of rest ≡ part ∷ parts_of next → is_name part ≡ true → length names < 64 → SoFar field (names ++ part ∷ []) next
one_more field names rest part next so parts is few = record {
  parts = so.parts ∙ ap (λ (l : List Bytes). names ++ l) parts ∙ sym (append_assoc names (part ∷ []) (parts_of next));
  names_are = list_all-append is_name names (part ∷ []) ∙ (λ i. so.names_are i && (is i && true));
  few = (let long = length-append names (part ∷ []) in omega (arith, long, few));
}

-- one name more
pub one_part : (field : Bytes) (names : List Bytes) (rest part next name : Bytes) → SoFar field names rest → parts_of rest ≡ part ∷ parts_of next → Some name ≡ name_of part → length names < 64 → SoFar field (names ++ name ∷ []) next
one_part field names rest part next name so parts named few =
    let is = name_is part name named in
    subst (λ (n : Bytes). SoFar field (names ++ n ∷ []) next) (sym is.1) (one_more field names rest part next so parts is.0 few)

-- the last name
pub last_part : (field : Bytes) (names : List Bytes) (rest part : Bytes) → SoFar field names rest → parts_of rest ≡ part ∷ [] → is_name part ≡ true → length names < 64 → Some (names ++ part ∷ []) ≡ few_names (parts_of field)
last_part field names rest part so parts is few =
    let all : parts_of field ≡ names ++ part ∷ [] = so.parts ∙ ap (λ (l : List Bytes). names ++ l) parts in
    let long : length (names ++ part ∷ []) ≤ 64 = omega (arith, length-append names (part ∷ []), few) in
    let within : nat_le (length (names ++ part ∷ [])) 64 ≡ true = grind (arith, nat_tests, long) in
    let named : list_all is_name (names ++ part ∷ []) ≡ true = list_all-append is_name names (part ∷ []) ∙ (λ i. so.names_are i && (is i && true)) in
    sym (ap few_names all ∙ (λ i. cond (within i && named i) (Some (names ++ part ∷ [])) None))

-- ---- digits

-- so many digits can follow those of a value
abbrev pub HasRoom : ℕ → ℕ → Type 0
HasRoom value zero = value ≤ 999999
HasRoom value (suc n) = HasRoom (value * 10 + 9) n

room_less : (v w n : ℕ) → v ≤ w → HasRoom w n → HasRoom v n
room_less v w zero less room = omega (arith, less, room)
room_less v w (suc n) less room = room_less (v * 10 + 9) (w * 10 + 9) n (omega (arith, less)) room

room_most : (v n : ℕ) → HasRoom v n → v ≤ 999999
room_most v zero room = room
room_most v (suc n) room = let most = room_most (v * 10 + 9) n room in omega (arith, most)

nine_digits : (n : ℕ) → n ≤ 5 → HasRoom 9 n
nine_digits zero few = omega arith
nine_digits (suc zero) few = omega arith
nine_digits (suc (suc zero)) few = omega arith
nine_digits (suc (suc (suc zero))) few = omega arith
nine_digits (suc (suc (suc (suc zero)))) few = omega arith
nine_digits (suc (suc (suc (suc (suc zero))))) few = omega arith
nine_digits (suc (suc (suc (suc (suc (suc n)))))) few = absurd (omega (arith, few))

six_digits : (n : ℕ) → n ≤ 6 → HasRoom 0 n
six_digits zero few = omega arith
six_digits (suc n) few = nine_digits n (omega (arith, few))

value_push : (v : ℕ) (xs : Bytes) (b : ℕ) → value_behind v (xs ++ b ∷ []) ≡ value_behind v xs * 10 + (b - 48)
value_push v [] b = refl
value_push v (x ∷ xs) b = value_push (v * 10 + (x - 48)) xs b

-- the first of the digits were read, and the others can follow
pub record ReadSoFar (field : Bytes) (i value : ℕ) : Type 0 where
  pub is : value ≡ value_behind 0 (take i field)
  pub room : HasRoom value (length field - i)

are_few : (field : Bytes) → is_decimal field ≡ true → (length field ≤ 6) × (list_all is_ascii_digit field ≡ true)
are_few field is =
    let some : Bool = nat_lt 0 (length field) in
    let few : Bool = nat_le (length field) 6 in
    let digits : Bool = list_all is_ascii_digit field in
    let one = and_parts (some && few && digits) (not (leads_with_zero field)) is in
    let two = and_parts (some && few) digits one.0 in
    let three = and_parts some few two.0 in
    (grind (arith, nat_tests, three.1), two.1)

pub none_read : (field : Bytes) → is_decimal field ≡ true → ReadSoFar field 0 0
none_read field is =
    let all : length field ≡ length field - 0 = omega arith in
    record { is = refl; room = subst (HasRoom 0) all (six_digits (length field) (are_few field is).0) }

digit_at : (field : Bytes) (i d : ℕ) → list_all is_ascii_digit field ≡ true → i < length field → get_or field i d - 48 ≤ 9
digit_at field i d all within = by (is_ascii_digit (get_or field i d)) refl
  where
    by : (b : Bool) → is_ascii_digit (get_or field i d) ≡ b → get_or field i d - 48 ≤ 9
    by true is = grind (arith, nat_tests, is)
    by false is = absurd (true≢false (sym all ∙ list_all_at is_ascii_digit field i d within is))

room_next : (v i n : ℕ) → HasRoom v (n - i) → i < n → HasRoom (v * 10 + 9) (n - (i + 1))
room_next v i n room within =
    let left : n - i ≡ suc (n - (i + 1)) = omega (arith, within) in
    subst (HasRoom v) left room

pub times_ten : (field : Bytes) (i value : ℕ) → ReadSoFar field i value → i < length field → value * 10 + 9 ≤ 999999
times_ten field i value so within = room_most (value * 10 + 9) (length field - (i + 1)) (room_next value i (length field) so.room within)

pub digit_fits : (field : Bytes) (i value : ℕ) → is_decimal field ≡ true → ReadSoFar field i value → i < length field → value * 10 + (get_or field i 0 - 48) ≤ 999999
digit_fits field i value is so within = omega (arith, times_ten field i value so within, digit_at field i 0 (are_few field is).1 within)

pub one_digit : (field : Bytes) (i value byte : ℕ) → is_decimal field ≡ true → ReadSoFar field i value → i < length field → byte ≡ get_or field i 0 → ReadSoFar field (i + 1) (value * 10 + (byte - 48))
one_digit field i value byte is so within here =
    let digit : byte - 48 ≤ 9 = subst (λ (b : ℕ). b - 48 ≤ 9) (sym here) (digit_at field i 0 (are_few field is).1 within) in
    record {
      is = ap (λ (v : ℕ). v * 10 + (byte - 48)) so.is ∙ ap (λ (b : ℕ). value_behind 0 (take i field) * 10 + (b - 48)) here ∙ sym (value_push 0 (take i field) (get_or field i 0)) ∙ ap (value_behind 0) (sym (take_more field i 0 within));
      room = room_less (value * 10 + (byte - 48)) (value * 10 + 9) (length field - (i + 1)) (omega (arith, digit)) (room_next value i (length field) so.room within);
    }

pub all_read : (field : Bytes) (i value : ℕ) → length field ≤ i → ReadSoFar field i value → value ≡ value_behind 0 field
all_read field i value all so = so.is ∙ ap (value_behind 0) (take_all i field all)

-- ---- the four fields

pub four_fields : (row : Row) → length row ≡ 4 → wanted_by (name_of (field_of row 0)) (format_of (field_of row 1)) (products_of (field_of row 2)) (lag_of (field_of row 3)) ≡ wanted_of row
unfolding field_at
four_fields [] four = absurd (omega (arith, four))
four_fields (a ∷ []) four = absurd (omega (arith, four))
four_fields (a ∷ b ∷ []) four = absurd (omega (arith, four))
four_fields (a ∷ b ∷ c ∷ []) four = absurd (omega (arith, four))
four_fields (a ∷ b ∷ c ∷ d ∷ []) four = refl
four_fields (a ∷ b ∷ c ∷ d ∷ e ∷ row) four = absurd (omega (arith, four))

-- ---- parts

pub front_part : (field : Bytes) (end : ℕ) → position (λ (b : ℕ). b == 59) field ≡ Some end → parts_of field ≡ take end field ∷ parts_of (drop (end + 1) field)
front_part field end is = by (nat_lt (position_or_len stop field) (length field)) refl is
  where
    stop : ℕ → Bool
    stop = λ (b : ℕ). b == 59

    by : (b : Bool) → nat_lt (position_or_len stop field) (length field) ≡ b → cond b (Some (position_or_len stop field)) None ≡ Some end → parts_of field ≡ take end field ∷ parts_of (drop (end + 1) field)
    by true less found =
        slice_split_first stop field 0 (grind (arith, nat_tests, less)) ∙ ap (λ (k : ℕ). take k field ∷ parts_of (drop (k + 1) field)) (some_of (position_or_len stop field) end found)
    by false less found = absurd (cc (found))

none_stops : (field : Bytes) → position (λ (b : ℕ). b == 59) field ≡ None → length field ≤ position_or_len (λ (b : ℕ). b == 59) field
none_stops field is = by (nat_lt (position_or_len stop field) (length field)) refl is
  where
    stop : ℕ → Bool
    stop = λ (b : ℕ). b == 59

    by : (b : Bool) → nat_lt (position_or_len stop field) (length field) ≡ b → cond b (Some (position_or_len stop field)) None ≡ None → length field ≤ position_or_len stop field
    by true less found = absurd (cc (found))
    by false less found = grind (arith, nat_tests, less)

pub only_part : (field : Bytes) → position (λ (b : ℕ). b == 59) field ≡ None → parts_of field ≡ field ∷ []
only_part field is =
    let all = none_stops field is in
    slice_split_none (λ (b : ℕ). b == 59) field (All-from_get_or (λ (b : ℕ). (b == 59) ≡ false) field 0 (λ i within. fails_before_first (λ (b : ℕ). b == 59) field i 0 (omega (arith, within, all))))
