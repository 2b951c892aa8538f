-- An urgency past the digits compares with digits as any other such number does.
use Rattle.std.proofs.Common.{◌≡◌, ℕ, ◌+◌, ◌≤◌, Bool, true, false, not, ◌&&◌, List, [], ◌∷◌, inl, inr, refl, sym, ap, ◌∙◌, arith, nat_eq, nat_lt, nat_le}
use Rattle.std.proofs.lemmas.Bool.{false≢true, cases_lt}
use Rattle.std.proofs.lemmas.Bool.Decides.{nat_tests}
use Rattle.std.specs.List.{list_all}
use Rattle.news_types.specs.declared.words.Op.{Op}
use Rattle.news_types.specs.declared.words.Op.TheVariants.{Eq, Ne, Within, Nin, Like, NotLike, StartsWith, EndsWith, Lt, Lte, Gt, Gte}
use Rattle.news_types.specs.declared.words.Field.TheVariants.{Urgency}
use Rattle.news_types.specs.declared.story.Story.{Story}
use Rattle.news_types.specs.Names.{Bytes, same, is_in}
use Rattle.news_types.specs.Conditions.{is_condition, is_folding_op, is_digit, compares, text_of, first_value, first_byte, fits_field}
use Rattle.content_filters.specs.Folded.{urgency_byte}

both : (a b : Bool) → (a && b) ≡ true → (a ≡ true) × (b ≡ true)
both true b h = (refl, h)
both false b h = absurd (false≢true h)

-- what holds of the last part of what is asked of a condition
fits : (op : Op) (values : List Bytes) → is_condition Urgency op values ≡ true → (is_folding_op op ≡ false) × (list_all is_digit values ≡ true)
fits op values h =
    let end = both _ (fits_field Urgency op values) h in
    let parts = both (not (is_folding_op op)) (list_all is_digit values) end.1 in
    (not_true (is_folding_op op) parts.0, parts.1)
  where
    not_true : (b : Bool) → not b ≡ true → b ≡ false
    not_true true e = sym e
    not_true false e = refl

-- a number past the digits is no digit
apart : (n : ℕ) (value : Bytes) → 58 ≤ n → is_digit value ≡ true → same (n ∷ []) value ≡ false
apart n [] past digit = refl
apart n (b ∷ []) past digit =
    let range = both (nat_le 48 b) (nat_le b 57) digit in
    let e : nat_eq n b ≡ false = grind (arith, nat_tests, range.1) in
    rw e refl
apart n (b ∷ c ∷ rest) past digit = absurd (false≢true digit)

apart_all : (n : ℕ) (values : List Bytes) → 58 ≤ n → list_all is_digit values ≡ true → is_in (n ∷ []) values ≡ false
apart_all n [] past digits = refl
apart_all n (value ∷ values) past digits =
    let parts = both (is_digit value) (list_all is_digit values) digits in
    rw (apart n value past parts.0) (apart_all n values past parts.1)

apart_first : (n : ℕ) (values : List Bytes) → 58 ≤ n → list_all is_digit values ≡ true → same (n ∷ []) (first_value values) ≡ false
apart_first n [] past digits = refl
apart_first n (value ∷ values) past digits = apart n value past (both (is_digit value) (list_all is_digit values) digits).0

digit_below : (value : Bytes) → is_digit value ≡ true → first_byte value ≤ 57
digit_below [] digit = omega arith
digit_below (b ∷ []) digit = let range = both (nat_le 48 b) (nat_le b 57) digit in grind (arith, nat_tests, range.1)
digit_below (b ∷ c ∷ rest) digit = absurd (false≢true digit)

below : (values : List Bytes) → list_all is_digit values ≡ true → first_byte (first_value values) ≤ 57
below [] digits = omega arith
below (value ∷ values) digits = digit_below value (both (is_digit value) (list_all is_digit values) digits).0

less : (n m b : ℕ) → 58 ≤ n → 58 ≤ m → b ≤ 57 → nat_lt n b ≡ nat_lt m b
less n m b p q r = grind (arith, nat_tests)

most : (n m b : ℕ) → 58 ≤ n → 58 ≤ m → b ≤ 57 → nat_le n b ≡ nat_le m b
most n m b p q r = grind (arith, nat_tests)

more : (n m b : ℕ) → 58 ≤ n → 58 ≤ m → b ≤ 57 → nat_lt b n ≡ nat_lt b m
more n m b p q r = grind (arith, nat_tests)

least : (n m b : ℕ) → 58 ≤ n → 58 ≤ m → b ≤ 57 → nat_le b n ≡ nat_le b m
least n m b p q r = grind (arith, nat_tests)

past_digits : (op : Op) (n m : ℕ) (values : List Bytes) → 58 ≤ n → 58 ≤ m → is_folding_op op ≡ false → list_all is_digit values ≡ true → compares op (n ∷ []) values ≡ compares op (m ∷ []) values
past_digits Eq n m values a b plain digits = apart_first n values a digits ∙ sym (apart_first m values b digits)
past_digits Ne n m values a b plain digits = ap not (apart_first n values a digits ∙ sym (apart_first m values b digits))
past_digits Within n m values a b plain digits = apart_all n values a digits ∙ sym (apart_all m values b digits)
past_digits Nin n m values a b plain digits = ap not (apart_all n values a digits ∙ sym (apart_all m values b digits))
past_digits Like n m values a b plain digits = absurd (false≢true (sym plain))
past_digits NotLike n m values a b plain digits = absurd (false≢true (sym plain))
past_digits StartsWith n m values a b plain digits = absurd (false≢true (sym plain))
past_digits EndsWith n m values a b plain digits = absurd (false≢true (sym plain))
past_digits Lt n m values a b plain digits = less n m (first_byte (first_value values)) a b (below values digits)
past_digits Lte n m values a b plain digits = most n m (first_byte (first_value values)) a b (below values digits)
past_digits Gt n m values a b plain digits = more n m (first_byte (first_value values)) a b (below values digits)
past_digits Gte n m values a b plain digits = least n m (first_byte (first_value values)) a b (below values digits)

-- a condition on the urgency may take it as the digit or the byte behind the digits
by_digit : (op : Op) (urgency : ℕ) (values : List Bytes) → is_condition Urgency op values ≡ true → compares op (urgency_byte urgency ∷ []) values ≡ compares op ((48 + urgency) ∷ []) values
by_digit op urgency values valid =
    elim (cases_lt urgency 10) [
      | inl few ↦ let e : nat_lt 9 urgency ≡ false = grind (arith, nat_tests) in rw e refl
      | inr many ↦ let e : nat_lt 9 urgency ≡ true = grind (arith, nat_tests) in let parts = fits op values valid in rw e (past_digits op 58 (48 + urgency) values (omega arith) (omega arith) parts.0 parts.1)
    ]

-- what was compared in place of the urgency
pub by_urgency : (story : Story) (op : Op) (values : List Bytes) (verdict : Bool) (n : ℕ) → is_condition Urgency op values ≡ true → n ≡ urgency_byte story.urgency
    → verdict ≡ compares op (n ∷ []) values → verdict ≡ compares op (text_of Urgency story) values
by_urgency story op values verdict n valid is compared =
    compared ∙ rw is (by_digit op story.urgency values valid)
