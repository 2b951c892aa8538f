-- How long the fields of a message are.
use Rattle.std.proofs.Common.{◌≡◌, ◌==◌, ℕ, zero, suc, ◌-◌, ◌*◌, ◌<◌, ◌≤◌, Bool, true, false, cond, ◌&&◌, nat_le, List, [], ◌∷◌, ◌++◌, length, get_or, All, sym, ap, subst, ◌∙◌, arith, inl, inr, length-append, eqb, leb}
use Rattle.std.specs.Char.{encode_utf8}
use Rattle.std.proofs.lemmas.Bool.{cases_Bool, leb-true, and_parts}
use Rattle.std.proofs.lemmas.Bool.Decides.{nat_tests}
use Rattle.std.proofs.lemmas.List.Sums.{count_by-le-length}
use Rattle.std.proofs.lemmas.List.Elements.{All-append, All-cons}
use Rattle.std.proofs.lemmas.Str.{length-encode, len_utf8_ascii}
use Rattle.std.specs.Prelude.{Result, Ok, Err, IfOk}
use Rattle.news_types.specs.declared.story.Incoming.{Incoming}
use Rattle.text7901.specs.Fields.{letter, digit, lead, past, before, behind_byte, begins_line, with_lf, without_last_lf, utf8, is_short, fitting, is_urgency, urgency, behind_urgency, category_in, body, ends_field, story_of, lines_of, incoming, first_line, head, trim, text, named}
use Rattle.news_types.specs.Fits.{FitsStory, FitsIncoming}
use Rattle.text7901.proofs.Parts.{utf8_length}

abbrev IsShorter : List ℕ → List ℕ → Type 0
IsShorter xs ys = length xs ≤ length ys

pub before_length : (x : ℕ) (xs : List ℕ) → length (before x xs) ≤ length xs
before_length x [] = omega arith
before_length x (y ∷ xs) =
    let h = before_length x xs in
    elim (cases_Bool (eqb y x)) [ inl e ↦ rw e (omega arith) | inr e ↦ rw e (omega (arith, h)) ]

pub behind_length : (x : ℕ) (xs : List ℕ) → length (behind_byte x xs) ≤ length xs
behind_length x [] = omega arith
behind_length x (y ∷ xs) =
    let h = behind_length x xs in
    elim (cases_Bool (eqb y x)) [ inl e ↦ rw e (omega arith) | inr e ↦ rw e (omega (arith, h)) ]

pub with_lf_length : (xs : List ℕ) → length (with_lf xs) ≤ length xs
with_lf_length [] = omega arith
with_lf_length (x ∷ xs) =
    let h = with_lf_length xs in
    elim (cases_Bool (eqb x 13 && begins_line xs)) [ inl e ↦ rw e (omega (arith, h)) | inr e ↦ rw e (omega (arith, h)) ]

pub last_lf_length : (xs : List ℕ) → length (without_last_lf xs) ≤ length xs
last_lf_length [] = omega arith
last_lf_length (x ∷ []) = elim (cases_Bool (eqb x 10)) [ inl e ↦ rw e (omega arith) | inr e ↦ rw e (omega arith) ]
last_lf_length (x ∷ y ∷ xs) = let h = last_lf_length (y ∷ xs) in omega (arith, h)

pub fitting_length : (n : ℕ) (xs : List ℕ) → length (fitting n xs) ≤ n
fitting_length n [] = omega arith
fitting_length n (x ∷ xs) =
    let h = fitting_length (n - length (encode_utf8 x)) xs in
    elim (cases_Bool (leb (length (encode_utf8 x)) n)) [
      | inl e ↦
          let le = leb-true (length (encode_utf8 x)) n e in
          rw e (omega (arith, h, le, length-append (encode_utf8 x) (fitting (n - length (encode_utf8 x)) xs)))
      | inr e ↦ rw e (omega arith)
    ]

letter_one : (x : ℕ) → letter x ≡ true → length (encode_utf8 x) ≡ 1
letter_one x e =
    let low : x < 128 = grind (arith, nat_tests, e) in
    length-encode x ∙ len_utf8_ascii x low

letters_length : (n : ℕ) (xs : List ℕ) → length (utf8 (lead letter n xs)) ≤ n
letters_length zero xs = omega arith
letters_length (suc n) [] = omega arith
letters_length (suc n) (x ∷ xs) =
    let h = letters_length n xs in
    elim (cases_Bool (letter x)) [
      | inl e ↦
          let one = letter_one x e in
          rw e (omega (arith, h, one, length-append (encode_utf8 x) (utf8 (lead letter n xs))))
      | inr e ↦ rw e (omega arith)
    ]

category_length : (line : List ℕ) → length (utf8 (category_in line)) ≤ 3
category_length [] = omega arith
category_length (space ∷ line) =
    let h = letters_length 3 line in
    choose (space == 32 && ends_field (past letter 3 line)) h
  where
    choose : (t : Bool) → length (utf8 (lead letter 3 line)) ≤ 3 → length (utf8 (cond t (lead letter 3 line) [])) ≤ 3
    choose true h = h
    choose false h = omega arith

short_length : (xs : List ℕ) → length (cond (is_short xs) (utf8 xs) []) ≤ 500
short_length xs =
    elim (cases_Bool (is_short xs)) [
      | inl e ↦ rw e (leb-true (length (utf8 xs)) 500 e)
      | inr e ↦ rw e (omega arith)
    ]

urgency_most : (line : List ℕ) → urgency line ≤ 9
urgency_most [] = omega arith
urgency_most (space ∷ []) = omega arith
urgency_most (space ∷ b ∷ line) =
    elim (cases_Bool (is_urgency space b line)) [
      | inl e ↦ rw e (digit e)
      | inr e ↦ rw e (omega arith)
    ]
  where
    digit : is_urgency space b line ≡ true → b - 48 ≤ 9
    digit e =
        let parts = and_parts (space == 32 && nat_le 49 b && nat_le b 57) (ends_field line) e in
        let range = and_parts (space == 32 && nat_le 49 b) (nat_le b 57) parts.0 in
        omega (arith, leb-true b 57 range.1)

pub utf8_most : (xs : List ℕ) → ((k : ℕ) → k < length xs → get_or xs k 0 < 256) → length (utf8 xs) ≤ 2 * length xs
utf8_most xs h = let e = utf8_length xs h in omega (arith, e, count_by-le-length (λ b. nat_le 128 b) xs)

pub story_fits : (line slug lines : List ℕ) → length (body lines) ≤ 524288 → FitsStory (story_of line slug lines)
story_fits line slug lines h = record {
  urgency = urgency_most line;
  slugline = short_length slug;
  headline = short_length (before 10 lines);
  byline = omega arith;
  language = omega arith;
  category = category_length (behind_urgency line);
  body = h;
  copyright = omega arith;
}

pub if_ok : {A E : Type 0} (r : Result A E) (P Q : A → Type 0) → ((x : A) → P x → Q x) → IfOk r P → IfOk r Q
if_ok (Ok x) P Q f h = f x h
if_ok (Err e) P Q f h = h

pub lines_length : (xs : List ℕ) → length (lines_of xs) ≤ length xs
lines_length xs = omega (arith, last_lf_length (with_lf xs), with_lf_length xs)

past_length : (p : ℕ → Bool) (n : ℕ) (xs : List ℕ) → length (past p n xs) ≤ length xs
past_length p zero xs = omega arith
past_length p (suc n) [] = omega arith
past_length p (suc n) (x ∷ xs) =
    let h = past_length p n xs in
    elim (cases_Bool (p x)) [ inl e ↦ rw e (omega (arith, h)) | inr e ↦ rw e (omega arith) ]

pub text_length : (bytes : List ℕ) → length (text bytes) ≤ length bytes
text_length bytes =
    let one = past letter 8 bytes in
    let two = past digit 8 one in
    omega (arith, past_length letter 8 bytes, past_length digit 8 one, behind_length 2 two, before_length 3 (behind_byte 2 two))

-- within the limits, where the body is
pub incoming_fits : (told : Incoming) (bytes : List ℕ) → told ≡ incoming bytes → length told.story.body ≤ 2 * length bytes → length bytes ≤ 131071 → FitsIncoming told
incoming_fits told bytes e h le =
    let small : length (incoming bytes).story.body ≤ 524288 = omega (arith, ap (λ i. length i.story.body) e, h, le) in
    subst FitsIncoming (sym e) (record {
      identity = fitting_length 256 (named bytes);
      created = omega arith;
      embargo = omega arith;
      story = story_fits (first_line (head bytes)) (trim (behind_byte 10 (head bytes))) (lines_of (text bytes)) small;
    })

pub all_more : {X : Type 0} (P : X → Type 0) (xs ys : List X) (x : X) → All P xs → P x → ys ≡ xs ++ x ∷ [] → All P ys
all_more P xs ys x h p e = subst (All P) (sym e) (All-append P xs (x ∷ []) h (All-cons P x [] p (λ k d l. absurd (omega (arith, l)))))
