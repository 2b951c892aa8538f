-- What a message says lies within the limits of a story.
use Rattle.std.proofs.Common.{◌≡◌, ℕ, zero, suc, ◌-◌, ◌<◌, ◌≤◌, Bool, true, false, cond, not, ◌&&◌, List, [], ◌∷◌, length, length-append, Option, Some, None, Result, Ok, Err, refl, subst, ◌∙◌, arith, inl, inr, leb}
use Rattle.std.specs.Char.{encode_utf8, is_ascii_alphabetic, is_ascii_digit}
use Rattle.std.specs.List.{list_all}
use Rattle.std.specs.Result.{IfOk}
use Rattle.std.proofs.lemmas.Bool.{cases_Bool, cases_lt, lt-leb}
use Rattle.std.proofs.lemmas.Bool.Decides.{nat_tests}
use Rattle.std.proofs.lemmas.Str.{length-encode, len_utf8_ascii}
use Rattle.news_types.specs.Fits.{FitsStory, FitsIncoming}
use Rattle.news_types.specs.declared.story.Incoming.{Incoming}
use Rattle.text7901.specs.Fields.{lead, utf8, behind_byte}
use Rattle.text7901.proofs.Sizes.{fitting_length}
use Rattle.agency_wires.specs.declared.fault.WireFault.{WireFault}
use Rattle.agency_wires.specs.declared.fault.WireFault.TheVariants.{Fault}
use Rattle.agency_wires.specs.declared.fault.What.TheVariants.{NotThisForm, NoHeader, NoText, NoEnd, TooLong}
use Rattle.agency_wires.specs.Parts.{word, behind_word, is_within, has}
use Rattle.agency_wires.specs.Header.{header_line, slug, has_header, behind_number, urgency_in, urgency, is_urgency, category_in, category, is_category_letter}
use Rattle.agency_wires.specs.Headline.{headline, body}
use Rattle.agency_wires.specs.Identity.{named, identity}
use Rattle.agency_wires.specs.Reading.{is_anpa, text_place, wrong, story_with, incoming_of, or_fault, told_of, IsRead}

first_part : (s t : Bool) → (s && t) ≡ true → s ≡ true
first_part true t e = refl
first_part false t e = cc

second_part : (s t : Bool) → (s && t) ≡ true → t ≡ true
second_part true t e = e
second_part false t e = cc

pub within_size : (n : ℕ) (xs : List ℕ) → is_within n xs ≡ true → length (utf8 xs) ≤ n
within_size n [] e = omega arith
within_size n (c ∷ xs) e =
    let h = within_size (n - length (encode_utf8 c)) xs (second_part (leb (length (encode_utf8 c)) n) (is_within (n - length (encode_utf8 c)) xs) e) in
    let sum = length-append (encode_utf8 c) (utf8 xs) in
    elim (cases_lt n (length (encode_utf8 c))) [
      | inl lt ↦
          let no = lt-leb (length (encode_utf8 c)) n lt in
          let yes = first_part (leb (length (encode_utf8 c)) n) (is_within (n - length (encode_utf8 c)) xs) e in
          absurd (not_both (leb (length (encode_utf8 c)) n) no yes)
      | inr ge ↦ omega (arith, h, sum, ge)
    ]
  where
    not_both : (t : Bool) → t ≡ false → t ≡ true → ⊥
    not_both t a b = cc

-- ---- urgency and category

digit_most : (c : ℕ) → cond (is_ascii_digit c) (c - 48) 0 ≤ 9
digit_most c =
    elim (cases_Bool (is_ascii_digit c)) [
      | inl e ↦ let high : c ≤ 57 = grind (arith, nat_tests, e) in rw e (omega (arith, high))
      | inr e ↦ rw e (omega arith)
    ]

urgency_most : (w : List ℕ) → urgency_in w ≤ 9
urgency_most [] = omega arith
urgency_most (c ∷ []) = digit_most c
urgency_most (c ∷ d ∷ w) = omega arith

letter_one : (c : ℕ) → is_ascii_alphabetic c ≡ true → length (encode_utf8 c) ≡ 1
letter_one c e =
    let low : c < 128 = grind (arith, nat_tests, e) in
    length-encode c ∙ len_utf8_ascii c low

letters_length : (n : ℕ) (xs : List ℕ) → length (utf8 (lead is_ascii_alphabetic n xs)) ≤ n
letters_length zero xs = omega arith
letters_length (suc n) [] = omega arith
letters_length (suc n) (x ∷ xs) =
    let h = letters_length n xs in
    elim (cases_Bool (is_ascii_alphabetic x)) [
      | inl e ↦
          let one = letter_one x e in
          rw e (omega (arith, h, one, length-append (encode_utf8 x) (utf8 (lead is_ascii_alphabetic n xs))))
      | inr e ↦ rw e (omega arith)
    ]

few_or_none : (t : Bool) (xs : List ℕ) → length (utf8 xs) ≤ 3 → length (utf8 (cond t xs [])) ≤ 3
few_or_none true xs h = h
few_or_none false xs h = omega arith

category_length : (rest : List ℕ) → length (utf8 (category rest)) ≤ 3
unfolding category
category_length rest =
    let w = word (behind_word rest) in
    few_or_none (is_urgency (word rest)) (category_in w) (few_or_none (list_all is_category_letter w && leb (length w) 16) (lead is_ascii_alphabetic 3 w) (letters_length 3 w))

urgency_few : (rest : List ℕ) → urgency rest ≤ 9
unfolding urgency
urgency_few rest = urgency_most (word rest)

identity_length : (line info : List ℕ) (day : ℕ) → length (identity line info day) ≤ 256
unfolding identity
identity_length line info day = fitting_length 256 (named line info day)

-- ---- the whole

story_fits : (rest slug headline body : List ℕ) → is_within 524_288 body ≡ true → FitsStory (story_with rest slug headline body)
story_fits rest slug headline body h = record {
  urgency = urgency_few rest;
  slugline = fitting_length 500 slug;
  headline = fitting_length 500 headline;
  byline = omega arith;
  language = omega arith;
  category = category_length rest;
  body = within_size 524_288 body h;
  copyright = omega arith;
}

-- where nothing of these is wrong, the last is not
none_last : (a b c d e : Bool) (v w x y z : WireFault) → cond (not a) (Some v) (cond b (Some w) (cond (not c) (Some x) (cond (not d) (Some y) (cond (not e) (Some z) None)))) ≡ None → e ≡ true
none_last false b c d e v w x y z h = cc
none_last true true c d e v w x y z h = cc
none_last true false false d e v w x y z h = cc
none_last true false true false e v w x y z h = cc
none_last true false true true false v w x y z h = cc
none_last true false true true true v w x y z h = refl

parts_fit : (bytes head text info : List ℕ) (day : ℕ) → wrong bytes head text ≡ None → FitsIncoming (incoming_of head text info day)
parts_fit bytes head text info day e = record {
  identity = identity_length (header_line head) info day;
  created = omega arith;
  embargo = omega arith;
  story = story_fits (behind_number (header_line head)) (slug head) (headline text) (body text) (none_last (has_header (header_line head)) (is_anpa text) (has 2 bytes) (has 3 (behind_byte 2 bytes)) (is_within 524_288 (body text)) (Fault 0 NoHeader) (Fault (text_place bytes) NotThisForm) (Fault (length bytes) NoText) (Fault (length bytes) NoEnd) (Fault (text_place bytes) TooLong) e);
}

fault_or : (w : Option WireFault) (i a : Incoming) → (w ≡ None → FitsIncoming i) → or_fault w i ≡ Ok a → FitsIncoming a
fault_or None i a f e = subst FitsIncoming (same e) (f refl)
  where
    same : {x y : Incoming} → or_fault None x ≡ Ok y → x ≡ y
    same e = cc
fault_or (Some w) i a f e = cc

read_fits : (said r : Result Incoming WireFault) → ((a : Incoming) → said ≡ Ok a → FitsIncoming a) → IsRead said r → IfOk r FitsIncoming
read_fits said (Ok a) f h = f a h
read_fits said (Err fault) f h = tt

pub parts_read : (bytes head text info : List ℕ) (day : ℕ) (r : Result Incoming WireFault) → IsRead (told_of bytes head text info day) r → IfOk r FitsIncoming
parts_read bytes head text info day r h =
    read_fits (told_of bytes head text info day) r (λ a e. fault_or (wrong bytes head text) (incoming_of head text info day) a (parts_fit bytes head text info day) e) h
