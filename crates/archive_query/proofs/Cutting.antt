-- Tokens, joined again and cut off one by one.
use Rattle.std.proofs.Common.{◌≡◌, ℕ, suc, ◌+◌, ◌<◌, ◌≤◌, Bool, true, false, ◌&&◌, List, [], ◌∷◌, ◌++◌, length, take, drop, Option, Some, None, refl, sym, ap, subst, ◌∙◌, arith, append-nil, append_assoc, add-one, drop-cons, length-append}
use Rattle.std.specs.Prelude.{◌==◌, if◌then◌else◌, slice_index}
use Rattle.std.proofs.Math.Seq.{take-suc, take-length, drop-length}
use Rattle.std.proofs.lemmas.Bool.{and_parts, eqb-true}
use Rattle.news_types.specs.Names.{Bytes}
use Rattle.archive_query.specs.declared.tokens.Place.{Place}
use Rattle.archive_query.specs.declared.tokens.Place.TheVariants.{Start}
use Rattle.archive_query.specs.Tokens.{place_after, is_outside, put_byte, tokens_from, tokens, joined, tokens_left, IsFirst}

-- ---- there is a first token

put_some : (b : ℕ) (ts : List Bytes) → (token : Bytes) × (rest : List Bytes) × (put_byte b ts ≡ token ∷ rest)
put_some b [] = (b ∷ [], [], refl)
put_some b (token ∷ rest) = (b ∷ token, rest, refl)

abbrev HasFirst : List Bytes → Type 0
HasFirst ts = (token : Bytes) × (rest : List Bytes) × (ts ≡ token ∷ rest)

first_if : (end : Bool) (b : ℕ) (ts us : List Bytes) → HasFirst (if end then [] ∷ ts else put_byte b us)
first_if true b ts us = ([], ts, refl)
first_if false b ts us = put_some b us

has_first : (place : Place) (text : Bytes) → HasFirst (tokens_from place text)
has_first place [] = ([], [], refl)
has_first place (b ∷ text) = first_if (b == 32 && is_outside place) b (tokens_from Start text) (tokens_from (place_after place b) text)

-- ---- joined again

joined_put : (b : ℕ) (ts : List Bytes) → HasFirst ts → joined (put_byte b ts) ≡ b ∷ joined ts
joined_put b [] h = absurd cc
joined_put b (token ∷ []) h = refl
joined_put b (token ∷ next ∷ rest) h = refl

joined_space : (ts : List Bytes) → HasFirst ts → joined ([] ∷ ts) ≡ 32 ∷ joined ts
joined_space [] h = absurd cc
joined_space (token ∷ rest) h = refl

joined_if : (end : Bool) (b : ℕ) (ts us : List Bytes) (text : Bytes) → HasFirst ts → HasFirst us → (end ≡ true → b ≡ 32) → joined ts ≡ text → joined us ≡ text → joined (if end then [] ∷ ts else put_byte b us) ≡ b ∷ text
joined_if true b ts us text some_ts some_us space is_ts is_us = joined_space ts some_ts ∙ (ap (λ (x : Bytes). 32 ∷ x) is_ts ∙ ap (λ (c : ℕ). c ∷ text) (sym (space refl)))
joined_if false b ts us text some_ts some_us space is_ts is_us = joined_put b us some_us ∙ ap (λ (x : Bytes). b ∷ x) is_us

pub joined_from : (place : Place) (text : Bytes) → joined (tokens_from place text) ≡ text
joined_from place [] = refl
joined_from place (b ∷ text) =
    joined_if (b == 32 && is_outside place) b (tokens_from Start text) (tokens_from (place_after place b) text) text (has_first Start text) (has_first (place_after place b) text)
    (λ h. eqb-true b 32 (and_parts (b == 32) (is_outside place) h).0) (joined_from Start text) (joined_from (place_after place b) text)

pub joined_left : (rest : Option Bytes) (text : Bytes) → rest ≡ Some text → joined (tokens_left rest) ≡ text
joined_left None text h = absurd cc
joined_left (Some rest) text h = joined_from Start rest ∙ cc

-- fewer tokens have no more bytes
pub joined_tail : (token : Bytes) (rest : List Bytes) → length (joined rest) ≤ length (joined (token ∷ rest))
joined_tail token [] = omega arith
joined_tail token (next ∷ rest) = omega (arith, length-append token (32 ∷ joined (next ∷ rest)))

pub joined_rest : (front rest : List Bytes) → length (joined rest) ≤ length (joined (front ++ rest))
joined_rest [] rest = omega arith
joined_rest (token ∷ front) rest = omega (arith, joined_rest front rest, joined_tail token (front ++ rest))

-- ---- the first token, byte by byte

-- the bytes before what the first token goes on with
abbrev pub prefixed : Bytes → List Bytes → List Bytes
prefixed front [] = []
prefixed front (token ∷ rest) = (front ++ token) ∷ rest

prefixed_put : (front : Bytes) (b : ℕ) (ts : List Bytes) → HasFirst ts → prefixed front (put_byte b ts) ≡ prefixed (front ++ b ∷ []) ts
prefixed_put front b [] h = absurd cc
prefixed_put front b (token ∷ rest) h = ap (λ (t : Bytes). t ∷ rest) (sym (append_assoc front (b ∷ []) token))

pub prefixed_none : (ts : List Bytes) → prefixed [] ts ≡ ts
prefixed_none [] = refl
prefixed_none (token ∷ rest) = refl

-- so far no space has ended it
abbrev pub GoesTo : Bytes → ℕ → Place → Type 0
GoesTo text i place = tokens text ≡ prefixed (take i text) (tokens_from place (drop i text))

pub goes_from : (text : Bytes) → GoesTo text 0 Start
goes_from text = sym (prefixed_none (tokens text))

-- a byte that does not end it
pub goes_on : (text : Bytes) (i : ℕ) (place : Place) (b : ℕ) → i < length text → b ≡ slice_index text i → (b == 32 && is_outside place) ≡ false → GoesTo text i place → GoesTo text (i + 1) (place_after place b)
goes_on text i place b within is goes h =
    let cell : drop i text ≡ b ∷ drop (suc i) text = drop-cons text i 0 within ∙ ap (λ (c : ℕ). c ∷ drop (suc i) text) (sym is) in
    let more : tokens_from place (drop i text) ≡ put_byte b (tokens_from (place_after place b) (drop (suc i) text)) = ap (tokens_from place) cell ∙ ap (λ (e : Bool). if e then [] ∷ tokens_from Start (drop (suc i) text) else put_byte b (tokens_from (place_after place b) (drop (suc i) text))) goes in
    let front : take (suc i) text ≡ take i text ++ b ∷ [] = take-suc text i 0 within ∙ ap (λ (c : ℕ). take i text ++ c ∷ []) (sym is) in
    rw add-one (h ∙ (ap (prefixed (take i text)) more ∙ (prefixed_put (take i text) b (tokens_from (place_after place b) (drop (suc i) text)) (has_first (place_after place b) (drop (suc i) text))
    ∙ ap (λ (f : Bytes). prefixed f (tokens_from (place_after place b) (drop (suc i) text))) (sym front))))

-- a space that ends it
pub ends_there : (text : Bytes) (i : ℕ) (place : Place) (b : ℕ) → i < length text → b ≡ slice_index text i → (b == 32 && is_outside place) ≡ true → GoesTo text i place → IsFirst text i
ends_there text i place b within is ends h =
    let space = eqb-true b 32 (and_parts (b == 32) (is_outside place) ends).0 in
    let cell : drop i text ≡ b ∷ drop (suc i) text = drop-cons text i 0 within ∙ ap (λ (c : ℕ). c ∷ drop (suc i) text) (sym is) in
    let more : tokens_from place (drop i text) ≡ [] ∷ tokens (drop (suc i) text) = ap (tokens_from place) cell ∙ ap (λ (e : Bool). if e then [] ∷ tokens_from Start (drop (suc i) text) else put_byte b (tokens_from (place_after place b) (drop (suc i) text))) ends in
    record {
      within = omega arith;
      last = λ e. absurd (omega arith);
      space = λ _. sym is ∙ space;
      more = λ _. rw add-one (h ∙ (ap (prefixed (take i text)) more ∙ ap (λ (t : Bytes). t ∷ tokens (drop (suc i) text)) (append-nil (take i text))));
    }

-- the end of the text
pub ends_last : (text : Bytes) (i : ℕ) (place : Place) → i ≡ length text → GoesTo text i place → IsFirst text (length text)
ends_last text i place all h =
    let here : GoesTo text (length text) place = subst (λ (n : ℕ). GoesTo text n place) all h in
    record {
      within = omega arith;
      last = λ _.
          here ∙ (ap (λ (r : Bytes). prefixed (take (length text) text) (tokens_from place r)) (drop-length text)
          ∙ (ap (λ (t : Bytes). t ∷ []) (append-nil (take (length text) text)) ∙ ap (λ (t : Bytes). t ∷ []) (take-length text)));
      space = λ e. absurd (omega arith);
      more = λ e. absurd (omega arith);
    }
