-- Records that are none.
use Rattle.std.proofs.Common.{◌≡◌, ◌⊎◌, inl, inr, ⊎_elim, ℕ, zero, suc, ◌+◌, ◌≤◌, ◌<◌, ◌^◌, List, [], ◌∷◌, ◌++◌, length, take, drop, Some, None, Option, Result, Ok, Err, false, ◌&&◌, leb, ltb, slice_get, get_or, ◌/◌, ◌%◌, refl, sym, ◌∙◌, ap, arith, take-append-drop}
use Rattle.std.proofs.lemmas.List.{length-take, length-drop, take_all}
use Rattle.std.proofs.lemmas.Bool.Decides.{nat_tests}
use Rattle.std.proofs.lemmas.Nat.{be_bytes_4, from_be_bytes-to_be_bytes_4}
use Rattle.std.specs.Int.{w32, to_be_bytes, from_be_bytes}
use Rattle.news_journal.specs.Opened.{LooksAs, HeadAs}
use Rattle.news_journal.specs.declared.log.OpenFault.{OpenFault}
use Rattle.news_journal.specs.declared.log.OpenFault.TheVariants.{DiskFault, Damaged, Memory}
use Rattle.news_journal.specs.Log.{Broken, reading, span, has_record}

bad_record : (n at : ℕ) (X : List ℕ) → has_record at X ≡ false → reading (suc n) at (1 ∷ X) ≡ Broken (at + 1) (slice_get X 0)
unfolding reading
bad_record n at X fails = rw fails refl

short_record : (at : ℕ) (X : List ℕ) → length X < 4 → has_record at X ≡ false
unfolding has_record
short_record at X less = let no_room : leb 4 (length X) ≡ false = grind (arith, nat_tests) in rw no_room refl

some_fails : (s l at : ℕ) → (4194304 < s) ⊎ ((l ≤ 4 + s) ⊎ (2 ^ 30 ≤ at + 5 + s)) → (leb 4 l && (leb s 4194304 && (ltb (4 + s) l && ltb (at + 5 + s) (2 ^ 30)))) ≡ false
some_fails s l at (inl a) = grind (arith, nat_tests)
some_fails s l at (inr (inl a)) = grind (arith, nat_tests)
some_fails s l at (inr (inr a)) = grind (arith, nat_tests)

no_record : (at : ℕ) (X : List ℕ) → (4194304 < span X) ⊎ ((length X ≤ 4 + span X) ⊎ (2 ^ 30 ≤ at + 5 + span X)) → has_record at X ≡ false
unfolding has_record
no_record at X fails = some_fails (span X) (length X) at fails

-- the length field is cut short
pub cut_short : (n at : ℕ) (X bytes : List ℕ) → length X < 4 → take 5 bytes ≡ 1 ∷ X → reading (suc n) at bytes ≡ Broken (at + 1) (slice_get X 0)
cut_short n at X bytes less is =
    let long = ap length is in
    let whole : bytes ≡ 1 ∷ X = sym (take_all 5 bytes (omega (arith, long, length-take 5 bytes))) ∙ is in
    ap (λ (l : List ℕ). reading (suc n) at l) whole ∙ bad_record n at X (short_record at X less)

-- the length is too large, or the next gate is too far
pub too_far : (n at a b c d : ℕ) (rest bytes : List ℕ) → (4194304 < from_be_bytes w32 (a ∷ b ∷ c ∷ d ∷ [])) ⊎ ((length rest ≤ from_be_bytes w32 (a ∷ b ∷ c ∷ d ∷ [])) ⊎ (2 ^ 30 ≤ at + 5 + from_be_bytes w32 (a ∷ b ∷ c ∷ d ∷ [])))
    → bytes ≡ 1 ∷ a ∷ b ∷ c ∷ d ∷ rest → reading (suc n) at bytes ≡ Broken (at + 1) (Some a)
unfolding span
too_far n at a b c d rest bytes fails is =
    ap (λ (l : List ℕ). reading (suc n) at l) is ∙ bad_record n at (a ∷ b ∷ c ∷ d ∷ rest) (no_record at (a ∷ b ∷ c ∷ d ∷ rest) (⊎_elim (λ x. inl x) (λ y. inr (⊎_elim (λ z. inl (omega arith)) (λ z. inr z) y)) fails))

nothing_read : (n at : ℕ) → reading (suc n) at [] ≡ Broken at None
unfolding reading
nothing_read n at = refl

pub nothing : (n at : ℕ) (head bytes : List ℕ) → length head ≡ 0 → take 5 bytes ≡ head → reading (suc n) at bytes ≡ Broken at None
nothing n at [] [] none is = nothing_read n at
nothing n at [] (b ∷ bytes) none is = absurd (cc is)
nothing n at (h ∷ head) bytes none is = absurd (omega arith)

pub cut : (n at : ℕ) (head bytes : List ℕ) → 0 < length head → length head < 5 → get_or head 0 0 ≡ 1 → take 5 bytes ≡ head → reading (suc n) at bytes ≡ Broken (at + 1) (slice_get head 1)
cut n at [] bytes some less is_open is = absurd (omega arith)
cut n at (h ∷ X) bytes some less is_open is = cut_short n at X bytes (omega arith) (is ∙ ap (λ (k : ℕ). k ∷ X) is_open)

pub five : (head : List ℕ) → length head ≡ 5 → head ≡ get_or head 0 0 ∷ get_or head 1 0 ∷ get_or head 2 0 ∷ get_or head 3 0 ∷ get_or head 4 0 ∷ []
five (a ∷ b ∷ c ∷ d ∷ e ∷ []) is = refl
five [] is = absurd (omega arith)
five (a ∷ []) is = absurd (omega arith)
five (a ∷ b ∷ []) is = absurd (omega arith)
five (a ∷ b ∷ c ∷ []) is = absurd (omega arith)
five (a ∷ b ∷ c ∷ d ∷ []) is = absurd (omega arith)
five (a ∷ b ∷ c ∷ d ∷ e ∷ f ∷ rest) is = absurd (omega arith)

abbrev pub length_field : List ℕ → List ℕ
length_field head = get_or head 1 0 ∷ get_or head 2 0 ∷ get_or head 3 0 ∷ get_or head 4 0 ∷ []

pub far : (n at : ℕ) (head bytes : List ℕ) → length head ≡ 5 → get_or head 0 0 ≡ 1 → (4194304 < from_be_bytes w32 (length_field head)) ⊎ (2 ^ 30 ≤ at + 5 + from_be_bytes w32 (length_field head)) → take 5 bytes ≡ head
    → reading (suc n) at bytes ≡ Broken (at + 1) (Some (get_or head 1 0))
far n at head bytes size is_open fails is =
    too_far n at (get_or head 1 0) (get_or head 2 0) (get_or head 3 0) (get_or head 4 0) (drop 5 bytes) bytes
    (⊎_elim (λ x. inl x) (λ y. inr (inr y)) fails)
    (sym (take-append-drop 5 bytes) ∙ ap (λ (l : List ℕ). l ++ drop 5 bytes) (is ∙ five head size ∙ ap (λ (k : ℕ). k ∷ length_field head) is_open))

pub record_head : (head : List ℕ) (n : ℕ) → length head ≡ 5 → get_or head 0 0 ≡ 1 → ((i : ℕ) → get_or head i 0 < 256) → n ≡ from_be_bytes w32 (length_field head) → head ≡ 1 ∷ to_be_bytes w32 n
record_head head n size is_open bytes is =
    five head size ∙ ap (λ (k : ℕ). k ∷ length_field head) is_open ∙ ap (λ (l : List ℕ). 1 ∷ l) (sym (be_bytes_4 (length_field head) n refl all is))
  where
    all : (i : ℕ) → get_or (length_field head) i 0 < 256
    all zero = bytes 1
    all (suc zero) = bytes 2
    all (suc (suc zero)) = bytes 3
    all (suc (suc (suc zero))) = bytes 4
    all (suc (suc (suc (suc i)))) = omega arith

top_byte : (n : ℕ) → n ≤ 4194304 → n / 16777216 % 256 ≡ 0
top_byte n small = omega (arith, small)

-- the file ends before the next gate
pub cut_payload : (n at count : ℕ) (bytes X : List ℕ) → bytes ≡ 1 ∷ to_be_bytes w32 count ++ drop 5 bytes → count ≤ 4194304 → X ≡ drop 5 bytes → length X ≤ count → reading (suc n) at bytes ≡ Broken (at + 1) (Some 0)
cut_payload n at count bytes X is small same less =
    let back = from_be_bytes-to_be_bytes_4 count (omega arith) in
    too_far n at (count / 16777216 % 256) (count / 65536 % 256) (count / 256 % 256) (count % 256) (drop 5 bytes) bytes (inr (inl (omega (arith, back, less, ap length same)))) is
    ∙ ap (λ (b : ℕ). Broken (at + 1) (Some b)) (top_byte count small)

pub whole_record : (count at : ℕ) (bytes X v : List ℕ) → bytes ≡ 1 ∷ to_be_bytes w32 count ++ drop 5 bytes → (count ≤ 4194304) × (at + 5 + count < 2 ^ 30) → X ≡ drop 5 bytes → (length v ≡ count) × (v ≡ take count X) × (count < length X)
    → (rest : List ℕ) × (bytes ≡ 1 ∷ to_be_bytes w32 (length v) ++ (v ++ rest)) × (0 < length rest) × (length v ≤ 4194304) × (at + 5 + length v < 2 ^ 30)
whole_record count at bytes X v is small same payload = (
  drop count X,
  is ∙ ap (λ (l : List ℕ). 1 ∷ to_be_bytes w32 count ++ l) (sym same ∙ sym (take-append-drop count X) ∙ ap (λ (l : List ℕ). l ++ drop count X) (sym payload.1))
      ∙ ap (λ (k : ℕ). 1 ∷ to_be_bytes w32 k ++ (v ++ drop count X)) (sym payload.0),
  omega (arith, length-drop count X, payload.2),
  omega (arith, payload.0, small.0),
  omega (arith, payload.0, small.1),
)

-- from the first five bytes to all of them
pub head_as : (at : ℕ) (bytes : List ℕ) (r : Result (Option ℕ) OpenFault) → LooksAs at (take 5 bytes) r → HeadAs at bytes r
head_as at bytes (Ok None) looks = (looks.0, looks.1 ++ drop 5 bytes, looks.2, sym (take-append-drop 5 bytes) ∙ ap (λ (l : List ℕ). l ++ drop 5 bytes) looks.3)
head_as at bytes (Ok (Some n)) looks = (sym (take-append-drop 5 bytes) ∙ ap (λ (l : List ℕ). l ++ drop 5 bytes) looks.0, looks.1, looks.2)
head_as at bytes (Err (Damaged place found)) looks = looks bytes refl
head_as at bytes (Err DiskFault) looks = absurd looks
head_as at bytes (Err Memory) looks = absurd looks
