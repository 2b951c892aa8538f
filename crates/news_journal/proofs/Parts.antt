-- A part of what was read ahead.
use Rattle.std.proofs.Common.{◌≡◌, ◌⊎◌, inl, inr, ⊎_elim, ℕ, ◌+◌, ◌-◌, ◌≤◌, ◌<◌, min, List, [], length, take, drop, sym, ◌∙◌, ap, arith}
use Rattle.std.proofs.lemmas.List.{take-take, drop-take, drop-drop, take_all, length-take-le, length-take, length-drop, nil_from_length}
use Rattle.std.proofs.lemmas.Bool.{cases_lt}

-- of a list that begins at this place
part_of : (G : List ℕ) (count left m : ℕ) → (count ≤ left) ⊎ (length G ≤ left) → m ≡ min count left → take m (take left (take left G)) ≡ take count G
part_of G count left m far is =
    take-take m left (take left G) (omega arith)
    ∙ take-take m left G (omega arith)
    ∙ elim (cases_lt left count) [
      | inl less ↦ take_all m G (whole less far) ∙ sym (take_all count G (longer less far))
      | inr enough ↦ ap (λ (k : ℕ). take k G) (omega arith)
    ]
  where
    whole : left < count → (count ≤ left) ⊎ (length G ≤ left) → length G ≤ m
    whole less (inl a) = absurd (omega arith)
    whole less (inr b) = omega arith

    longer : left < count → (count ≤ left) ⊎ (length G ≤ left) → length G ≤ count
    longer less (inl a) = absurd (omega arith)
    longer less (inr b) = omega arith

module _ (file X : List ℕ) (from at count c : ℕ) (few : c ≤ length (drop from file)) (same : take c X ≡ take c (drop from file)) (behind : from ≤ at) (far : (at + count ≤ from + c) ⊎ (length file ≤ from + c)) where
  -- the part begins within what was read
  inside : at - from ≤ c → (m : ℕ) → m ≡ min count (c - (at - from)) → take m (take (c - (at - from)) (drop (at - from) (take c X))) ≡ take count (drop at file)
  inside within m is =
      let k = at - from in
      let split : c ≡ k + (c - k) = omega arith in
      let place : from + k ≡ at = omega arith in
      let rest : drop k (take c X) ≡ take (c - k) (drop at file) =
      ap (drop k) (same ∙ ap (λ (n : ℕ). take n (drop from file)) split) ∙ drop-take k (c - k) (drop from file)
      ∙ ap (take (c - k)) (drop-drop k from file ∙ ap (λ (n : ℕ). drop n file) place) in
      ap (λ (l : List ℕ). take m (take (c - k) l)) rest
      ∙ part_of (drop at file) count (c - k) m (⊎_elim (λ a. inl (omega arith)) (λ b. inr (omega (arith, length-drop at file))) far) is

  -- it begins behind the file's end
  outside : c < at - from → (l : List ℕ) → l ≡ [] → l ≡ take count (drop at file)
  outside past l none = none ∙ sym (nil_from_length (take count (drop at file)) (omega (arith, length-take count (drop at file), empty far)))
    where
      empty : (at + count ≤ from + c) ⊎ (length file ≤ from + c) → length (drop at file) ≡ 0
      empty (inl a) = absurd (omega arith)
      empty (inr b) = omega (arith, length-drop at file)

  size : length (take c X) ≡ c
  size = ap length same ∙ length-take-le c (drop from file) few

  pub part_is : (start m : ℕ) → start ≡ min (at - from) (length (take c X)) → m ≡ min count (length (take (length (take c X) - start) (drop start (take c X))))
      → take m (take (length (take c X) - start) (drop start (take c X))) ≡ take count (drop at file)
  part_is start m first given = let most : m ≡ min count (length (take c X) - start) = omega (arith, given, length-take (length (take c X) - start) (drop start (take c X)), length-drop start (take c X)) in elim (cases_lt c (at - from)) [
    | inl past ↦ outside past _ (nil_from_length _ (omega (arith, length-take m (take (length (take c X) - start) (drop start (take c X))), first, most, size)))
    | inr within ↦
        let at_start : start ≡ at - from = omega (arith, first, size) in
        let left : length (take c X) - start ≡ c - (at - from) = omega (arith, at_start, size) in
        ap (λ (n : ℕ). take m (take (length (take c X) - start) (drop n (take c X)))) at_start
        ∙ ap (λ (n : ℕ). take m (take n (drop (at - from) (take c X)))) left
        ∙ inside within m (omega (arith, most, left))
  ]

-- a payload of which one byte more was asked
pub payload_is : (count : ℕ) (X part payload : List ℕ) → part ≡ take (count + 1) X → count < length part → payload ≡ take count part → (length payload ≡ count) × (payload ≡ take count X) × (count < length X)
payload_is count X part payload is more given = (
  omega (arith, ap length given, length-take count part, more),
  given ∙ ap (take count) is ∙ take-take count (count + 1) X (omega arith),
  omega (arith, more, ap length is, length-take (count + 1) X),
)

-- a piece that is full, or goes to the file's end
pub first_part : (S into : List ℕ) (n m : ℕ) → n ≤ m → (m < n + 1) ⊎ (length S ≤ n) → take n into ≡ take n S → take n into ≡ take m S
first_part S into n m within far is = is ∙ elim far [
  | inl full ↦ ap (λ (k : ℕ). take k S) (omega arith)
  | inr ends ↦ take_all n S ends ∙ sym (take_all m S (omega (arith, ends)))
]
