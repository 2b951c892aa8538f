-- What a crash leaves of a side in the making.
use Rattle.std.proofs.Common.{◌≡◌, ◌≢◌, inl, inr, ℕ, ◌+◌, ◌≤◌, ◌<◌, List, [], ◌∷◌, ◌++◌, length, take, drop, refl, ◌∙◌, ap, arith, append_assoc}
use Rattle.std.proofs.lemmas.Bool.{cases_eq}
use Rattle.news_io.specs.Disk.{Holds, Torn}
use Rattle.news_pair.specs.Pair.{side_head, IsBare, IsSideInTheMaking}

-- the first byte stays, where only what stands behind it is written
pub first_stays : (f n : ℕ) (rest c : List ℕ) → f ≢ 78 → Torn 1 n (f ∷ rest) c → IsBare c
first_stays f n rest [] other torn = absurd (omega (arith, torn.no_shorter))
first_stays f n rest (b ∷ c) other torn = inr (λ same. other (cc (torn.before 1 (omega arith) (omega arith), same)))

-- a file that is too short stays so
pub short_stays : (seen c : List ℕ) → length seen < 65 → Torn 0 1 seen c → IsBare c
short_stays seen c short torn = inl (omega (arith, torn.no_longer))

pub cleared : (seen seen' : List ℕ) → Holds seen 0 (0 ∷ []) seen' → seen' ≡ 0 ∷ drop 1 seen
cleared seen seen' holds = holds

-- a file that is long enough shows by its first byte that it is none
pub first_other : (seen : List ℕ) → IsBare seen → 65 ≤ length seen → (first : ℕ) × (rest : List ℕ) × (first ≢ 78) × (seen ≡ first ∷ rest)
first_other seen (inl short) long = absurd (omega arith)
first_other [] (inr other) long = absurd (omega arith)
first_other (b ∷ seen) (inr other) long = (b, seen, other, refl)

pub behind_written : (f : ℕ) (rest seen seen' behind : List ℕ) → seen ≡ f ∷ rest → Holds seen 1 behind seen' → length behind ≡ 64 → seen' ≡ f ∷ (behind ++ drop 64 rest)
behind_written f rest seen seen' behind was holds long =
    let size : 1 + length behind ≡ 65 = omega (arith, long) in
    holds ∙ ap (λ (l : List ℕ). take 1 l ++ behind ++ drop (1 + length behind) l) was ∙ ap (λ (n : ℕ). f ∷ (behind ++ drop n (f ∷ rest))) size

module _ (store behind : List ℕ) (is : 78 ∷ behind ≡ side_head store ++ 0 ∷ []) where
  whole : (rest : List ℕ) → 78 ∷ (behind ++ rest) ≡ side_head store ++ 0 ∷ rest
  whole rest = ap (λ (l : List ℕ). l ++ rest) is ∙ append_assoc (side_head store) (0 ∷ []) rest

  pub first_torn : (f : ℕ) (rest seen c : List ℕ) → seen ≡ f ∷ (behind ++ rest) → Torn 0 1 seen c → IsSideInTheMaking store c
  first_torn f rest seen [] was torn = inl (inl (omega arith))
  first_torn f rest seen (b ∷ c) was torn = elim (cases_eq b 78) [
    | inl same ↦ inr (rest, (λ i. same i ∷ (torn.after ∙ ap (drop 1) was) i) ∙ whole rest)
    | inr other ↦ inl (inr other)
  ]

  pub first_written : (f : ℕ) (rest seen seen' : List ℕ) → seen ≡ f ∷ (behind ++ rest) → Holds seen 0 (78 ∷ []) seen' → seen' ≡ side_head store ++ 0 ∷ rest
  first_written f rest seen seen' was holds = holds ∙ ap (λ (l : List ℕ). take 0 l ++ (78 ∷ []) ++ drop 1 l) was ∙ whole rest
