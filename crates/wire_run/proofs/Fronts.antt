-- What comes first whatever bytes follow.
use Rattle.std.proofs.Common.{◌≡◌, ℕ, ◌<◌, List, [], ◌∷◌, ◌++◌, All, refl, sym, ap, ◌∙◌, arith, append_assoc}

module _ {X : Type 0} where
  abbrev pub BeginsWith : X → List X → Type 0
  BeginsWith x ys = (rest : List X) × (x ∷ rest ≡ ys)

  -- no member comes first in all cases
  abbrev pub Open : (List ℕ → List X) → Type 0
  Open f = (x : X) → ((more : List ℕ) → All (λ b. b < 256) more → BeginsWith x (f more)) → ⊥

  heads : {x y : X} {xs ys : List X} → x ∷ xs ≡ y ∷ ys → x ≡ y
  heads e = cc

  tails : {x y : X} {xs ys : List X} → x ∷ xs ≡ y ∷ ys → xs ≡ ys
  tails e = cc

  cancel : (xs ys zs : List X) → xs ++ ys ≡ xs ++ zs → ys ≡ zs
  cancel [] ys zs e = e
  cancel (x ∷ xs) ys zs e = cancel xs ys zs (tails e)

  -- what comes first in all cases is the front of what comes first and leaves nothing
  front : (xs ys : List X) (f g : List ℕ → List X) → Open g → ((more : List ℕ) → All (λ b. b < 256) more → xs ++ f more ≡ ys ++ g more) → (zs : List X) × (ys ≡ xs ++ zs)
  front [] ys f g none same = (ys, refl)
  front (x ∷ xs) [] f g none same = absurd (none x (λ more bytes. (xs ++ f more, same more bytes)))
  front (x ∷ xs) (y ∷ ys) f g none same =
      let more : (zs : List X) × (ys ≡ xs ++ zs) = front xs ys f g none (λ m bytes. tails (same m bytes)) in
      let one : x ≡ y = heads (same [] (λ k d lt. absurd (omega (arith, lt)))) in
      (more.0, ap (λ (z : X). z ∷ ys) (sym one) ∙ ap (λ (l : List X). x ∷ l) more.1)

  both : (xs ys : List X) (f g : List ℕ → List X) → Open f → Open g → ((more : List ℕ) → xs ++ f more ≡ ys ++ g more) → xs ≡ ys
  both [] [] f g none_f none_g same = refl
  both [] (y ∷ ys) f g none_f none_g same = absurd (none_f y (λ more bytes. (ys ++ g more, sym (same more))))
  both (x ∷ xs) [] f g none_f none_g same = absurd (none_g x (λ more bytes. (xs ++ f more, same more)))
  both (x ∷ xs) (y ∷ ys) f g none_f none_g same =
      ap (λ (z : X). z ∷ xs) (heads (same [])) ∙ ap (λ (l : List X). y ∷ l) (both xs ys f g none_f none_g (λ m. tails (same m)))

  -- ---- some bytes decide what comes first, and the rest decides nothing more

  module _ (all : List ℕ → List X) (bytes : List ℕ) (decided : List X) (rest : List ℕ → List X) (is : (more : List ℕ) → decided ++ rest more ≡ all (bytes ++ more)) (open_yet : Open rest) where
    -- what was given is the front of what is decided
    pub given_front : (given : List X) (f : List ℕ → List X) → ((more : List ℕ) → given ++ f more ≡ all (bytes ++ more)) → (later : List X) × (decided ≡ given ++ later)
    given_front given f same = front given decided f rest open_yet (λ more small. same more ∙ sym (is more))

    -- and all of it, where nothing more is given
    pub given_whole : (given : List X) (f : List ℕ → List X) → Open f → ((more : List ℕ) → given ++ f more ≡ all (bytes ++ more)) → decided ≡ given
    given_whole given f none same = sym (both given decided f rest none open_yet (λ more. same more ∙ sym (is more)))

    -- no further one is decided
    pub no_further : (x : X) → ((more : List ℕ) → All (λ b. b < 256) more → (later : List X) × ((decided ++ x ∷ []) ++ later ≡ all (bytes ++ more))) → ⊥
    no_further x further = open_yet x (λ more small.
        let next : (later : List X) × ((decided ++ x ∷ []) ++ later ≡ all (bytes ++ more)) = further more small in
        (next.0, cancel decided (x ∷ next.0) (rest more) (sym (append_assoc decided (x ∷ []) next.0) ∙ next.1 ∙ sym (is more))))
