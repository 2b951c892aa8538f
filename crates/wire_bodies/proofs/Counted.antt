-- Members that are kept one after the other, of all that a body has.
use Rattle.std.proofs.Common.{◌≡◌, ℕ, ◌≤◌, List, [], ◌∷◌, ◌++◌, map, length, take, drop, refl, sym, ap, ◌∙◌, append_assoc, arith, subst}
use Rattle.std.proofs.lemmas.List.{append-nil, map-append, length-append, take-append-drop, nil_from_length}
use Rattle.wire_bodies.specs.declared.member.BodyMember.{BodyMember}
use Rattle.wire_bodies.specs.declared.member.BodyFault.{BodyFault}
use Rattle.wire_bodies.specs.declared.member.BodyFault.TheVariants.{TooMany, Memory}
use Rattle.wire_bodies.specs.Bodies.{IsFault}

-- where the first are too many, all are
fault_more : (first later all : List BodyMember) (fault : BodyFault) → first ++ later ≡ all → IsFault first fault → IsFault all fault
fault_more first later all TooMany is many = omega (arith, many, ap length is, length-append first later)
fault_more first later all Memory is u = tt

module _ {X : Type 0} (f : X → BodyMember) where
  -- one of those that are ready is kept
  pub kept_next : (kept all : List BodyMember) (x : X) (ready later : List X) → ready ≡ x ∷ later → kept ++ map f ready ≡ all → (kept ++ f x ∷ []) ++ map f later ≡ all
  kept_next kept all x ready later is so_far = append_assoc kept (f x ∷ []) (map f later) ∙ ap (λ (l : List X). kept ++ map f l) (sym is) ∙ so_far

  pub fault_next : (kept all : List BodyMember) (x : X) (ready later : List X) (fault : BodyFault) → ready ≡ x ∷ later → kept ++ map f ready ≡ all → IsFault (kept ++ f x ∷ []) fault → IsFault all fault
  fault_next kept all x ready later fault is so_far = fault_more (kept ++ f x ∷ []) (map f later) all fault (kept_next kept all x ready later is so_far)

  -- nothing more is ready
  pub kept_last : (kept all : List BodyMember) (ready : List X) → ready ≡ [] → kept ++ map f ready ≡ all → kept ≡ all
  kept_last kept all ready is so_far = sym (append-nil kept) ∙ ap (λ (l : List X). kept ++ map f l) (sym is) ∙ so_far

  -- all that was ready is kept, and what comes later follows
  pub kept_ready : (kept now : List BodyMember) (ready later all : List X) → ready ++ later ≡ all → now ≡ kept ++ map f ready → now ++ map f later ≡ kept ++ map f all
  kept_ready kept now ready later all whole is =
      ap (λ (l : List BodyMember). l ++ map f later) is ∙ append_assoc kept (map f ready) (map f later)
      ∙ ap (λ (l : List BodyMember). kept ++ l) (sym (map-append f ready later)) ∙ ap (λ (l : List X). kept ++ map f l) whole

  pub fault_ready : (kept : List BodyMember) (ready later all : List X) (fault : BodyFault) → ready ++ later ≡ all → IsFault (kept ++ map f ready) fault → IsFault (kept ++ map f all) fault
  fault_ready kept ready later all fault whole = fault_more (kept ++ map f ready) (map f later) (kept ++ map f all) fault (kept_ready kept (kept ++ map f ready) ready later all whole refl)

  -- ---- a piece is cut off what is left, where g tells what a reader gives of what follows

  rejoined : (n : ℕ) (rest piece later : List ℕ) → piece ≡ take n rest → later ≡ drop n rest → piece ++ later ≡ rest
  rejoined n rest piece later front back = ap (λ (l : List ℕ). l ++ later) front ∙ ap (λ (l : List ℕ). take n rest ++ l) back ∙ take-append-drop n rest

  pub kept_piece : (g : List ℕ → List X) (kept now all : List BodyMember) (n : ℕ) (rest piece later : List ℕ) (left : List X) → piece ≡ take n rest → later ≡ drop n rest
      → kept ++ map f (g rest) ≡ all → now ++ map f left ≡ kept ++ map f (g (piece ++ later)) → now ++ map f left ≡ all
  kept_piece g kept now all n rest piece later left front back so_far is = is ∙ ap (λ (l : List ℕ). kept ++ map f (g l)) (rejoined n rest piece later front back) ∙ so_far

  pub fault_piece : (g : List ℕ → List X) (kept all : List BodyMember) (n : ℕ) (rest piece later : List ℕ) (fault : BodyFault) → piece ≡ take n rest → later ≡ drop n rest
      → kept ++ map f (g rest) ≡ all → IsFault (kept ++ map f (g (piece ++ later))) fault → IsFault all fault
  fault_piece g kept all n rest piece later fault front back so_far many =
      subst (λ (l : List BodyMember). IsFault l fault) (ap (λ (l : List ℕ). kept ++ map f (g l)) (rejoined n rest piece later front back) ∙ so_far) many

  -- nothing is left
  at_end : (g : List ℕ → List X) (kept all : List BodyMember) (rest : List ℕ) → length rest ≡ 0 → kept ++ map f (g rest) ≡ all → kept ++ map f (g []) ≡ all
  at_end g kept all rest none so_far = ap (λ (l : List ℕ). kept ++ map f (g l)) (sym (nil_from_length rest none)) ∙ so_far

  pub kept_end : (g : List ℕ → List X) (kept now all : List BodyMember) (rest : List ℕ) → length rest ≡ 0 → kept ++ map f (g rest) ≡ all → now ≡ kept ++ map f (g []) → length now ≤ 4096
      → (now ≡ all) × (length all ≤ 4096)
  kept_end g kept now all rest none so_far is few =
      let whole : now ≡ all = is ∙ at_end g kept all rest none so_far in
      (whole, subst (λ (l : List BodyMember). length l ≤ 4096) whole few)

  pub fault_end : (g : List ℕ → List X) (kept all : List BodyMember) (rest : List ℕ) (fault : BodyFault) → length rest ≡ 0 → kept ++ map f (g rest) ≡ all → IsFault (kept ++ map f (g [])) fault → IsFault all fault
  fault_end g kept all rest fault none so_far many = subst (λ (l : List BodyMember). IsFault l fault) (at_end g kept all rest none so_far) many
