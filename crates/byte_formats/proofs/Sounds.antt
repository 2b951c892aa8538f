-- What holds of formats that are put together holds of what they make.
use Rattle.std.proofs.Common.{◌≡◌, ℕ, zero, suc, ◌<◌, ◌≤◌, ◌+◌, List, [], ◌∷◌, ◌++◌, length, take, drop, Bool, true, false, Option, Some, None, Result, Ok, Err, cond, eqb, refl, sym, ap, subst, ◌∙◌, arith, append_assoc, inl, inr, ◌⊎◌, length-append}
use Rattle.std.proofs.lemmas.List.{append-nil}
use Rattle.byte_formats.specs.Format.{Format, ◌>>=◌}
use Rattle.byte_formats.proofs.Laws.{IsBytes, IsBytes-behind, bind_ok, bind_err, ok_is, not_both, same_left, same_tails, Lawful}
use Rattle.byte_formats.specs.Parts.{linked, picked, chosen, passed, checked, steps, steps_at, steps_bytes, AllSteps}
pub use Rattle.byte_formats.specs.Parts.{Sound}

err_is : {A : Type 0} (n m : ℕ) → (let r : Result A ℕ = Err n in r ≡ Err m) → n ≡ m
err_is n m e = cc

-- a format that keeps all laws
pub sound_of : {A : Type 0} (F : Format A) (P : A → Type 0) → Lawful F P → Sound F P
sound_of {A} F P l = record {
  again = l.again;
  takes = l.takes;
  within = λ bytes left ib e. let f = l.fault bytes left ib e in omega (arith, f.long, ap length f.is, length-append f.front f.rest);
  dead = λ front b rest more y ib e k. not_both (F.read (front ++ b ∷ more)) y (suc (length more)) k (l.stable front b rest more ib e);
}

-- ---- lists

-- a fault inside what is left lies behind what was read
pub split_at_fault : (xs r front : List ℕ) (b : ℕ) (rest : List ℕ) → xs ++ r ≡ front ++ b ∷ rest → suc (length rest) ≤ length r → (f : List ℕ) × (r ≡ f ++ b ∷ rest) × (front ≡ xs ++ f)
split_at_fault [] r front b rest e le = (front, e, refl)
split_at_fault (x ∷ xs) r [] b rest e le = absurd (omega (arith, ap length e, length-append xs r, le))
split_at_fault (x ∷ xs) r (c ∷ front) b rest e le =
    let first : x ≡ c = cc in
    let others : xs ++ r ≡ front ++ b ∷ rest = cc in
    let s = split_at_fault xs r front b rest others le in
    let whole : c ∷ front ≡ x ∷ (xs ++ s.0) = cc (first, s.2) in
    (s.0, s.1, whole)

-- what was read up to and with a byte, where as many bytes are left
pub split_behind : (xs r front : List ℕ) (b : ℕ) (rest : List ℕ) → xs ++ r ≡ front ++ b ∷ rest → length r ≡ length rest → xs ≡ front ++ b ∷ []
split_behind xs r front b rest e n = (same_tails xs r (front ++ b ∷ []) rest (e ∙ sym (append_assoc front (b ∷ []) rest)) n).0

-- ---- one thing, and then what it leads to

abbrev with_first : {A B : Type 0} → A → B × List ℕ → Result ((A × B) × List ℕ) ℕ
with_first a y = Ok ((a, y.0), y.1)

module _ {A B : Type 0} (F : Format A) (P : A → Type 0) (G : A → Format B) (Q : A → B → Type 0) (lf : Sound F P) (lg : (a : A) → P a → Sound (G a) (Q a)) where
  abbrev L : Format (A × B)
  L = linked F G

  abbrev Both : A × B → Type 0
  Both p = P p.0 × Q p.0 p.1

  abbrev then : A × List ℕ → Result ((A × B) × List ℕ) ℕ
  then x = (G x.0).read x.1 >>= λ y. Ok ((x.0, y.0), y.1)

  linked_again : (p : A × B) (rest : List ℕ) → Both p → L.read (L.spell p ++ rest) ≡ Ok (p, rest)
  linked_again p rest h =
      ap L.read (append_assoc (F.spell p.0) ((G p.0).spell p.1) rest)
      ∙ ap (λ r. r >>= then) (lf.again p.0 ((G p.0).spell p.1 ++ rest) h.0)
      ∙ ap (λ r. r >>= λ y. Ok ((p.0, y.0), y.1)) ((lg p.0 h.0).again p.1 rest h.1)

  linked_takes : (bytes : List ℕ) (p : A × B) (rest : List ℕ) → IsBytes bytes → L.read bytes ≡ Ok (p, rest) → Both p × (bytes ≡ L.spell p ++ rest)
  linked_takes bytes p rest ib e =
      let b = bind_ok (F.read bytes) then (p, rest) e in
      let t = lf.takes bytes b.0.0 b.0.1 ib b.1 in
      let ib' = IsBytes-behind (F.spell b.0.0) b.0.1 (subst IsBytes t.1 ib) in
      let c = bind_ok ((G b.0.0).read b.0.1) (λ y. Ok ((b.0.0, y.0), y.1)) (p, rest) b.2 in
      let u = (lg b.0.0 t.0).takes b.0.1 c.0.0 c.0.1 ib' c.1 in
      let same = ok_is ((b.0.0, c.0.0), c.0.1) (p, rest) c.2 in
      let is : bytes ≡ (F.spell b.0.0 ++ (G b.0.0).spell c.0.0) ++ c.0.1 = t.1 ∙ ap (λ z. F.spell b.0.0 ++ z) u.1 ∙ sym (append_assoc (F.spell b.0.0) ((G b.0.0).spell c.0.0) c.0.1) in
      subst (λ (z : (A × B) × List ℕ). Both z.0 × (bytes ≡ L.spell z.0 ++ z.1)) same ((t.0, u.0), is)

  linked_within : (bytes : List ℕ) (left : ℕ) → IsBytes bytes → L.read bytes ≡ Err left → left ≤ length bytes
  linked_within bytes left ib e =
      elim (bind_err (F.read bytes) then left e) [
        | inl first ↦ lf.within bytes left ib first
        | inr s ↦
            let t = lf.takes bytes s.0.0 s.0.1 ib s.1 in
            let ib' = IsBytes-behind (F.spell s.0.0) s.0.1 (subst IsBytes t.1 ib) in
            elim (bind_err ((G s.0.0).read s.0.1) (λ y. Ok ((s.0.0, y.0), y.1)) left s.2) [
              | inl second ↦ let w = (lg s.0.0 t.0).within s.0.1 left ib' second in omega (arith, w, ap length t.1, length-append (F.spell s.0.0) s.0.1)
              | inr c ↦ not_both (Ok ((s.0.0, c.0.0), c.0.1)) ((s.0.0, c.0.0), c.0.1) left refl c.2
            ]
      ]

  linked_dead : (front : List ℕ) (b : ℕ) (rest more : List ℕ) (y : (A × B) × List ℕ) → IsBytes (front ++ b ∷ rest) → L.read (front ++ b ∷ rest) ≡ Err (suc (length rest)) → L.read (front ++ b ∷ more) ≡ Ok y → ⊥
  linked_dead front b rest more y ib e k =
      elim (bind_err (F.read (front ++ b ∷ rest)) then (suc (length rest)) e) [
        | inl first ↦ let o = bind_ok (F.read (front ++ b ∷ more)) then y k in lf.dead front b rest more o.0 ib first o.1
        | inr s ↦
            let t = lf.takes (front ++ b ∷ rest) s.0.0 s.0.1 ib s.1 in
            let ib' = IsBytes-behind (F.spell s.0.0) s.0.1 (subst IsBytes t.1 ib) in
            elim (bind_err ((G s.0.0).read s.0.1) (λ z. Ok ((s.0.0, z.0), z.1)) (suc (length rest)) s.2) [
              | inl second ↦
                  let w = (lg s.0.0 t.0).within s.0.1 (suc (length rest)) ib' second in
                  let f = split_at_fault (F.spell s.0.0) s.0.1 front b rest (sym t.1) w in
                  let outer : front ++ b ∷ more ≡ F.spell s.0.0 ++ (f.0 ++ b ∷ more) = ap (λ z. z ++ b ∷ more) f.2 ∙ append_assoc (F.spell s.0.0) f.0 (b ∷ more) in
                  let reads : then (s.0.0, f.0 ++ b ∷ more) ≡ Ok y = sym (ap L.read outer ∙ ap (λ r. r >>= then) (lf.again s.0.0 (f.0 ++ b ∷ more) t.0)) ∙ k in
                  let o = bind_ok ((G s.0.0).read (f.0 ++ b ∷ more)) (λ z. Ok ((s.0.0, z.0), z.1)) y reads in
                  (lg s.0.0 t.0).dead f.0 b rest more o.0 (subst IsBytes f.1 ib') (ap (G s.0.0).read (sym f.1) ∙ second) o.1
              | inr c ↦ not_both (Ok ((s.0.0, c.0.0), c.0.1)) ((s.0.0, c.0.0), c.0.1) (suc (length rest)) refl c.2
            ]
      ]

  pub linked_sound : Sound (linked F G) (λ p. P p.0 × Q p.0 p.1)
  linked_sound = record { again = linked_again; takes = linked_takes; within = linked_within; dead = linked_dead }

-- ---- what is made of a value

abbrev Picks : {B : Type 0} → Option B → Type 0
Picks {B} o = (o ≡ None) ⊎ ((y : B) × (o ≡ Some y))

picks : {B : Type 0} (o : Option B) → Picks o
picks None = inl refl
picks (Some y) = inr (y, refl)

module _ {A B : Type 0} (F : Format A) (P : A → Type 0) (pick : A → Option B) (spell : B → List ℕ) (Q : B → Type 0) (lf : Sound F P)
    (to : (a : A) (b : B) → P a → pick a ≡ Some b → Q b × (spell b ≡ F.spell a))
    (back : (b : B) → Q b → (a : A) × P a × (pick a ≡ Some b))
    (some_bytes : (a : A) → P a → pick a ≡ None → 0 < length (F.spell a)) where
  abbrev K : Format B
  K = picked F pick spell

  abbrev pick_from : A × List ℕ → Result (B × List ℕ) ℕ
  pick_from x = chosen x.1 (pick x.0)

  picked_again : (y : B) (rest : List ℕ) → Q y → K.read (K.spell y ++ rest) ≡ Ok (y, rest)
  picked_again y rest q =
      let a = back y q in
      ap (λ z. K.read (z ++ rest)) (to a.0 y a.1 a.2).1 ∙ ap (λ r. r >>= pick_from) (lf.again a.0 rest a.1) ∙ ap (chosen rest) a.2

  picked_takes : (bytes : List ℕ) (y : B) (rest : List ℕ) → IsBytes bytes → K.read bytes ≡ Ok (y, rest) → Q y × (bytes ≡ K.spell y ++ rest)
  picked_takes bytes y rest ib e =
      let b = bind_ok (F.read bytes) pick_from (y, rest) e in
      let t = lf.takes bytes b.0.0 b.0.1 ib b.1 in
      elim (picks (pick b.0.0)) [
        | inl none ↦ not_both (chosen b.0.1 (pick b.0.0)) (y, rest) (suc (length b.0.1)) b.2 (ap (chosen b.0.1) none)
        | inr some ↦
            let u = to b.0.0 some.0 t.0 some.1 in
            let same = ok_is (some.0, b.0.1) (y, rest) (sym (ap (chosen b.0.1) some.1) ∙ b.2) in
            subst (λ (z : B × List ℕ). Q z.0 × (bytes ≡ K.spell z.0 ++ z.1)) same (u.0, t.1 ∙ ap (λ z. z ++ b.0.1) (sym u.1))
      ]

  picked_within : (bytes : List ℕ) (left : ℕ) → IsBytes bytes → K.read bytes ≡ Err left → left ≤ length bytes
  picked_within bytes left ib e =
      elim (bind_err (F.read bytes) pick_from left e) [
        | inl first ↦ lf.within bytes left ib first
        | inr s ↦
            let t = lf.takes bytes s.0.0 s.0.1 ib s.1 in
            elim (picks (pick s.0.0)) [
              | inl none ↦
                  let n = same_left (suc (length s.0.1)) left (chosen s.0.1 (pick s.0.0)) (ap (chosen s.0.1) none) s.2 in
                  omega (arith, n, some_bytes s.0.0 t.0 none, ap length t.1, length-append (F.spell s.0.0) s.0.1)
              | inr some ↦ not_both (chosen s.0.1 (pick s.0.0)) (some.0, s.0.1) left (ap (chosen s.0.1) some.1) s.2
            ]
      ]

  picked_dead : (front : List ℕ) (b : ℕ) (rest more : List ℕ) (y : B × List ℕ) → IsBytes (front ++ b ∷ rest) → K.read (front ++ b ∷ rest) ≡ Err (suc (length rest)) → K.read (front ++ b ∷ more) ≡ Ok y → ⊥
  picked_dead front b rest more y ib e k =
      elim (bind_err (F.read (front ++ b ∷ rest)) pick_from (suc (length rest)) e) [
        | inl first ↦ let o = bind_ok (F.read (front ++ b ∷ more)) pick_from y k in lf.dead front b rest more o.0 ib first o.1
        | inr s ↦
            let t = lf.takes (front ++ b ∷ rest) s.0.0 s.0.1 ib s.1 in
            elim (picks (pick s.0.0)) [
              | inl none ↦
                  let n : length s.0.1 ≡ length rest = let m = same_left (suc (length s.0.1)) (suc (length rest)) (chosen s.0.1 (pick s.0.0)) (ap (chosen s.0.1) none) s.2 in omega (arith, m) in
                  let is = split_behind (F.spell s.0.0) s.0.1 front b rest (sym t.1) n in
                  let outer : front ++ b ∷ more ≡ F.spell s.0.0 ++ more = sym (ap (λ z. z ++ more) is ∙ append_assoc front (b ∷ []) more) in
                  let bad : K.read (front ++ b ∷ more) ≡ Err (suc (length more)) = ap K.read outer ∙ ap (λ r. r >>= pick_from) (lf.again s.0.0 more t.0) ∙ ap (chosen more) none in
                  not_both (K.read (front ++ b ∷ more)) y (suc (length more)) k bad
              | inr some ↦ not_both (chosen s.0.1 (pick s.0.0)) (some.0, s.0.1) (suc (length rest)) (ap (chosen s.0.1) some.1) s.2
            ]
      ]

  pub picked_sound : Sound (picked F pick spell) Q
  picked_sound = record { again = picked_again; takes = picked_takes; within = picked_within; dead = picked_dead }

-- ---- a test

some_is : {A : Type 0} (x y : A) → Some x ≡ Some y → x ≡ y
some_is x y e = cc

passed_is : {A : Type 0} (b : Bool) (x y : A) → cond b (Some x) None ≡ Some y → (b ≡ true) × (x ≡ y)
passed_is true x y e = (refl, some_is x y e)
passed_is false x y e = absurd cc

pub checked_sound : {A : Type 0} (F : Format A) (P : A → Type 0) (test : A → Bool) → Sound F P → ((a : A) → P a → 0 < length (F.spell a)) → Sound (checked F test) (λ a. P a × (test a ≡ true))
checked_sound {A} F P test lf some_bytes =
    picked_sound F P (passed test) F.spell (λ a. P a × (test a ≡ true)) lf
    (λ a b p e. let h = passed_is (test a) a b e in subst (λ (z : A). (P z × (test z ≡ true)) × (F.spell z ≡ F.spell a)) h.1 ((p, h.0), refl))
    (λ b q. (b, q.0, ap (λ c. cond c (Some b) None) q.1)) (λ a p e. some_bytes a p)

-- ---- the same bytes for other values

pub made_sound : {A B : Type 0} (F : Format A) (P : A → Type 0) (make : A → B) (spell : B → List ℕ) (Q : B → Type 0) → Sound F P → ((a : A) → P a → Q (make a) × (spell (make a) ≡ F.spell a)) → ((b : B) → Q b → (a : A) × P a × (make a ≡ b))
    → Sound (picked F (λ a. Some (make a)) spell) Q
made_sound {A} {B} F P make spell Q lf to back =
    picked_sound F P (λ a. Some (make a)) spell Q lf
    (λ a b p e. subst (λ (z : B). Q z × (spell z ≡ F.spell a)) (some_is (make a) b e) (to a p))
    (λ b q. let h = back b q in (h.0, h.1, ap (λ (z : B). Some z) h.2)) (λ a p e. absurd (let h : Some (make a) ≡ None = e in cc))

-- the same format with another name for what it reads
pub same_sound : {A : Type 0} (F G : Format A) (P Q : A → Type 0) → Sound F P → ((bytes : List ℕ) → G.read bytes ≡ F.read bytes) → ((x : A) → P x → Q x × (G.spell x ≡ F.spell x)) → ((x : A) → Q x → P x) → Sound G Q
same_sound F G P Q l reads to back = record {
  again = λ x rest q. ap (λ z. G.read (z ++ rest)) (to x (back x q)).1 ∙ reads (F.spell x ++ rest) ∙ l.again x rest (back x q);
  takes = λ bytes x rest ib e. let t = l.takes bytes x rest ib (sym (reads bytes) ∙ e) in ((to x t.0).0, t.1 ∙ ap (λ z. z ++ rest) (sym (to x t.0).1));
  within = λ bytes left ib e. l.within bytes left ib (sym (reads bytes) ∙ e);
  dead = λ front b rest more y ib e k. l.dead front b rest more y ib (sym (reads (front ++ b ∷ rest)) ∙ e) (sym (reads (front ++ b ∷ more)) ∙ k);
}

-- ---- so many values

abbrev cons_to : {A : Type 0} → A → List A × List ℕ → Result (List A × List ℕ) ℕ
cons_to a xs = Ok (a ∷ xs.0, xs.1)

abbrev consed : {A : Type 0} → (A × List A) × List ℕ → Result (List A × List ℕ) ℕ
consed z = chosen z.1 (Some (z.0.0 ∷ z.0.1))

regroup_then : {A : Type 0} (x : A) (r : Result (List A × List ℕ) ℕ) → (r >>= cons_to x) ≡ ((r >>= with_first x) >>= consed)
regroup_then x (Ok y) = refl
regroup_then x (Err e) = refl

module _ {S A : Type 0} (F : S → Format A) (next : S → A → S) (P : S → A → Type 0) (I : S → Type 0) (lf : (s : S) → I s → Sound (F s) (P s)) (keeps : (s : S) (a : A) → I s → P s a → I (next s a)) where
  abbrev Of : ℕ → S → List A → Type 0
  Of n s xs = (length xs ≡ n) × AllSteps P next s xs

  none_is : (s : S) (xs : List A) → Of 0 s xs → [] ≡ xs
  none_is s [] h = refl
  none_is s (x ∷ xs) h = absurd (omega (arith, h.0))

  none_sound : (s : S) → Sound (steps F next 0 s) (Of 0 s)
  unfolding steps_at
  none_sound s = record {
    again = λ xs rest h. subst (λ (ys : List A). (steps F next 0 s).read ((steps F next 0 s).spell ys ++ rest) ≡ Ok (ys, rest)) (none_is s xs h) refl;
    takes = λ bytes xs rest ib e. let same = ok_is ([], bytes) (xs, rest) e in subst (λ (z : List A × List ℕ). Of 0 s z.0 × (bytes ≡ (steps F next 0 s).spell z.0 ++ z.1)) same ((refl, tt), refl);
    within = λ bytes left ib e. not_both (Ok ([], bytes)) ([], bytes) left refl e;
    dead = λ front b rest more y ib e k. not_both (Ok ([], front ++ b ∷ rest)) ([], front ++ b ∷ rest) (suc (length rest)) refl e;
  }

  abbrev Head : ℕ → S → A × List A → Type 0
  Head n s p = P s p.0 × Of n (next s p.0) p.1

  uncons : (n : ℕ) (s : S) (xs : List A) → Of (suc n) s xs → (p : A × List A) × Head n s p × (p.0 ∷ p.1 ≡ xs)
  uncons n s [] h = absurd (omega (arith, h.0))
  uncons n s (x ∷ xs) h = ((x, xs), (h.1.0, (omega (arith, h.0), h.1.1)), refl)

  abbrev rest_of : ℕ → S → A × List ℕ → Result (List A × List ℕ) ℕ
  rest_of n s x = steps_at F next n (next s x.0) x.1 >>= cons_to x.0

  abbrev both_of : ℕ → S → A × List ℕ → Result ((A × List A) × List ℕ) ℕ
  both_of n s x = steps_at F next n (next s x.0) x.1 >>= with_first x.0

  regroup : (n : ℕ) (s : S) (r : Result (A × List ℕ) ℕ) → (r >>= rest_of n s) ≡ ((r >>= both_of n s) >>= consed)
  regroup n s (Err e) = refl
  regroup n s (Ok x) = regroup_then x.0 (steps_at F next n (next s x.0) x.1)

  pub steps_sound : (n : ℕ) (s : S) → I s → Sound (steps F next n s) (Of n s)
  unfolding steps_at
  steps_sound zero s i = none_sound s
  steps_sound (suc n) s i =
      let spell = (steps F next (suc n) s).spell in
      let M : Format (A × List A) = linked (F s) (λ x. steps F next n (next s x)) in
      let lm = linked_sound (F s) (P s) (λ x. steps F next n (next s x)) (λ x. Of n (next s x)) (lf s i) (λ x p. steps_sound n (next s x) (keeps s x i p)) in
      let made = made_sound M (Head n s) (λ p. p.0 ∷ p.1) spell (Of (suc n) s) lm (λ p h. ((omega (arith, h.1.0), (h.0, h.1.1)), refl)) (uncons n s) in
      same_sound (picked M (λ p. Some (p.0 ∷ p.1)) spell) (steps F next (suc n) s) (Of (suc n) s) (Of (suc n) s) made (λ bytes. regroup n s ((F s).read bytes)) (λ xs h. (h, refl)) (λ xs h. h)
