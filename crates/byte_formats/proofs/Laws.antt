-- The laws of formats are kept by one thing after another, and by other values with the same bytes.
use Rattle.std.proofs.Common.{◌≡◌, ℕ, suc, ◌<◌, List, [], ◌∷◌, ◌++◌, length, Result, Ok, Err, refl, sym, ap, subst, ◌∙◌, arith, append_assoc, inl, inr, ◌⊎◌, length-append, get_or}
use Rattle.byte_formats.specs.Format.{Format, ◌>>=◌, chain}
pub use Rattle.byte_formats.specs.Lawful.{IsBytes, Begins, Faults, Lawful}

pub IsBytes-behind : (xs ys : List ℕ) → IsBytes (xs ++ ys) → IsBytes ys
IsBytes-behind [] ys h = h
IsBytes-behind (x ∷ xs) ys h = IsBytes-behind xs ys h.1

pub IsBytes-front : (xs ys : List ℕ) → IsBytes (xs ++ ys) → IsBytes xs
IsBytes-front [] ys h = tt
IsBytes-front (x ∷ xs) ys h = (h.0, IsBytes-front xs ys h.1)

pub IsBytes-both : (xs ys : List ℕ) → IsBytes xs → IsBytes ys → IsBytes (xs ++ ys)
IsBytes-both [] ys h k = k
IsBytes-both (x ∷ xs) ys h k = (h.0, IsBytes-both xs ys h.1 k)

pub bytes_from : (bytes : List ℕ) → ((i : ℕ) → get_or bytes i 0 < 256) → IsBytes bytes
bytes_from [] h = tt
bytes_from (b ∷ bytes) h = (h 0, bytes_from bytes (λ i. h (suc i)))

-- ---- results

pub bind_ok : {A B : Type 0} (r : Result A ℕ) (f : A → Result B ℕ) (y : B) → (r >>= f) ≡ Ok y → (x : A) × (r ≡ Ok x) × (f x ≡ Ok y)
bind_ok (Ok x) f y e = (x, refl, e)
bind_ok (Err d) f y e = absurd cc

pub bind_err : {A B : Type 0} (r : Result A ℕ) (f : A → Result B ℕ) (n : ℕ) → (r >>= f) ≡ Err n → (r ≡ Err n) ⊎ ((x : A) × (r ≡ Ok x) × (f x ≡ Err n))
bind_err (Ok x) f n e = inr (x, refl, e)
bind_err (Err d) f n e = inl (cc)

abbrev done : {A : Type 0} → A → Result A ℕ
done x = Ok x

pub ok_is : {A : Type 0} (x y : A) → done x ≡ done y → x ≡ y
ok_is x y e = cc

pub not_both : {A : Type 0} {X : Type 0} (r : Result A ℕ) (x : A) (n : ℕ) → r ≡ Ok x → r ≡ Err n → X
not_both r x n e h = absurd cc

pub same_left : {A : Type 0} (n m : ℕ) (r : Result A ℕ) → r ≡ Err n → r ≡ Err m → n ≡ m
same_left n m r e h = cc

-- ---- lists

pub same_tails : (xs ys zs ws : List ℕ) → xs ++ ys ≡ zs ++ ws → length ys ≡ length ws → (xs ≡ zs) × (ys ≡ ws)
same_tails [] ys [] ws e n = (refl, e)
same_tails (x ∷ xs) ys (z ∷ zs) ws e n =
    let first : x ≡ z = cc in
    let others : xs ++ ys ≡ zs ++ ws = cc in
    let h = same_tails xs ys zs ws others n in
    let both : x ∷ xs ≡ z ∷ zs = cc (h.0) in
    (both, h.1)
same_tails [] ys (z ∷ zs) ws e n = absurd (omega (arith, ap length e, length-append zs ws))
same_tails (x ∷ xs) ys [] ws e n = absurd (omega (arith, ap length e, length-append xs ys))

-- ---- one thing, and then what it leads to

module _ {A B : Type 0} (F : Format A) (P : A → Type 0) (G : A → Format B) (Q : A → B → Type 0) (head : B → A)
    (lf : Lawful F P) (lg : (a : A) → P a → Lawful (G a) (Q a)) (heads : (a : A) (y : B) → P a → Q a y → head y ≡ a) where
  abbrev Both : B → Type 0
  Both y = P (head y) × Q (head y) y

  abbrev C : Format B
  C = chain F G head

  chain_again : (y : B) (rest : List ℕ) → Both y → C.read (C.spell y ++ rest) ≡ Ok (y, rest)
  chain_again y rest h =
      ap C.read (append_assoc (F.spell (head y)) ((G (head y)).spell y) rest)
      ∙ ap (λ r. r >>= λ x. (G x.0).read x.1) (lf.again (head y) ((G (head y)).spell y ++ rest) h.0)
      ∙ (lg (head y) h.0).again y rest h.1

  chain_both : (a : A) (y : B) → P a → Q a y → Both y × (C.spell y ≡ F.spell a ++ (G a).spell y)
  chain_both a y p q = subst (λ z. (P z × Q z y) × (F.spell z ++ (G z).spell y ≡ F.spell a ++ (G a).spell y)) (sym (heads a y p q)) ((p, q), refl)

  chain_takes : (bytes : List ℕ) (y : B) (rest : List ℕ) → IsBytes bytes → C.read bytes ≡ Ok (y, rest) → Both y × (bytes ≡ C.spell y ++ rest)
  chain_takes bytes y rest ib e =
      let b = bind_ok (F.read bytes) (λ x. (G x.0).read x.1) (y, rest) e in
      let t = lf.takes bytes b.0.0 b.0.1 ib b.1 in
      let ib' = IsBytes-behind (F.spell b.0.0) b.0.1 (subst IsBytes t.1 ib) in
      let u = (lg b.0.0 t.0).takes b.0.1 y rest ib' b.2 in
      let h = chain_both b.0.0 y t.0 u.0 in
      (h.0, t.1 ∙ ap (λ z. F.spell b.0.0 ++ z) u.1 ∙ sym (append_assoc (F.spell b.0.0) ((G b.0.0).spell y) rest) ∙ ap (λ z. z ++ rest) (sym h.1))

  chain_fault : (bytes : List ℕ) (left : ℕ) → IsBytes bytes → C.read bytes ≡ Err left → Faults C Both bytes left
  chain_fault bytes left ib e =
      elim (bind_err (F.read bytes) (λ x. (G x.0).read x.1) left e) [
        | inl first ↦
            let f = lf.fault bytes left ib first in
            let g = lg f.begins.value f.begins.fits in
            let h = chain_both f.begins.value g.some f.begins.fits g.some_fits in
            record {
              front = f.front;
              rest = f.rest;
              is = f.is;
              long = f.long;
              begins = record {
                value = g.some;
                fits = h.0;
                more = f.begins.more ++ (G f.begins.value).spell g.some;
                is = h.1 ∙ ap (λ z. z ++ (G f.begins.value).spell g.some) f.begins.is ∙ append_assoc f.front f.begins.more ((G f.begins.value).spell g.some);
              };
            }
        | inr b ↦
            let t = lf.takes bytes b.0.0 b.0.1 ib b.1 in
            let ib' = IsBytes-behind (F.spell b.0.0) b.0.1 (subst IsBytes t.1 ib) in
            let f = (lg b.0.0 t.0).fault b.0.1 left ib' b.2 in
            let h = chain_both b.0.0 f.begins.value t.0 f.begins.fits in
            record {
              front = F.spell b.0.0 ++ f.front;
              rest = f.rest;
              long = f.long;
              is = t.1 ∙ ap (λ z. F.spell b.0.0 ++ z) f.is ∙ sym (append_assoc (F.spell b.0.0) f.front f.rest);
              begins = record {
                value = f.begins.value;
                fits = h.0;
                more = f.begins.more;
                is = h.1 ∙ ap (λ z. F.spell b.0.0 ++ z) f.begins.is ∙ sym (append_assoc (F.spell b.0.0) f.front f.begins.more);
              };
            }
      ]

  chain_stable : (front : List ℕ) (b : ℕ) (rest more : List ℕ) → IsBytes (front ++ b ∷ rest) → C.read (front ++ b ∷ rest) ≡ Err (suc (length rest)) → C.read (front ++ b ∷ more) ≡ Err (suc (length more))
  chain_stable front b rest more ib e =
      elim (bind_err (F.read (front ++ b ∷ rest)) (λ x. (G x.0).read x.1) (suc (length rest)) e) [
        | inl first ↦ ap (λ r. r >>= λ x. (G x.0).read x.1) (lf.stable front b rest more ib first)
        | inr s ↦
            let t = lf.takes (front ++ b ∷ rest) s.0.0 s.0.1 ib s.1 in
            let ib' = IsBytes-behind (F.spell s.0.0) s.0.1 (subst IsBytes t.1 ib) in
            let g = lg s.0.0 t.0 in
            let f = g.fault s.0.1 (suc (length rest)) ib' s.2 in
            let whole : (F.spell s.0.0 ++ f.front) ++ f.rest ≡ front ++ b ∷ rest = append_assoc (F.spell s.0.0) f.front f.rest ∙ ap (λ z. F.spell s.0.0 ++ z) (sym f.is) ∙ sym t.1 in
            let parts = same_tails (F.spell s.0.0 ++ f.front) f.rest front (b ∷ rest) whole f.long in
            let inner : s.0.1 ≡ f.front ++ b ∷ rest = f.is ∙ ap (λ z. f.front ++ z) parts.1 in
            let ends = g.stable f.front b rest more (subst IsBytes inner ib') (ap (G s.0.0).read (sym inner) ∙ s.2) in
            let outer : front ++ b ∷ more ≡ F.spell s.0.0 ++ (f.front ++ b ∷ more) = ap (λ z. z ++ b ∷ more) (sym parts.0) ∙ append_assoc (F.spell s.0.0) f.front (b ∷ more) in
            ap C.read outer ∙ ap (λ r. r >>= λ x. (G x.0).read x.1) (lf.again s.0.0 (f.front ++ b ∷ more) t.0) ∙ ends
      ]

  pub chain_lawful : Lawful (chain F G head) (λ y. P (head y) × Q (head y) y)
  chain_lawful = record {
    again = chain_again;
    takes = chain_takes;
    fault = chain_fault;
    stable = chain_stable;
    some = (lg lf.some lf.some_fits).some;
    some_fits = (chain_both lf.some (lg lf.some lf.some_fits).some lf.some_fits (lg lf.some lf.some_fits).some_fits).0;
  }

-- ---- the same bytes for other values

module _ {A B : Type 0} (F : Format A) (P : A → Type 0) (G : Format B) (R : B → Type 0) (make : A → B) (lf : Lawful F P)
    (reads : (bytes : List ℕ) → G.read bytes ≡ (F.read bytes >>= λ x. Ok (make x.0, x.1)))
    (to : (a : A) → P a → R (make a) × (G.spell (make a) ≡ F.spell a))
    (again : (b : B) (rest : List ℕ) → R b → G.read (G.spell b ++ rest) ≡ Ok (b, rest)) where
  abbrev remade : Result (A × List ℕ) ℕ → Result (B × List ℕ) ℕ
  remade r = r >>= λ x. Ok (make x.0, x.1)

  remake_takes : (bytes : List ℕ) (y : B) (rest : List ℕ) → IsBytes bytes → G.read bytes ≡ Ok (y, rest) → R y × (bytes ≡ G.spell y ++ rest)
  remake_takes bytes y rest ib e =
      let b = bind_ok (F.read bytes) (λ x. Ok (make x.0, x.1)) (y, rest) (sym (reads bytes) ∙ e) in
      let t = lf.takes bytes b.0.0 b.0.1 ib b.1 in
      let u = to b.0.0 t.0 in
      let same = ok_is (make b.0.0, b.0.1) (y, rest) b.2 in
      subst (λ (z : B × List ℕ). R z.0 × (bytes ≡ G.spell z.0 ++ z.1)) same (u.0, t.1 ∙ ap (λ z. z ++ b.0.1) (sym u.1))

  remake_fails : (bytes : List ℕ) (left : ℕ) → G.read bytes ≡ Err left → F.read bytes ≡ Err left
  remake_fails bytes left e =
      elim (bind_err (F.read bytes) (λ x. Ok (make x.0, x.1)) left (sym (reads bytes) ∙ e)) [
        | inl f ↦ f
        | inr b ↦ not_both (Ok (make b.0.0, b.0.1)) (make b.0.0, b.0.1) left refl b.2
      ]

  remake_fault : (bytes : List ℕ) (left : ℕ) → IsBytes bytes → G.read bytes ≡ Err left → Faults G R bytes left
  remake_fault bytes left ib e =
      let f = lf.fault bytes left ib (remake_fails bytes left e) in
      let u = to f.begins.value f.begins.fits in
      record { front = f.front; rest = f.rest; is = f.is; long = f.long; begins = record { value = make f.begins.value; fits = u.0; more = f.begins.more; is = u.1 ∙ f.begins.is } }

  remake_stable : (front : List ℕ) (b : ℕ) (rest more : List ℕ) → IsBytes (front ++ b ∷ rest) → G.read (front ++ b ∷ rest) ≡ Err (suc (length rest)) → G.read (front ++ b ∷ more) ≡ Err (suc (length more))
  remake_stable front b rest more ib e = reads (front ++ b ∷ more) ∙ ap remade (lf.stable front b rest more ib (remake_fails (front ++ b ∷ rest) (suc (length rest)) e))

  pub remake : Lawful G R
  remake = record {
    again = again;
    takes = remake_takes;
    fault = remake_fault;
    stable = remake_stable;
    some = make lf.some;
    some_fits = (to lf.some lf.some_fits).0;
  }

module _ {A B : Type 0} (F : Format A) (P : A → Type 0) (G : Format B) (R : B → Type 0) (make : A → B) (lf : Lawful F P)
    (reads : (bytes : List ℕ) → G.read bytes ≡ (F.read bytes >>= λ x. Ok (make x.0, x.1)))
    (to : (a : A) → P a → R (make a) × (G.spell (make a) ≡ F.spell a))
    (back : (b : B) → R b → (a : A) × P a × (make a ≡ b)) where
  via_again : (y : B) (rest : List ℕ) → R y → G.read (G.spell y ++ rest) ≡ Ok (y, rest)
  via_again y rest r =
      let h = back y r in
      let at : G.read (G.spell (make h.0) ++ rest) ≡ Ok (make h.0, rest) =
      ap (λ z. G.read (z ++ rest)) (to h.0 h.1).1 ∙ reads (F.spell h.0 ++ rest) ∙ ap (λ r. r >>= λ x. Ok (make x.0, x.1)) (lf.again h.0 rest h.1) in
      subst (λ z. G.read (G.spell z ++ rest) ≡ Ok (z, rest)) h.2 at

  pub via : Lawful G R
  via = remake F P G R make lf reads to via_again
