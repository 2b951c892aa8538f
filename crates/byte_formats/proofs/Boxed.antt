-- What holds of a value inside a known length.
use Rattle.std.proofs.Common.{◌≡◌, ℕ, zero, suc, ◌<◌, ◌≤◌, ◌+◌, ◌^◌, List, [], ◌∷◌, ◌++◌, length, take, drop, length-drop, length-take, true, false, ltb, cond, Bool, ◌-◌, Result, Ok, Err, refl, sym, ap, subst, ◌∙◌, arith, append_assoc, inl, inr, ◌⊎◌, length-append}
use Rattle.std.specs.Int.{w32}
use Rattle.std.proofs.lemmas.Bool.{cases_lt, le-ltb, lt-ltb}
use Rattle.std.proofs.Math.Seq.{take-append_seam, drop-append_seam, take-append-add}
use Rattle.std.proofs.lemmas.List.{take-append-drop}
use Rattle.byte_formats.specs.Format.{Format, ◌>>=◌, whole, free, free_at}
use Rattle.byte_formats.specs.Gives.{all_of}
use Rattle.byte_formats.specs.Spelling.{u32}
use Rattle.byte_formats.proofs.Laws.{IsBytes, IsBytes-front, IsBytes-behind, bind_ok, bind_err, ok_is, not_both, same_left, same_tails, Lawful, chain_lawful}
use Rattle.byte_formats.proofs.Numbers.{wide32, whole_lawful, free_lawful}
use Rattle.byte_formats.specs.Parts.{block, deeper, boxed, boxed_at, boxed_bytes}
use Rattle.byte_formats.proofs.Sounds.{Sound, sound_of, split_at_fault}
use Rattle.byte_formats.proofs.Alls.{all_takes, all_again, all_within, all_dead}

abbrev IsBlock : List ℕ → Type 0
IsBlock b = (length b < 2 ^ 32) × ((length b ≡ length b) × IsBytes b)

block_lawful : Lawful block IsBlock
block_lawful = chain_lawful (whole w32) (λ n. n < 2 ^ 32) free (λ n x. (length x ≡ n) × IsBytes x) length (whole_lawful w32 (2 ^ 32) wide32) (λ n h. free_lawful n) (λ n x h q. q.0)

block_sound : Sound block IsBlock
block_sound = sound_of block IsBlock block_lawful

free_again : (b rest : List ℕ) → free_at (length b) (b ++ rest) ≡ Ok (b, rest)
free_again b rest =
    let long = le-ltb (length (b ++ rest)) (length b) (omega (arith, length-append b rest)) in
    rw long (ap (λ (z : List ℕ). Ok (z, drop (length b) (b ++ rest))) (take-append_seam b rest) ∙ ap (λ (z : List ℕ). Ok (b, z)) (drop-append_seam b rest))

block_again : (b rest : List ℕ) → length b < 2 ^ 32 → block.read (boxed_bytes b ++ rest) ≡ Ok (b, rest)
block_again b rest fits =
    ap block.read (append_assoc (u32 (length b)) b rest)
    ∙ ap (λ r. r >>= λ x. (free x.0).read x.1) ((whole_lawful w32 (2 ^ 32) wide32).again (length b) (b ++ rest) fits)
    ∙ free_again b rest

free_taken : (n : ℕ) (bytes x rest : List ℕ) → free_at n bytes ≡ Ok (x, rest) → x ≡ take n bytes
free_taken n bytes x rest e =
    elim (cases_lt (length bytes) n) [
      | inl lt ↦ not_both (free_at n bytes) (x, rest) 0 e (let p = lt-ltb _ _ lt in rw p refl)
      | inr le ↦ let same = ok_is (take n bytes, drop n bytes) (x, rest) (sym (let p = le-ltb _ _ le in let h : free_at n bytes ≡ Ok (take n bytes, drop n bytes) = rw p refl in h) ∙ e) in sym (ap (λ (z : List ℕ × List ℕ). z.0) same)
    ]

-- what a block has whose length and first bytes stand there
block_taken : (n : ℕ) (bytes x rest : List ℕ) → n < 2 ^ 32 → block.read (u32 n ++ bytes) ≡ Ok (x, rest) → x ≡ take n bytes
block_taken n bytes x rest fits e =
    let reads = ap (λ r. r >>= λ x. (free x.0).read x.1) ((whole_lawful w32 (2 ^ 32) wide32).again n bytes fits) in
    free_taken n bytes x rest (sym reads ∙ e)

deep_ok : {A : Type 0} (n : ℕ) (r : Result A ℕ) (x : A) → deeper n r ≡ Ok x → r ≡ Ok x
deep_ok n (Ok y) x e = e
deep_ok n (Err left) x e = absurd cc

deep_err : {A : Type 0} (n : ℕ) (r : Result A ℕ) (left : ℕ) → deeper n r ≡ Err left → (m : ℕ) × (r ≡ Err m) × (m + n ≡ left)
deep_err n (Ok y) left e = absurd cc
deep_err n (Err m) left e = (m, refl, cc)

module _ {A : Type 0} (F : Format A) (P : A → Type 0) (lf : Sound F P) (short : (x : A) → P x → length (F.spell x) < 2 ^ 32) where
  abbrev inside : List ℕ × List ℕ → Result (A × List ℕ) ℕ
  inside x = deeper (length x.1) (all_of F x.0) >>= λ y. Ok (y, x.1)

  boxed_is : (bytes : List ℕ) → (boxed F).read bytes ≡ (block.read bytes >>= inside)
  unfolding boxed_at
  boxed_is bytes = refl

  boxed_again : (x : A) (rest : List ℕ) → P x → (boxed F).read ((boxed F).spell x ++ rest) ≡ Ok (x, rest)
  boxed_again x rest p =
      boxed_is ((boxed F).spell x ++ rest) ∙ ap (λ r. r >>= inside) (block_again (F.spell x) rest (short x p))
      ∙ ap (λ r. deeper (length rest) r >>= λ y. Ok (y, rest)) (all_again F P lf x p)

  boxed_opened : (bytes : List ℕ) (x : A) (rest : List ℕ) → (boxed F).read bytes ≡ Ok (x, rest) → (b : List ℕ) × (block.read bytes ≡ Ok (b, rest)) × (all_of F b ≡ Ok x)
  boxed_opened bytes x rest e =
      let b = bind_ok (block.read bytes) inside (x, rest) (sym (boxed_is bytes) ∙ e) in
      let c = bind_ok (deeper (length b.0.1) (all_of F b.0.0)) (λ y. Ok (y, b.0.1)) (x, rest) b.2 in
      let same = ok_is (c.0, b.0.1) (x, rest) c.2 in
      let inner : all_of F b.0.0 ≡ Ok x = deep_ok (length b.0.1) (all_of F b.0.0) c.0 c.1 ∙ ap (λ (z : A). Ok z) (ap (λ (z : A × List ℕ). z.0) same) in
      (b.0.0, b.1 ∙ ap (λ (z : List ℕ). Ok (b.0.0, z)) (ap (λ (z : A × List ℕ). z.1) same), inner)

  boxed_takes : (bytes : List ℕ) (x : A) (rest : List ℕ) → IsBytes bytes → (boxed F).read bytes ≡ Ok (x, rest) → P x × (bytes ≡ (boxed F).spell x ++ rest)
  boxed_takes bytes x rest ib e =
      let o = boxed_opened bytes x rest e in
      let t = block_sound.takes bytes o.0 rest ib o.1 in
      let u = all_takes F P lf o.0 x t.0.1.1 o.2 in
      (u.0, t.1 ∙ ap (λ z. boxed_bytes z ++ rest) u.1)

  -- a fault of the box, or inside it
  boxed_faults : (bytes : List ℕ) (left : ℕ) → (boxed F).read bytes ≡ Err left → (block.read bytes ≡ Err left) ⊎ ((b : List ℕ) × (r : List ℕ) × (m : ℕ) × (block.read bytes ≡ Ok (b, r)) × (all_of F b ≡ Err m) × (m + length r ≡ left))
  boxed_faults bytes left e =
      elim (bind_err (block.read bytes) inside left (sym (boxed_is bytes) ∙ e)) [
        | inl out ↦ inl out
        | inr s ↦ elim (bind_err (deeper (length s.0.1) (all_of F s.0.0)) (λ y. Ok (y, s.0.1)) left s.2) [
          | inl deep ↦ let d = deep_err (length s.0.1) (all_of F s.0.0) left deep in inr (s.0.0, s.0.1, d.0, s.1, d.1, d.2)
          | inr c ↦ not_both (Ok (c.0, s.0.1)) (c.0, s.0.1) left refl c.2
        ]
      ]

  boxed_within : (bytes : List ℕ) (left : ℕ) → IsBytes bytes → (boxed F).read bytes ≡ Err left → left ≤ length bytes
  boxed_within bytes left ib e =
      elim (boxed_faults bytes left e) [
        | inl out ↦ block_sound.within bytes left ib out
        | inr (b, r, m, is, bad, sum) ↦
            let t = block_sound.takes bytes b r ib is in
            let w = all_within F P lf b m t.0.1.1 bad in
            omega (arith, w, sum, ap length t.1, length-append (u32 (length b) ++ b) r, length-append (u32 (length b)) b)
      ]

  dead_behind : (front : List ℕ) (b : ℕ) (rest more : List ℕ) (x : A) (k : List ℕ) (blk r : List ℕ) (m : ℕ) → length blk < 2 ^ 32 → front ++ b ∷ rest ≡ boxed_bytes blk ++ r → all_of F blk ≡ Err m → length r ≡ suc (length rest)
      → (o : List ℕ) → block.read (front ++ b ∷ more) ≡ Ok (o, k) → all_of F o ≡ Ok x → ⊥
  dead_behind front b rest more x k blk r m fits is bad n o reads good =
      let box = (same_tails (boxed_bytes blk) r front (b ∷ rest) (sym is) (omega (arith, n))).0 in
      let again : block.read (front ++ b ∷ more) ≡ Ok (blk, b ∷ more) = ap (λ z. block.read (z ++ b ∷ more)) (sym box) ∙ block_again blk (b ∷ more) fits in
      let same : blk ≡ o = ap (λ (z : List ℕ × List ℕ). z.0) (ok_is (blk, b ∷ more) (o, k) (sym again ∙ reads)) in
      not_both (all_of F blk) x m (ap (all_of F) same ∙ good) bad

  dead_inside : (front : List ℕ) (b : ℕ) (rest more : List ℕ) (x : A) (k : List ℕ) (blk r : List ℕ) (m : ℕ) → length blk < 2 ^ 32 → IsBytes blk → front ++ b ∷ rest ≡ boxed_bytes blk ++ r → all_of F blk ≡ Err (suc m) → suc m + length r ≡ suc (length rest)
      → (o : List ℕ) → block.read (front ++ b ∷ more) ≡ Ok (o, k) → all_of F o ≡ Ok x → ⊥
  dead_inside front b rest more x k blk r m fits ib is bad sum o reads good =
      let n = u32 (length blk) in
      let w = all_within F P lf blk (suc m) ib bad in
      let f = split_at_fault n (blk ++ r) front b rest (sym (is ∙ append_assoc n blk r)) (omega (arith, w, sum, length-append blk r)) in
      let cut : ℕ = length rest - length r in
      let g : List ℕ = take cut rest in
      let parts : g ++ drop cut rest ≡ rest = take-append-drop cut rest in
      let tail : length (drop cut rest) ≡ length r = omega (arith, length-drop cut rest, sum) in
      let long : length g ≡ m = omega (arith, length-take cut rest, sum) in
      let both : blk ++ r ≡ (f.0 ++ b ∷ g) ++ drop cut rest = f.1 ∙ ap (λ z. f.0 ++ b ∷ z) (sym parts) ∙ sym (append_assoc f.0 (b ∷ g) (drop cut rest)) in
      let blk_is : blk ≡ f.0 ++ b ∷ g = (same_tails blk r (f.0 ++ b ∷ g) (drop cut rest) both (sym tail)).0 in
      let outer : front ++ b ∷ more ≡ n ++ (f.0 ++ b ∷ more) = ap (λ z. z ++ b ∷ more) f.2 ∙ append_assoc n f.0 (b ∷ more) in
      let count : length blk ≡ length f.0 + suc m = omega (arith, ap length blk_is, length-append f.0 (b ∷ g), long) in
      let o_is : o ≡ f.0 ++ b ∷ take m more =
      block_taken (length blk) (f.0 ++ b ∷ more) o k fits (sym (ap block.read outer) ∙ reads) ∙ ap (λ (z : ℕ). take z (f.0 ++ b ∷ more)) count ∙ take-append-add f.0 (b ∷ more) (suc m) in
      all_dead F P lf f.0 b g (take m more) x (subst IsBytes blk_is ib) (ap (all_of F) (sym blk_is) ∙ bad ∙ ap (λ (z : ℕ). Err (suc z)) (sym long)) (ap (all_of F) (sym o_is) ∙ good)

  dead_any : (front : List ℕ) (b : ℕ) (rest more : List ℕ) (x : A) (k : List ℕ) (blk r : List ℕ) (m : ℕ) → length blk < 2 ^ 32 → IsBytes blk → front ++ b ∷ rest ≡ boxed_bytes blk ++ r → all_of F blk ≡ Err m → m + length r ≡ suc (length rest)
      → (o : List ℕ) → block.read (front ++ b ∷ more) ≡ Ok (o, k) → all_of F o ≡ Ok x → ⊥
  dead_any front b rest more x k blk r zero fits ib is bad sum o reads good = dead_behind front b rest more x k blk r 0 fits is bad (omega (arith, sum)) o reads good
  dead_any front b rest more x k blk r (suc m) fits ib is bad sum o reads good = dead_inside front b rest more x k blk r m fits ib is bad sum o reads good

  boxed_dead : (front : List ℕ) (b : ℕ) (rest more : List ℕ) (y : A × List ℕ) → IsBytes (front ++ b ∷ rest) → (boxed F).read (front ++ b ∷ rest) ≡ Err (suc (length rest)) → (boxed F).read (front ++ b ∷ more) ≡ Ok y → ⊥
  boxed_dead front b rest more y ib e k =
      let o = boxed_opened (front ++ b ∷ more) y.0 y.1 k in
      elim (boxed_faults (front ++ b ∷ rest) (suc (length rest)) e) [
        | inl out ↦ block_sound.dead front b rest more (o.0, y.1) ib out o.1
        | inr (blk, r, m, is, bad, sum) ↦
            let t = block_sound.takes (front ++ b ∷ rest) blk r ib is in
            dead_any front b rest more y.0 y.1 blk r m t.0.0 t.0.1.1 t.1 bad sum o.0 o.1 o.2
      ]

  pub boxed_sound : Sound (boxed F) P
  boxed_sound = record { again = boxed_again; takes = boxed_takes; within = boxed_within; dead = boxed_dead }

-- what so many bytes take, and what they leave
pub free_lengths : (n : ℕ) (bytes x rest : List ℕ) → free_at n bytes ≡ Ok (x, rest) → length x + length rest ≡ length bytes
free_lengths n bytes x rest e =
    elim (cases_lt (length bytes) n) [
      | inl lt ↦ not_both (free_at n bytes) (x, rest) 0 e (let p = lt-ltb _ _ lt in rw p refl)
      | inr le ↦
          let same = ok_is (take n bytes, drop n bytes) (x, rest) (sym (let p = le-ltb _ _ le in let h : free_at n bytes ≡ Ok (take n bytes, drop n bytes) = rw p refl in h) ∙ e) in
          omega (arith, ap (λ (z : List ℕ × List ℕ). length z.0 + length z.1) same, length-take n bytes, length-drop n bytes)
    ]
