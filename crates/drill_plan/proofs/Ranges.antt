-- What is made of each number of a range, with one number more.
use Rattle.std.proofs.Common.{◌≡◌, ℕ, zero, suc, ◌+◌, List, ◌++◌, sym, ap, ◌∙◌, append_assoc, append-nil, add-one, arith}
use Rattle.std.specs.List.{flat_map, range_with_len}

flat_map_more : {A : Type 0} (f : ℕ → List A) (a n : ℕ) → flat_map f (range_with_len a (suc n)) ≡ flat_map f (range_with_len a n) ++ f (a + n)
flat_map_more f a zero = append-nil (f a) ∙ ap f (let e : a ≡ a + 0 = omega arith in e)
flat_map_more f a (suc n) =
    let same : a + 1 + n ≡ a + suc n = omega arith in
    ap (λ z. f a ++ z) (flat_map_more f (a + 1) n ∙ ap (λ k. flat_map f (range_with_len (a + 1) n) ++ f k) same)
    ∙ sym (append_assoc (f a) (flat_map f (range_with_len (a + 1) n)) (f (a + suc n)))

pub flat_map-range_more : {A : Type 0} (f : ℕ → List A) (n : ℕ) → flat_map f (range_with_len 0 (n + 1)) ≡ flat_map f (range_with_len 0 n) ++ f n
flat_map-range_more f n =
    let same : 0 + n ≡ n = omega arith in
    ap (λ k. flat_map f (range_with_len 0 k)) (add-one n) ∙ flat_map_more f 0 n ∙ ap (λ k. flat_map f (range_with_len 0 n) ++ f k) same
