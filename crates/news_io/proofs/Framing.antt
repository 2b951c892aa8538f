-- The frame of a payload.
use Rattle.std.proofs.Common.{◌≡◌, ℕ, ◌+◌, ◌-◌, ◌≤◌, List, [], ◌∷◌, ◌++◌, length, take, drop, refl, sym, ◌∙◌, ap, subst, arith, append_assoc, length-append}
use Rattle.std.proofs.lemmas.List.{take_at, drop_at}
use Rattle.std.specs.Int.{w32, to_be_bytes}
use Rattle.news_io.specs.Keeper.{framed, payload_of, IsFramed}

length-be : (n : ℕ) → length (to_be_bytes w32 n) ≡ 4
length-be n = refl

pub length-framed : (p : List ℕ) → length (framed p) ≡ 5 + length p
length-framed p = omega (arith, length-append (to_be_bytes w32 (length p) ++ p) (0 ∷ []), length-append (to_be_bytes w32 (length p)) p, length-be (length p))

-- the payload comes back
pub payload_of-framed : (p : List ℕ) → payload_of (framed p) ≡ p
payload_of-framed p =
    ap (λ (n : ℕ). take (n - 5) (drop 4 (framed p))) (length-framed p)
    ∙ ap (λ (l : List ℕ). take (5 + length p - 5) (drop 4 l)) (append_assoc (to_be_bytes w32 (length p)) p (0 ∷ []))
    ∙ ap (λ (l : List ℕ). take (5 + length p - 5) l) (drop_at (to_be_bytes w32 (length p)) (p ++ 0 ∷ []) 4 (length-be (length p)))
    ∙ take_at p (0 ∷ []) (5 + length p - 5) (omega arith)

pub is_framed : (p : List ℕ) → length p ≤ 4194304 → IsFramed (framed p)
is_framed p le = record {
  is = ap (λ (l : List ℕ). framed l) (sym (payload_of-framed p));
  fits = subst (λ (l : List ℕ). length l ≤ 4194304) (sym (payload_of-framed p)) le;
}
