-- What was read of a reply.
use Rattle.std.proofs.Common.{◌≡◌, ℕ, ◌-◌, ◌≤◌, List, length, take, sym, ◌∙◌, ap, subst, arith}
use Rattle.std.proofs.lemmas.List.{take-take, length-take-le}
use Rattle.std.specs.Prelude.{All}
use Rattle.news_io.specs.Link.{IsReply}

-- the first n bytes, of which none but the last is a line feed
pub first_is_reply : (n : ℕ) (bytes : List ℕ) → n ≤ length bytes → All (λ (b : ℕ). b ≡ 10 → ⊥) (take (n - 1) bytes) → IsReply (take n bytes)
first_is_reply n bytes le none =
    subst (λ (l : List ℕ). All (λ (b : ℕ). b ≡ 10 → ⊥) l)
    (sym (ap (λ (k : ℕ). take (k - 1) (take n bytes)) (length-take-le n bytes le) ∙ take-take (n - 1) n bytes (omega arith)))
    none
