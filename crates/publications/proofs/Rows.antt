-- Rows of publications.
use Rattle.std.proofs.Common.{◌≡◌, ℕ, zero, suc, ◌-◌, ◌==◌, true, false, cond, List, [], ◌∷◌, ◌++◌, length, map, None, refl, sym, ap, ◌∙◌, arith}
use Rattle.std.proofs.lemmas.List.{map-append, length-append}
use Rattle.std.specs.List.{slice_get}
use Rattle.std.specs.Option.{option_map}
use Rattle.news_types.specs.Due.{Pub}
use Rattle.publications.specs.Keeps.{shown, shown_all, oldest_first, row_at, pub_at}

pub shown_map : (ps : List Pub) → shown_all ps ≡ map shown (oldest_first ps)
shown_map [] = refl
shown_map (p ∷ ps) = ap (λ rows. rows ++ shown p ∷ []) (shown_map ps) ∙ sym (map-append shown (oldest_first ps) (p ∷ []))

pub shown_counted : (ps : List Pub) → length (shown_all ps) ≡ length ps
shown_counted [] = refl
shown_counted (p ∷ ps) = omega (arith, length-append (shown_all ps) (shown p ∷ []), shown_counted ps)

get_map : (ps : List Pub) (k : ℕ) → slice_get (map shown ps) k ≡ option_map shown (slice_get ps k)
get_map [] k = refl
get_map (p ∷ ps) zero = refl
get_map (p ∷ ps) (suc k) = get_map ps k

pub row_found : (ps : List Pub) (n : ℕ) → row_at (shown_all ps) n ≡ option_map shown (pub_at ps n)
row_found ps n =
    elim (n == 0) as (λ b. cond b None (slice_get (shown_all ps) (n - 1)) ≡ option_map shown (cond b None (slice_get (oldest_first ps) (n - 1)))) [
      | true ↦ refl
      | false ↦ ap (λ rows. slice_get rows (n - 1)) (shown_map ps) ∙ get_map (oldest_first ps) (n - 1)
    ]
