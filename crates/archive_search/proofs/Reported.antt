-- What is told of what is found.
use Rattle.std.proofs.Common.{◌≡◌, ◌∙◌, ℕ, List, [], ◌∷◌, Option, Some, None, refl, sym, ap}
use Rattle.std.specs.Prelude.{option_map}
use Rattle.news_types.specs.Due.{Pub, shown}
use Rattle.publications.specs.declared.table.Published.{Published}
use Rattle.story_tables.specs.Pages.{publication_of}
use Rattle.archive_search.specs.declared.hit.Hit.{Hit}
use Rattle.archive_search.specs.Answers.{hit_at, hit_of}

-- what is kept of the publication of a number, and what is told of it
pub hit_of_kept : (number : ℕ) (kept : Option Published) (found : Option Pub) → option_map (publication_of number) kept ≡ option_map shown found
    → (p : Published) → kept ≡ Some p → (hit : Hit) → hit ≡ hit_of (publication_of number p) → hit_at found ≡ hit ∷ []
hit_of_kept number None found same p is hit hit_is = absurd cc
hit_of_kept number (Some q) None same p is hit hit_is = absurd cc
hit_of_kept number (Some q) (Some f) same p is hit hit_is =
    let shown_is : publication_of number q ≡ shown f = cc in
    let kept_is : q ≡ p = cc in
    ap (λ (h : Hit). h ∷ []) (ap hit_of (sym shown_is ∙ ap (publication_of number) kept_is) ∙ sym hit_is)

pub hit_of_none : (number : ℕ) (kept : Option Published) (found : Option Pub) → option_map (publication_of number) kept ≡ option_map shown found → kept ≡ None → hit_at found ≡ []
hit_of_none number None None same is = refl
hit_of_none number None (Some f) same is = absurd cc
hit_of_none number (Some q) found same is = absurd cc
