-- What a query says of a publication that is kept.
use Rattle.std.proofs.Common.{◌≡◌, ◌∙◌, ◌++◌, ℕ, Bool, true, false, List, [], ◌∷◌, Option, Some, None, refl, sym, ap, subst, append-nil}
use Rattle.std.specs.Prelude.{option_map, if◌then◌else◌}
use Rattle.news_types.specs.declared.query.Publication.{Publication}
use Rattle.news_types.specs.Due.{Pub, shown}
use Rattle.news_types.specs.Answers.{publication_at}
use Rattle.publications.specs.declared.table.Published.{Published}
use Rattle.story_tables.specs.Pages.{publication_of}
use Rattle.archive_query.specs.Query.{Query, meaning}
use Rattle.archive_search.specs.declared.page.Page.{Page}
use Rattle.archive_search.specs.Pages.{IsPageOf, hits_at}
use Rattle.archive_search.proofs.Hits.{found_number}

-- none is kept
pub none_found : (q : Query) (n : ℕ) (kept : Option Published) (found : Option Pub) → option_map (publication_of n) kept ≡ option_map shown found → kept ≡ None → hits_at q found ≡ []
none_found q n None None same is = refl
none_found q n None (Some p) same is = absurd cc
none_found q n (Some k) found same is = absurd cc

some_shown : (a b : Publication) → ◌≡◌ {A = Option Publication} (Some a) (Some b) → a ≡ b
some_shown a b h = cc

some_kept : (a b : Published) → ◌≡◌ {A = Option Published} (Some a) (Some b) → a ≡ b
some_kept a b h = cc

-- one is kept
kept_hits : (q : Query) (n : ℕ) (ps : List Pub) (kept : Option Published) (k : Published) (found : Option Pub) → publication_at n ps ≡ found → option_map (publication_of n) kept ≡ option_map shown found → kept ≡ Some k
    → hits_at q found ≡ (if meaning q (publication_of n k) then n ∷ [] else [])
kept_hits q n ps None k found at same is = absurd cc
kept_hits q n ps (Some j) k None at same is = absurd cc
kept_hits q n ps (Some j) k (Some p) at same is =
    let j_is = some_kept j k is in
    let shown_is : publication_of n k ≡ shown p = ap (publication_of n) (sym j_is) ∙ some_shown (publication_of n j) (shown p) same in
    ap (λ (i : ℕ). if meaning q (shown p) then i ∷ [] else []) (found_number n ps p at) ∙ ap (λ (s : Publication). if meaning q s then n ∷ [] else []) (sym shown_is)

pub one_found : (q : Query) (n : ℕ) (ps : List Pub) (kept : Option Published) (k : Published) → option_map (publication_of n) kept ≡ option_map shown (publication_at n ps) → kept ≡ Some k → meaning q (publication_of n k) ≡ true → hits_at q (publication_at n ps) ≡ n ∷ []
one_found q n ps kept k same is meant = kept_hits q n ps kept k (publication_at n ps) refl same is ∙ ap (λ (b : Bool). if b then n ∷ [] else []) meant

pub none_meant : (q : Query) (n : ℕ) (ps : List Pub) (kept : Option Published) (k : Published) → option_map (publication_of n) kept ≡ option_map shown (publication_at n ps) → kept ≡ Some k → meaning q (publication_of n k) ≡ false → hits_at q (publication_at n ps) ≡ []
none_meant q n ps kept k same is unmeant = kept_hits q n ps kept k (publication_at n ps) refl same is ∙ ap (λ (b : Bool). if b then n ∷ [] else []) unmeant

-- nothing more
pub none_more : (numbers more : List ℕ) (page : ℕ) (found : Page) → more ≡ [] → IsPageOf numbers page found → IsPageOf (numbers ++ more) page found
none_more numbers more page found is told = subst (λ (l : List ℕ). IsPageOf l page found) (sym (ap (λ (l : List ℕ). numbers ++ l) is ∙ append-nil numbers)) told
