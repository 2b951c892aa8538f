-- Pages of numbers.
use Rattle.std.specs.Prelude.{◌≡◌, ℕ, ◌*◌, List, [], ◌∷◌, length, take, drop, if◌then◌else◌, Option, Some, None}
use Rattle.news_types.specs.Due.{Pub, shown}
use Rattle.archive_query.specs.Query.{Query, meaning}
use Rattle.archive_search.specs.declared.page.Page.{Page}

-- the first 100 behind so many pages, or all of these where they are fewer
abbrev pub page_of : ℕ → List ℕ → List ℕ
page_of page numbers = take 100 (drop (100 * page) numbers)

-- how many numbers there are, and those of a page
pub record IsPageOf (numbers : List ℕ) (page : ℕ) (found : Page) : Type 0 where
  pub total_is : found.total ≡ length numbers
  pub rows_are : found.rows ≡ page_of page numbers

-- the number of a publication of which the query is true, if there is one
abbrev pub hits_at : Query → Option Pub → List ℕ
hits_at q None = []
hits_at q (Some p) = if meaning q (shown p) then p.number ∷ [] else []
