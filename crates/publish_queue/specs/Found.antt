-- Where a publication stands in a feed.
use Rattle.std.specs.Prelude.{◌≡◌, ℕ, ◌<◌, ◌⊎◌, List, [], ◌∷◌, Option, Some, None}
use Rattle.news_types.specs.Members.{Each}
use Rattle.news_types.specs.Due.{Pub}
use Rattle.news_types.specs.Feeds.{Dispatch}
use Rattle.news_types.specs.Frames.{numbered}

-- entry k of a feed, counted from 1, has that number and that release
pub record IsEntry (number release : ℕ) (ds : List Dispatch) (k : ℕ) : Type 0 where
  pub dispatch : Dispatch
  pub there : numbered ds k ≡ Some dispatch
  pub is_number : dispatch.shown.number ≡ number
  pub is_release : dispatch.release ≡ release

-- what is found in a feed: the entry of that number and that release, or that none has both
abbrev pub Finds : ℕ → ℕ → List Dispatch → Option ℕ → Type 0
Finds number release ds None = (k : ℕ) → IsEntry number release ds k → ⊥
Finds number release ds (Some k) = IsEntry number release ds k

-- publications stand newest first, each with a number below those before it
abbrev pub NewestFirst : List Pub → Type 0
NewestFirst [] = Unit {0}
NewestFirst (p ∷ ps) = Each (λ (q : Pub). q.number < p.number) ps × NewestFirst ps

-- the first is released before the other, or at its moment and has the lower number
abbrev pub ComesBefore : Dispatch → Dispatch → Type 0
ComesBefore d e = (d.release < e.release) ⊎ ((d.release ≡ e.release) × (d.shown.number < e.shown.number))

-- entries in order of release and then number
abbrev pub AreInRow : List Dispatch → Type 0
AreInRow [] = Unit {0}
AreInRow (d ∷ ds) = Each (ComesBefore d) ds × AreInRow ds
