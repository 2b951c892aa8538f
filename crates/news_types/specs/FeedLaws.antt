-- What holds of the feeds of every legal list, and of what stands in it.
use Rattle.std.specs.Prelude.{◌≡◌, ◌==◌, ℕ, Bool, not, ◌&&◌, nat_lt, List, [], ◌∷◌, ◌++◌, map}
use Rattle.std.specs.List.{list_any, filter}
use Rattle.news_types.specs.declared.entry.Entry.{Entry}
use Rattle.news_types.specs.declared.entry.Act.{Act}
use Rattle.news_types.specs.declared.entry.Act.TheVariants.{Request}
use Rattle.news_types.specs.declared.command.Command.TheVariants.{Deschedule}
use Rattle.news_types.specs.declared.query.Due.{Due}
use Rattle.news_types.specs.Names.{Bytes}
use Rattle.news_types.specs.History.{History}
use Rattle.news_types.specs.Due.{Pub, takes_back, withdrawn}
use Rattle.news_types.specs.Publications.{made, issued_by, pubs_of_issue, pubs, standing}
use Rattle.news_types.specs.Feeds.{Dispatch, feed}
use Rattle.news_types.specs.Legal.{IsLegal}

-- the first list begins with the second
abbrev pub BeginsWith : List Dispatch → List Dispatch → Type 0
BeginsWith longer shorter = (rest : List Dispatch) × (longer ≡ shorter ++ rest)

-- where a legal list goes on from h, each feed begins with that of h
abbrev pub FeedsOnlyGrow : Type 0
FeedsOnlyGrow = (more h : History) (s : Bytes) → IsLegal (more ++ h) → BeginsWith (feed (more ++ h) s) (feed h s)

-- ---- what stands, said of the whole list

-- a kill or recall of the publication's item, behind it, is released before a release of the publication
abbrev pub is_taken_back : List Pub → Pub → ℕ → Bool
is_taken_back all p release = list_any (λ (q : Pub). takes_back q.kind && p.item == q.item && nat_lt p.number q.number && nat_lt q.release release) all

-- the publication with those of its subscribers for whom none is
abbrev pub for_whom_it_stands : List Pub → Pub → Pub
for_whom_it_stands all p = record p { due = filter (λ (d : Due). not (is_taken_back all p d.release)) p.due }

-- what an entry publishes
abbrev pub published : Entry → History → List Pub
published e h = pubs_of_issue h (made h) (issued_by h (made h) e.moment e.act)

abbrev pub without_descheduled : Act → List Pub → List Pub
without_descheduled (Request caller number (Deschedule i)) ps = withdrawn i ps
without_descheduled _ ps = ps

-- the publications but for the first ones behind which their item was descheduled, each with all to whom it was made due
abbrev pub not_descheduled : History → List Pub
not_descheduled [] = []
not_descheduled (e ∷ h) = published e h ++ without_descheduled e.act (not_descheduled h)

-- in a legal list these stand, each for those of its subscribers for whom no kill or recall of its item behind it came first
abbrev pub StandsAsSaid : Type 0
StandsAsSaid = (h : History) → IsLegal h → standing h ≡ map (for_whom_it_stands (pubs h)) (not_descheduled h)
