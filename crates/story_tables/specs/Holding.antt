-- Which items a feed has.
use Rattle.std.specs.Prelude.{◌≡◌, ℕ, Bool, false, not, ◌==◌, ◌&&◌, List, find, reverse, Option, Some, None}
use Rattle.news_types.specs.Names.{Bytes}
use Rattle.news_types.specs.History.{History, moment}
use Rattle.news_types.specs.Due.{Pub, takes_back, had_by}
use Rattle.news_types.specs.Publications.{pubs, standing}
use Rattle.news_types.specs.Feeds.{Dispatch, feed}
use Rattle.news_types.specs.Legal.{IsLegal}

-- an entry of a feed is a publication of the item
abbrev pub is_of : ℕ → Dispatch → Bool
is_of i d = d.shown.item == i

-- the last entry of a feed that is of the item
abbrev pub last_of : ℕ → List Dispatch → Option Dispatch
last_of i ds = find (is_of i) (reverse ds)

-- it is there, and is no kill or recall
abbrev pub is_left : Option Dispatch → Bool
is_left None = false
is_left (Some d) = not (takes_back d.shown.kind)

-- the feed has a publication of the item, the last of which is no kill or recall
abbrev pub has_item : List Dispatch → ℕ → Bool
has_item ds i = is_left (last_of i ds)

-- the newest of these publications (newest first) that is of the item
abbrev pub newest_of : ℕ → List Pub → Option Pub
newest_of i ps = find (λ (p : Pub). p.item == i) ps

-- it is there, and is a kill or a recall
abbrev pub took_back : Option Pub → Bool
took_back None = false
took_back (Some p) = takes_back p.kind

-- in a legal list a feed has the item where something of it that stands is released to the subscriber, and the newest publication
-- of the item is no kill or recall
abbrev pub HasItemByTables : Type 0
HasItemByTables = (h : History) (s : Bytes) (i : ℕ) → IsLegal h → has_item (feed h s) i ≡ (had_by (moment h) (standing h) i s && not (took_back (newest_of i (pubs h))))
