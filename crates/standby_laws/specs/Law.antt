-- What holds of a primary and its standby after every list of events.
use Rattle.std.specs.Prelude.{◌≡◌, ◌≤◌, ℕ, List, ◌∷◌, ◌++◌, length, Option, Some}
use Rattle.news_types.specs.declared.entry.Entry.{Entry}
use Rattle.news_types.specs.Names.{Bytes}
use Rattle.news_types.specs.Doubt.{IsWithin, payloads}
use Rattle.news_types.specs.History.{History}
use Rattle.news_types.specs.Legal.{IsLegal}
use Rattle.news_types.specs.Members.{Each}
use Rattle.news_types.specs.Server.{Server}
use Rattle.news_io.specs.Keeper.{KeeperMeaning, Leaves}
use Rattle.standby_laws.specs.Standby.{restarted}
use Rattle.standby_laws.specs.Following.{Following, Event, MayAll, opening, after, one_of}

-- the list goes on from the front
abbrev pub IsPrefix : History → History → Type 0
IsPrefix front h = (more : History) × (h ≡ more ++ front)

-- a list that is the primary's up to some entry, and has as many entries as each KEPT has said
pub record Follows (primary : History) (kepts : List ℕ) (list : History) : Type 0 where
  pub prefix : IsPrefix list primary
  pub kept : Each (λ c. c ≤ length list) kepts
  pub legal : IsLegal list

-- the standby's list is one, and so is whatever a stop leaves of it; and each entry in doubt may follow it
pub record IsFollowed (w : Following) : Type 0 where
  pub now : Follows w.primary w.kepts w.standby.list
  pub follow : Each (λ e. IsLegal (e ∷ w.standby.list)) w.standby.doubt
  pub stopped : (which : Option ℕ)
      → Follows w.primary w.kepts (restarted w.standby (one_of w.standby.doubt which)).list

abbrev pub FollowingHolds : (Following → Event → Following) → Type 0
FollowingHolds step = (events : List Event) → MayAll step events opening → IsFollowed (after step events)

-- what a stop leaves of a standby's records: those of its list, or these and that of one entry of its doubt
abbrev pub IsStop : (Entry → Bytes) → Server → Option (List Bytes) → Type 0
IsStop spelled s found =
    (which : Option ℕ) × (found ≡ Some (payloads spelled (restarted s (one_of s.doubt which)).list))

-- What a crash leaves of a keeper of the list's records, whose payloads in doubt are among those of the standby's,
-- is what a stop leaves.
abbrev pub StopsAreEvents : {K : Type 0} → KeeperMeaning K → Type 0
StopsAreEvents {K} keeper =
    (spelled : Entry → Bytes) (s : Server) (k : K) (found : Option (List Bytes))
    → IsWithin spelled (keeper.doubts k) s.doubt → Leaves (payloads spelled s.list) (keeper.doubts k) found
    → IsStop spelled s found
