-- A list that is shipped over the first of some links.
use Rattle.std.proofs.Common.{◌≡◌, ℕ, ◌<◌, ◌≤◌, List, [], ◌∷◌, get_or, length, slice_set, refl, sym, subst, arith}
use Rattle.news_types.specs.Names.{Bytes}
use Rattle.news_io.specs.Disk.{DiskMeaning}
use Rattle.news_io.specs.Link.{LinkMeaning}
use Rattle.news_io.specs.Sink.{SinkMeaning}
use Rattle.newsdesk_cli.specs.Standby.{IsNotLinked, ShipsBy, ShipsOver}

module _ {D O L : Type 0} (disk : DiskMeaning D) (sink : SinkMeaning O) (name : Bytes) (log log' side side' : D) (o o' : O) (status : ℕ) (link : LinkMeaning L) where
  pub over_first : (links : List L) (l l' : L) → 0 < length links → l ≡ get_or links 0 l → ShipsBy disk sink name log log' side side' o o' status link l l'
      → ShipsOver disk sink name log log' side side' o o' status link links (slice_set links 0 l')
  over_first (first ∷ others) l l' some is ships = (l', refl, subst (λ (k : L). ShipsBy disk sink name log log' side side' o o' status link k l') is ships)
  over_first [] l l' some is ships = absurd (omega (arith, some))

  pub over_none : (links : List L) → length links ≤ 0 → IsNotLinked disk sink name log log' side side' o o' status → ShipsOver disk sink name log log' side side' o o' status link links links
  over_none [] none refused = (refl, refused)
  over_none (first ∷ others) none refused = absurd (omega (arith, none))
