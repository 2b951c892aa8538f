-- A store that holds a list is served by what ships it.
use Rattle.std.proofs.Common.{◌≡◌, inl, inr, ℕ, ◌+◌, List, [], ◌∷◌, length, arith}
use Rattle.news_types.specs.Names.{Bytes}
use Rattle.news_types.specs.History.{History}
use Rattle.news_io.specs.Disk.{DiskMeaning}
use Rattle.news_io.specs.Link.{LinkMeaning}
use Rattle.news_io.specs.Sink.{SinkMeaning}
use Rattle.room_standby.specs.declared.outcome.Ship.{Ship}
use Rattle.room_standby.specs.declared.outcome.Ship.TheVariants as ship
use Rattle.run_status.specs.Status.{number_of}
use Rattle.run_status.specs.declared.status.Status.{Status}
use Rattle.run_status.specs.declared.status.Status.TheVariants as status
use Rattle.store_files.specs.Store.{Opens}
use Rattle.store_files.proofs.Serving.{served}
use Rattle.standby_files.specs.Shipping.{TellsShip, IsShip}
use Rattle.standby_files.specs.Telling.{IsTold}
use Rattle.newsdesk_cli.specs.Command.{IsServed}
use Rattle.newsdesk_cli.specs.Standby.{ShipsBy, ShipsOver}
use Rattle.newsdesk_cli.proofs.Statuses.{others, by_trouble}

module _ {O : Type 0} (sink : SinkMeaning O) (o o' : O) (before now number : ℕ) where
  -- a line and a status that is none of these
  line_served : (line : List ℕ) (s : Status) → (number_of s ≡ 3 → ⊥) → (number_of s ≡ 7 → ⊥) → (number_of s ≡ 6 → ⊥) → IsTold sink line s o o' number → IsServed before now number
  line_served line s own whole failed (inl told) = others before now (number_of s) number own whole (λ is. absurd (failed is)) told.status_is
  line_served line s own whole failed (inr cut) = others before now 5 number (λ is. absurd (omega (arith, is))) (λ is. absurd (omega (arith, is))) (λ is. absurd (omega (arith, is))) cut.0

  shipped_served : (answer : Ship) → TellsShip sink answer o o' number → IsServed before now number
  shipped_served (ship.Level count) told = line_served _ status.Done (λ is. absurd (omega (arith, is))) (λ is. absurd (omega (arith, is))) (λ is. absurd (omega (arith, is))) told
  shipped_served (ship.LinkFault n) told = line_served _ status.Link (λ is. absurd (omega (arith, is))) (λ is. absurd (omega (arith, is))) (λ is. absurd (omega (arith, is))) told
  shipped_served (ship.NoKept n reply) told = line_served _ status.NoReceipt (λ is. absurd (omega (arith, is))) (λ is. absurd (omega (arith, is))) (λ is. absurd (omega (arith, is))) told
  shipped_served ship.Memory told = others before now 9 number (λ is. absurd (omega (arith, is))) (λ is. absurd (omega (arith, is))) (λ is. absurd (omega (arith, is))) told.status_is

module _ {D O L : Type 0} (disk : DiskMeaning D) (sink : SinkMeaning O) (link : LinkMeaning L) (name : Bytes) (log log' side side' : D) (o o' : O) (number : ℕ)
    (told : disk.tells log) (told' : disk.tells side) (store : Bytes) (h : History) (long : length store ≡ 16) (opens : Opens (disk.seen log) (disk.seen side) store h) where
  abbrev Before : ℕ
  Before = disk.faults log + disk.faults side

  abbrev Now : ℕ
  Now = disk.faults log' + disk.faults side'

  ship_served : (l l' : L) → IsShip disk sink link name log log' side side' o o' l l' number → IsServed Before Now number
  ship_served l l' (inl not) = by_trouble not.why Before Now number (served (disk.seen log) (disk.seen side) store h long opens not.why (not.refused.cause told told')) not.refused.count not.stopped.status_is
  ship_served l l' (inr did) = shipped_served sink o o' Before Now number did.answer did.told

  unlinked : number ≡ 2 → IsServed Before Now number
  unlinked is = others Before Now 2 number (λ s. absurd (omega (arith, s))) (λ s. absurd (omega (arith, s))) (λ s. absurd (omega (arith, s))) is

  by_served : (l l' : L) → ShipsBy disk sink name log log' side side' o o' number link l l' → IsServed Before Now number
  by_served l l' (inl elsewhere) = unlinked elsewhere.refused.refused.status_is
  by_served l l' (inr ships) = ship_served l l' ships

  pub over_served : (l l' : List L) → ShipsOver disk sink name log log' side side' o o' number link l l' → IsServed Before Now number
  over_served [] l' none = unlinked none.1.refused.status_is
  over_served (l ∷ others) l' ships = by_served l ships.0 ships.2
