-- What shipping the records of a store's files comes to.
use Rattle.std.proofs.Common.{◌≡◌, ◌⊎◌, inl, inr, ℕ, ◌+◌, ◌<◌, ◌^◌, List, length, sym, ◌∙◌, ap, subst, arith}
use Rattle.std.specs.Prelude.{All}
use Rattle.news_types.specs.Names.{Bytes}
use Rattle.news_types.specs.History.{History}
use Rattle.news_io.specs.Disk.{DiskMeaning, DiskGains}
use Rattle.news_io.specs.Link.{LinkMeaning}
use Rattle.news_io.specs.Sink.{SinkMeaning}
use Rattle.news_io.specs.declared.record.Record.{Record}
use Rattle.news_journal.specs.Opened.{Still}
use Rattle.news_pair.specs.Stands.{log_disk, side_disk}
use Rattle.room_standby.specs.Holds.{AreOf}
use Rattle.room_standby.specs.Ships.{HasLine, LinesAreEntries, Ships, ShipCounts}
use Rattle.room_standby.specs.declared.outcome.Ship.{Ship}
use Rattle.store_files.specs.Files.{FilesHold}
use Rattle.store_files.specs.Store.{Opens}
use Rattle.store_files.proofs.Serving.{served}
use Rattle.standby_files.specs.Listing.{IsListed}
use Rattle.standby_files.specs.Shipping.{TellsShip, HasShipped, IsShip}
use Rattle.standby_files.specs.Telling.{IsServed}
use Rattle.standby_files.specs.declared.listing.Listed.{Listed}
use Rattle.standby_files.proofs.Serving.{trouble_served, ship_served}
use Rattle.standby_files.proofs.Sizes.{all_lines}

module _ {D : Type 0} (disk : DiskMeaning D) (log side : D) (l : Listed D) (a : IsListed disk log side l) (rs : List Record) (same : rs ≡ l.records) where
  pub lines_fit : All HasLine rs
  lines_fit = subst (λ (x : List Record). All HasLine x) (sym same) (all_lines l.records a.list a.are)

  pub few_enough : length rs < 2 ^ 48
  few_enough = let few = a.few in omega (arith, few.count, ap length same)

  are_list : disk.tells log → disk.tells side → AreOf rs a.opened.history
  are_list told told' = subst (λ (h : History). AreOf rs h) (a.list_is told told') (subst (λ (x : List Record). AreOf x a.list) (sym same) a.are)

  module _ {O L : Type 0} (sink : SinkMeaning O) (link : LinkMeaning L) (name : Bytes) (log' side' : D) (o o' : O) (k k' : L) (status : ℕ) where
    pub has_shipped : (answer : Ship) → log' ≡ log_disk l.pair → side' ≡ side_disk l.pair → Ships link k k' rs name 0 answer → LinesAreEntries rs → ShipCounts (link.faults k) (link.faults k') answer → TellsShip sink answer o o' status
        → HasShipped disk sink link name log log' side side' o o' k k' status
    has_shipped answer same_log same_side ships lines counts told = record {
      room = a.room;
      opened = a.opened;
      files = λ t t'. subst (λ (d : D). FilesHold disk d side' a.opened.store a.opened.history) (sym same_log) (subst (λ (d : D). FilesHold disk (log_disk l.pair) d a.opened.store a.opened.history) (sym same_side) (a.files t t'));
      crash = λ t t'.
          subst (λ (d : D). DiskGains disk log d (λ c. disk.may_leave log c ⊎ ((s : List ℕ) → disk.may_leave side' s → Opens c s a.opened.store a.opened.history))) (sym same_log)
          (subst (λ (d : D). DiskGains disk log (log_disk l.pair) (λ c. disk.may_leave log c ⊎ ((s : List ℕ) → disk.may_leave d s → Opens c s a.opened.store a.opened.history))) (sym same_side) (a.crash t t'));
      still = λ t'. subst (λ (d : D). Still disk side d) (sym same_side) (a.still t');
      calm = ap (λ (d : D). disk.faults d + disk.faults side') same_log ∙ ap (λ (d : D). disk.faults (log_disk l.pair) + disk.faults d) same_side ∙ a.calm;
      records = rs;
      are = are_list;
      answer = answer;
      ships = ships;
      lines = λ t t' from within. lines a.opened.history (are_list t t') from within;
      counts = counts;
      told = told;
    }

module _ {D O L : Type 0} (disk : DiskMeaning D) (sink : SinkMeaning O) (link : LinkMeaning L) (name : Bytes) (log log' side side' : D) (o o' : O) (k k' : L) (status : ℕ)
    (told : disk.tells log) (told' : disk.tells side) (store : Bytes) (h : History) (long : length store ≡ 16) (opens : Opens (disk.seen log) (disk.seen side) store h) where
  pub shipped_served : IsShip disk sink link name log log' side side' o o' k k' status → IsServed (disk.faults log + disk.faults side) (disk.faults log' + disk.faults side') status
  shipped_served (inl n) =
      let refused = n.refused in
      let stopped = n.stopped in
      trouble_served (disk.faults log + disk.faults side) (disk.faults log' + disk.faults side') status n.why
      (served (disk.seen log) (disk.seen side) store h long opens n.why (refused.cause told told')) refused.count stopped.status_is
  shipped_served (inr s) = ship_served sink o o' (disk.faults log + disk.faults side) (disk.faults log' + disk.faults side') status s.answer s.told
