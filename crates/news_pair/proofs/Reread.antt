-- What reading its log anew leaves of a pair.
use Rattle.std.proofs.Common.{◌≡◌, ◌⊎◌, inl, inr, List, ℕ, ◌++◌, length, cond, Bool, true, false, Option, Some, None, sym, ◌∙◌, ap, subst, drop}
use Rattle.news_types.specs.Names.{Bytes}
use Rattle.news_io.specs.Disk.{DiskMeaning}
use Rattle.news_journal.specs.Log.{Reading, Holding, Broken, reading, payloads_of, starts_with, opened, records}
use Rattle.news_journal.specs.Opened.{Still}
use Rattle.news_journal.specs.Stands.{IsShut, Logs, list_of}
use Rattle.news_journal.specs.Law.{list_is}
use Rattle.news_journal.specs.declared.log.Journal.{Journal}
use Rattle.news_pair.specs.Pair.{six, IsBare, IsSideFile, packed_in, Follows, PairFinds}
use Rattle.news_pair.specs.Stands.{HoldsList, LogStays}
use Rattle.news_pair.specs.Damage.{held, records_in, payloads_in}
use Rattle.news_pair.specs.Law.{length-six, side_so, bare_end}
use Rattle.news_pair.proofs.Journals.{closed_logs}
use Rattle.news_pair.proofs.Emptied.{length-room}
use Rattle.news_pair.proofs.Pairing.{lift_pair, pairs_log}
use Rattle.news_pair.proofs.Packed.{log_opens, side_finds}

-- ---- the records of a file that opens

by_start : (b : Bool) (o : Option (List Bytes)) (ps : List Bytes) → cond b o None ≡ Some ps → o ≡ Some ps
by_start true o ps is = is
by_start false o ps is = absurd (cc is)

opened_reads : (head file : List ℕ) (ps : List Bytes) → opened head file ≡ Some ps → payloads_of (reading (length file) (length head) (drop (length head) file)) ≡ Some ps
unfolding opened
opened_reads head file ps is = by_start (starts_with head file) (payloads_of (reading (length file) (length head) (drop (length head) file))) ps is

by_reading : (r : Reading) (ps : List Bytes) → payloads_of r ≡ Some ps → payloads_in (held r) ≡ ps
by_reading (Holding rs) ps is = cc
by_reading (Broken at found) ps is = absurd (cc is)

opened_payloads : (head file : List ℕ) (ps : List Bytes) → length head ≡ 64 → opened head file ≡ Some ps → payloads_in (records_in file) ≡ ps
unfolding records_in
opened_payloads head file ps long is =
    by_reading (reading (length file) 64 (drop 64 file)) ps (subst (λ (n : ℕ). payloads_of (reading (length file) n (drop n file)) ≡ Some ps) long (opened_reads head file ps is))

module _ {D : Type 0} (disk : DiskMeaning D) (log : Journal D) (side : D) (store : Bytes) (base packed end : ℕ) (h : List Bytes) (pairs : HoldsList disk log side store base packed end h) (shut : log.ajar ≡ false) where
  -- what a read of it gives
  pub log_payloads : payloads_in (records_in (disk.seen log.disk)) ≡ list_of disk log
  log_payloads =
      opened_payloads log.head (disk.seen log.disk) (list_of disk log) (ap length pairs.head.is ∙ length-room pairs.head.edition (six base) store (length-six base) pairs.head.store_is)
      (log_opens disk log side store base packed end h pairs shut (disk.seen log.disk) (disk.leaves_seen log.disk pairs.log_is.told))

  module _ (d : D) (still : Still disk log.disk d) where
    finds : (c s : List ℕ) → disk.may_leave log.disk c → disk.may_leave side s → (found : Option (List Bytes)) → PairFinds store c s found → found ≡ Some h
    finds c s left left' found is =
        let same = pairs.synced s left' in
        side_finds disk log side store base packed end h pairs shut c s left
        (subst (λ (l : List ℕ). IsBare l ⊎ IsSideFile store l) (sym same) (side_so store (disk.seen side) (disk.may_leave side) end pairs.side_is))
        (λ b. pairs.bare (bare_end store (disk.seen side) (disk.may_leave side) end pairs.head.store_is pairs.side_is (subst IsBare same b)))
        (subst (λ (l : List ℕ). Follows base (packed_in store l) (list_of disk log) h) (sym same) pairs.follows) found is

    -- at each moment
    pub reread_stays : LogStays disk store h side log.disk d
    reread_stays = lift_pair disk store log.disk d side (disk.moment log.disk) (disk.moment d) (disk.may_leave log.disk) (λ (found : Option (List Bytes)). found ≡ Some h) still.time finds

    still_shut : IsShut (log.head ++ records (list_of disk log)) (disk.seen d) (disk.may_leave d)
    still_shut =
        let was = pairs.log_is.shut shut in
        record {
          gate = was.gate;
          closed = was.closed;
          each = λ c out. was.each c (elim out [ inl is ↦ inl (is ∙ still.seen_same) | inr left ↦ inr (still.crash c left) ]);
        }

    -- and then
    module _ (j : Journal D) (disk_is : j.disk ≡ d) (head_is : j.head ≡ log.head) (gate_is : j.gate ≡ log.gate) (ajar_is : j.ajar ≡ false) where
      logs : Logs disk j (list_of disk log)
      logs = closed_logs disk j d log.head log.gate disk_is head_is gate_is ajar_is (list_of disk log) (still.told pairs.log_is.told) pairs.log_is.fit pairs.log_is.gate pairs.log_is.small still_shut

      pub list_same : list_of disk j ≡ list_of disk log
      list_same = list_is disk j (list_of disk log) logs

      pub reread_holds : HoldsList disk j side store base packed end h
      reread_holds =
          pairs_log disk log j side store base packed end h h pairs head_is (subst (Logs disk j) (sym list_same) logs)
          (subst (λ (p : List Bytes). Follows base (packed_in store (disk.seen side)) p h) (sym list_same) pairs.follows)
