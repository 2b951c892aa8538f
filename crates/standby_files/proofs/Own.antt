-- The standby of files that are a newsroom's, or why there is none.
use Rattle.std.proofs.Common.{◌≡◌, ◌⊎◌, inl, inr, ℕ, ◌+◌, List, [], length, take, refl, sym, ◌∙◌, ap, subst}
use Rattle.news_types.specs.Names.{Bytes}
use Rattle.news_types.specs.History.{History}
use Rattle.news_types.specs.Doubt.{payloads}
use Rattle.entry_codec.specs.Spelling.{entry_bytes}
use Rattle.news_io.specs.Disk.{DiskMeaning, DiskGains}
use Rattle.news_io.specs.declared.record.Record.{Record}
use Rattle.news_io.proofs.Runs.{elapses_weaker}
use Rattle.news_journal.specs.Log.{records, room_head, IsHead}
use Rattle.news_journal.specs.Opened as journal
use Rattle.news_journal.specs.declared.header.Header.TheVariants as header
use Rattle.news_journal.proofs.Opens.{OpensAs, opens_log, form_fits}
use Rattle.news_pair.specs.Pair.{edition_of, base_bytes}
use Rattle.news_pair.specs.Keeper.{pair_of}
use Rattle.news_pair.specs.Stands.{log_disk, side_disk}
use Rattle.news_pair.specs.declared.pair.Pair.{Pair}
use Rattle.news_pair.proofs.WereRead.{six_bytes}
use Rattle.news_room.proofs.Lists.{same_list}
use Rattle.room_standby.specs.Holds.{AreOf, Keeps, OpensTo}
use Rattle.room_standby.specs.declared.standby.Standby.{Standby}
use Rattle.store_files.specs.Files.{FilesHold}
use Rattle.store_files.specs.Kinds.{IsOfStore}
use Rattle.store_files.specs.Store.{Opens, IsRefused, Reopens, TroubleCounts}
use Rattle.store_files.specs.Store as files
use Rattle.store_files.specs.declared.trouble.Trouble.{Trouble}
use Rattle.store_files.specs.declared.trouble.Trouble.TheVariants as trouble
use Rattle.store_files.proofs.Holding.{calls_shut}
use Rattle.standby_files.specs.Kinds.{OwnCause, IsOwnRefused, IsOwnStandby}
use Rattle.standby_files.specs.Listing.{IsListed}
use Rattle.standby_files.specs.declared.listing.Listed.{Listed}
use Rattle.standby_files.proofs.Second.{still_opens}

-- files that open to a list of a store have its header
pub opens_of : (log side store : List ℕ) (h : History) → length store ≡ 16 → Opens log side store h → IsOfStore store log
opens_of log side store h long o =
    let Head : List ℕ = room_head (edition_of log) (base_bytes log) store in
    let head : IsHead (header.Room store) Head = (edition_of log, base_bytes log, o.pair.edition, six_bytes log store o.pair.tail long o.pair.log_is, refl) in
    let of : OpensAs (header.Room store) o.pair.tail log = opens_log (header.Room store) Head o.pair.tail log long head o.pair.log_is in
    (form_fits (header.Room store) (take 64 log) long of.log.head, of.log.head)

module _ {D : Type 0} (disk : DiskMeaning D) (store : Bytes) (log side : D) where
  own_cause : (t : Trouble) → files.Cause (disk.seen log) (disk.seen side) t → OwnCause disk store log side t
  own_cause trouble.WrongStore cause = inl cause
  own_cause trouble.Store cause = cause
  own_cause (trouble.Damaged at found) cause = cause
  own_cause (trouble.DamagedSide at found) cause = cause
  own_cause trouble.Full cause = cause
  own_cause trouble.Memory cause = cause

  -- there is no list
  pub none_refused : (log' side' : D) (t : Trouble) → IsRefused disk log side log' side' t → IsOwnRefused disk store log side log' side' t
  none_refused log' side' t r = record {
    cause = λ told told'. own_cause t (r.cause told told');
    count = r.count;
    wrong = λ is told told'. inl (r.wrong is told told');
    crash = r.crash;
    still = r.still;
  }

  module _ (l : Listed D) (a : IsListed disk log side l) where
    of_log : disk.tells log → disk.tells side → IsOfStore l.store (disk.seen log)
    of_log told told' =
        subst (λ (s : Bytes). IsOfStore s (disk.seen log)) (sym (a.store_is told told')) (opens_of (disk.seen log) (disk.seen side) a.opened.store a.opened.history a.opened.long (a.opened.bytes told told'))

    reopens : disk.tells log → disk.tells side → Reopens disk log side (log_disk l.pair) (side_disk l.pair)
    reopens told told' = elapses_weaker _ _ _ _ _ _ (a.crash told told') (λ c gained. elim gained [
      | inl left ↦ inl left
      | inr opens ↦ inr (still_opens (disk.seen log) (disk.seen side) a.opened.store a.opened.history a.opened.long (a.opened.bytes told told') (disk.may_leave (side_disk l.pair)) c opens)
    ])

    -- it is another store's
    pub other_refused : (log' side' : D) → log' ≡ log_disk l.pair → side' ≡ side_disk l.pair → (l.store ≡ store → ⊥) → IsOwnRefused disk store log side log' side' trouble.WrongStore
    other_refused log' side' same same' other =
        subst (λ (d : D). IsOwnRefused disk store log side d side' trouble.WrongStore) (sym same) (subst (λ (d : D). IsOwnRefused disk store log side (log_disk l.pair) d trouble.WrongStore) (sym same') (record {
          cause = λ told told'. inr (record { owner = l.store; of = of_log told told'; other = other });
          count = a.calm;
          wrong = λ is told told'. inr (record { owner = l.store; of = of_log told told'; other = other });
          crash = reopens;
          still = a.still;
        }))

    -- there was no memory for it
    pub memory_refused : (log' side' : D) (t : Trouble) → log' ≡ log_disk l.pair → side' ≡ side_disk l.pair → t ≡ trouble.Memory → IsOwnRefused disk store log side log' side' t
    memory_refused log' side' t same same' is =
        subst (λ (x : Trouble). IsOwnRefused disk store log side log' side' x) (sym is)
        (subst (λ (d : D). IsOwnRefused disk store log side d side' trouble.Memory) (sym same) (subst (λ (d : D). IsOwnRefused disk store log side (log_disk l.pair) d trouble.Memory) (sym same') (record {
          cause = λ told told'. tt;
          count = a.calm;
          wrong = λ wrong told told'. absurd (cc wrong);
          crash = reopens;
          still = a.still;
        })))

    module _ (same_store : l.store ≡ store) (rs : List Record) (same : rs ≡ l.records) (s : Standby (Pair D)) (o : OpensTo (pair_of disk) l.pair rs s) where
      abbrev list : History
      list = o.list

      are : AreOf l.records list
      are = subst (λ (x : List Record). AreOf x list) same o.are

      lists_are : disk.tells log → disk.tells side → a.opened.history ≡ list
      lists_are told told' =
          let theirs = a.are in
          let mine = are in
          sym (a.list_is told told') ∙ same_list a.list list theirs.entries mine.entries (sym theirs.are ∙ mine.are)

      stores_are : disk.tells log → disk.tells side → a.opened.store ≡ store
      stores_are told told' = sym (a.store_is told told') ∙ same_store

      opens_so : (both : List ℕ × List ℕ) → disk.tells log → disk.tells side → Opens both.0 both.1 a.opened.store a.opened.history → Opens both.0 both.1 store list
      opens_so both told told' opens = subst (λ (b : Bytes). Opens both.0 both.1 b list) (stores_are told told') (subst (λ (h : History). Opens both.0 both.1 a.opened.store h) (lists_are told told') opens)

      payloads_are : journal.payloads l.records ≡ payloads entry_bytes list
      payloads_are = let mine = are in mine.are

      none_in_doubt : (x : Bytes) → (pair_of disk).doubts l.pair x → ⊥
      none_in_doubt x d = calls_shut l.pair.log.ajar a.quiet d.is_ajar

      keeps : disk.tells log → disk.tells side → Keeps (pair_of disk) l.pair (record { list = list; doubt = [] })
      keeps told told' = record { told = a.tells told told'; is = a.told told told' ∙ payloads_are; doubts = λ x d. absurd (none_in_doubt x d) }

      pub own_standby : IsOwnStandby disk store log side s
      own_standby = record {
        list = list;
        opens = λ told told'. opens_so (disk.seen log, disk.seen side) told told' (a.opened.bytes told told');
        stands = λ told only. record {
          server = record { list = list; doubt = [] };
          holds = o.holds told [] tt (λ is. let both = only is in keeps both.0 both.1);
          are = refl;
        };
        label = ap (pair_of disk).label o.same ∙ a.label ∙ same_store;
        quiet = ap (pair_of disk).most_calls o.same ∙ a.quiet;
        used = ap (pair_of disk).used o.same ∙ a.used ∙ ap (λ (x : List Bytes). 65 + length (records x)) payloads_are;
        calm = ap (pair_of disk).faults o.same ∙ a.calm;
        files = λ told told'. subst (λ (p : Pair D). FilesHold disk (log_disk p) (side_disk p) store list) (sym o.same) (λ both may. opens_so both told told' (a.files told told' both may));
        crash = λ told told'. subst (λ (p : Pair D). DiskGains disk log (log_disk p) (λ c. disk.may_leave log c ⊎ ((s' : List ℕ) → disk.may_leave (side_disk p) s' → Opens c s' store list))) (sym o.same)
            (elapses_weaker _ _ _ _ _ _ (a.crash told told') (λ c gained. elim gained [ inl left ↦ inl left | inr opens ↦ inr (λ s' left. opens_so (c, s') told told' (opens s' left)) ]));
        still = λ told'. subst (λ (p : Pair D). journal.Still disk side (side_disk p)) (sym o.same) (a.still told');
      }
