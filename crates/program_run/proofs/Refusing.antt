-- Files that do not serve, said of their bytes.
use Rattle.std.proofs.Common.{◌≡◌, ◌⊎◌, inl, inr, ℕ, Bool, true, false, List, [], ◌∷◌, map, Option, Some, None, refl, sym, ◌∙◌, ap, subst}
use Rattle.std.specs.Option.{option_map}
use Rattle.std.proofs.lemmas.List.{map-append}
use Rattle.news_types.specs.History.{History}
use Rattle.news_types.specs.Names.{Bytes}
use Rattle.news_io.specs.Outside.{Meanings, Outside, store_faults}
use Rattle.news_io.specs.declared.record.Record.{Record}
use Rattle.news_io.proofs.Runs.{elapses_weaker}
use Rattle.news_journal.specs.Opened.{payloads}
use Rattle.news_pair.specs.Opened.{OpensStill}
use Rattle.news_pair.specs.Placed.{pair_records}
use Rattle.news_pair.specs.declared.fault.PairFault.TheVariants as fault
use Rattle.news_room.specs.Opening as room
use Rattle.newsdesk_cli.specs.Opened as opened
use Rattle.program_run.specs.Damage.{Stored, Damage, InLog, InSide, pair_damage, bytes_of, IsNoEntry, IsUnlawful, HasBadRecord, HasNoList}
use Rattle.program_run.specs.Opens.{Holds}
use Rattle.program_run.specs.Refused.{Cause, Counts, HoldsStill, NotOpened}
use Rattle.program_run.specs.Finding.{the_finders}
use Rattle.program_run.proofs.Damaging.{the_readers, turned, damage_is, stored_of, placed_is}
use Rattle.program_run.proofs.Opening.{holds_so, opens_so}
use Rattle.run_status.specs.declared.status.Status.TheVariants as status
use Rattle.store_files.specs.Store as store
use Rattle.store_files.specs.Trouble.{status_of}
use Rattle.store_files.specs.declared.trouble.Trouble.{Trouble}
use Rattle.store_files.specs.declared.trouble.Trouble.TheVariants as trouble

-- ---- damage

in_log : (d : Option Damage) (at : ℕ) (found : Option ℕ) → option_map turned d ≡ Some (fault.Damaged at found) → d ≡ Some (InLog (at, found))
in_log None at found is = absurd (cc is)
in_log (Some (InLog place)) at found is =
    let first : place.0 ≡ at = cc in
    let second : place.1 ≡ found = cc in
    ap (λ (n : ℕ). Some (InLog (n, place.1))) first ∙ ap (λ (o : Option ℕ). Some (InLog (at, o))) second
in_log (Some (InSide place)) at found is = absurd (cc is)

in_side : (d : Option Damage) (at : ℕ) (found : Option ℕ) → option_map turned d ≡ Some (fault.DamagedSide at found) → d ≡ Some (InSide (at, found))
in_side None at found is = absurd (cc is)
in_side (Some (InLog place)) at found is = absurd (cc is)
in_side (Some (InSide place)) at found is =
    let first : place.0 ≡ at = cc in
    let second : place.1 ≡ found = cc in
    ap (λ (n : ℕ). Some (InSide (n, place.1))) first ∙ ap (λ (o : Option ℕ). Some (InSide (at, o))) second

pub none_turned : (d : Option Damage) → option_map turned d ≡ None → d ≡ None
none_turned None is = refl
none_turned (Some d) is = absurd (cc is)

pub bytes_are : (rs : List Record) → map bytes_of (map stored_of rs) ≡ payloads rs
bytes_are [] = refl
bytes_are (r ∷ rs) = ap (λ (l : List Bytes). r.bytes ∷ l) (bytes_are rs)

same_damage : (list : History) (r : Record) (at : ℕ) (found : Option ℕ) → room.IsDamage list r at found → IsNoEntry (stored_of r) at found ⊎ IsUnlawful list (stored_of r) at found
same_damage list r at found (inl none) = inl (record { place = none.place; fault = none.fault; at_is = none.at_is; found_is = none.found_is })
same_damage list r at found (inr u) = inr (record { next = u.next; is = u.is; entry = u.entry; unlawful = u.unlawful; at_is = u.at_is; found_is = u.found_is })

bad_record : (rs : List Record) (side : Bool) (at : ℕ) (found : Option ℕ) → room.HasBadRecord rs side at found → HasBadRecord (map stored_of rs) side at found
bad_record rs side at found bad = record {
  before = map stored_of bad.before;
  here = stored_of bad.here;
  later = map stored_of bad.after;
  are = ap (map stored_of) bad.are ∙ map-append stored_of bad.before (bad.here ∷ bad.after);
  list = bad.list;
  opens = bytes_are bad.before ∙ bad.opens.is;
  stored = bad.opens.kept;
  file_is = bad.file_is;
  damage = same_damage bad.list bad.here at found bad.damage;
}

module _ (log side : List ℕ) where
  no_list : (of_side : Bool) (at : ℕ) (found : Option ℕ) → store.HasNoList log side of_side at found → HasNoList the_readers log side of_side at found
  no_list of_side at found none = record {
    whole = none_turned (pair_damage the_readers log side) (sym (damage_is log side) ∙ none.whole);
    store = none.store;
    long = none.long;
    holds = λ ib. subst (Holds log side none.store) (sym (bytes_are (pair_records log side)) ∙ ap (map bytes_of) (placed_is log side)) (holds_so none.store none.long log side (payloads (pair_records log side)) ib none.pair);
    bad = subst (λ (rs : List Stored). HasBadRecord rs of_side at found) (placed_is log side) (bad_record (pair_records log side) of_side at found none.damage);
  }

  pub cause_is : (t : Trouble) → store.Cause log side t → Cause the_finders (log, side) (status_of t)
  cause_is trouble.WrongStore cause = cause
  cause_is trouble.Store cause = tt
  cause_is (trouble.Damaged at found) cause = record {
    own = cause.1;
    readers = the_readers;
    find_is = refl;
    shown = elim cause.0 [
      | inl row ↦ inl (in_log (pair_damage the_readers log side) at found (sym (damage_is log side) ∙ row))
      | inr none ↦ inr (no_list false at found none)
    ];
  }
  cause_is (trouble.DamagedSide at found) cause = record {
    own = cause.1;
    readers = the_readers;
    find_is = refl;
    shown = elim cause.0 [
      | inl row ↦ inl (in_side (pair_damage the_readers log side) at found (sym (damage_is log side) ∙ row))
      | inr none ↦ inr (no_list true at found none)
    ];
  }
  cause_is trouble.Full cause = absurd cause
  cause_is trouble.Memory cause = tt

-- ---- counts, and what is told

pub counts_are : (before now : ℕ) (t : Trouble) → store.TroubleCounts before now t → Counts before now (status_of t)
counts_are before now trouble.WrongStore counts = counts
counts_are before now trouble.Store counts = counts
counts_are before now (trouble.Damaged at found) counts = counts
counts_are before now (trouble.DamagedSide at found) counts = counts
counts_are before now trouble.Full counts = counts
counts_are before now trouble.Memory counts = counts

pub is_wrong : (t : Trouble) → status_of t ≡ status.WrongStore → t ≡ trouble.WrongStore
is_wrong trouble.WrongStore is = refl
is_wrong trouble.Store is = absurd (cc is)
is_wrong (trouble.Damaged at found) is = absurd (cc is)
is_wrong (trouble.DamagedSide at found) is = absurd (cc is)
is_wrong trouble.Full is = absurd (cc is)
is_wrong trouble.Memory is = absurd (cc is)

-- ---- all of it

module _ {D S O C L : Type 0} (m : Meanings D S O C L) (before after : Outside D S O C L) (number : ℕ) where
  still_holds : (file : List ℕ) → m.disk.may_leave before.log file ⊎ OpensStill (m.disk.seen before.log) (m.disk.seen before.side) (m.disk.may_leave after.side) file → m.disk.may_leave before.log file ⊎ HoldsStill m before after file
  still_holds file (inl left) = inl left
  still_holds file (inr opens) = inr (λ side left id long all bytes holds.
      holds_so id long file side all bytes.1 (opens side left id long all (opens_so id long (m.disk.seen before.log) (m.disk.seen before.side) all holds)))

  pub not_opened : opened.NotOpened m.disk m.sink before.log after.log before.side after.side before.output after.output number → after.input ≡ before.input → after.clock ≡ before.clock → after.links ≡ before.links
      → NotOpened the_finders m before after number
  not_opened refused input clock links =
      let r = refused.refused in
      record {
        why = status_of refused.why;
        number_is = refused.stopped.status_is;
        cause = λ tell. cause_is (m.disk.seen before.log) (m.disk.seen before.side) refused.why (r.cause tell.log tell.side);
        counts = counts_are (store_faults m before) (store_faults m after) refused.why r.count;
        line = refused.stopped.line;
        input = input;
        clock = clock;
        links = links;
        side = r.still;
        other = λ wrong tell. r.wrong (is_wrong refused.why wrong) tell.log tell.side;
        log = λ tell. elapses_weaker _ _ _ _ _ _ (r.crash tell.log tell.side) still_holds;
      }
