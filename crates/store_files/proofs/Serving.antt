-- Files that open to a list are not refused for their bytes.
use Rattle.std.proofs.Common.{◌≡◌, ◌⊎◌, inl, inr, ℕ, zero, suc, ◌≤◌, ◌<◌, Bool, true, false, List, [], ◌∷◌, ◌++◌, length, take, drop, get_or, map, Option, Some, None, refl, sym, ◌∙◌, ap, subst, arith}
use Rattle.std.specs.Prelude.{slice_index}
use Rattle.std.proofs.lemmas.List.{take_at}
use Rattle.news_types.specs.Names.{Bytes}
use Rattle.news_types.specs.History.{History}
use Rattle.news_types.specs.Doubt as doubt
use Rattle.entry_codec.specs.Spelling.{entry_bytes}
use Rattle.news_io.specs.declared.record.Record.{Record}
use Rattle.news_journal.specs.Log.{room_head, IsHead}
use Rattle.news_journal.specs.Opened.{payloads}
use Rattle.news_journal.specs.declared.header.Header.TheVariants as header
use Rattle.news_journal.proofs.Opens.{OpensAs, opens_log, form_fits}
use Rattle.news_pair.specs.Pair.{side_head, edition_of, base_bytes, PairOpens}
use Rattle.news_pair.specs.Damage.{pair_damage}
use Rattle.news_pair.specs.Packing.{pack_damage}
use Rattle.news_pair.specs.Law.{opened_begins, opened_long, length-side, opens_one}
use Rattle.news_pair.proofs.Undamaged.{undamaged, packable}
use Rattle.news_pair.proofs.WereRead.{six_bytes, one_store}
use Rattle.news_room.specs.Log.{IsStored}
use Rattle.news_room.specs.Opening.{bytes_of, HasBadRecord}
use Rattle.news_room.proofs.Lists.{same_list, same_entry}
use Rattle.store_files.specs.Kinds.{IsReceivers, IsOfStore, IsOtherLog, side_form, IsOtherSide, IsOther}
use Rattle.news_pair.specs.Placed.{pair_records}
use Rattle.store_files.specs.Store.{Opens, HasNoList, Cause, IsNotOfBytes}
use Rattle.store_files.specs.declared.trouble.Trouble.{Trouble}
use Rattle.store_files.specs.declared.trouble.Trouble.TheVariants as trouble
use Rattle.store_files.proofs.Headers.{other_kind, same_store, owner_there}
use Rattle.store_files.proofs.Listing.{forward, forward_payloads, forward_each, forward_in_time, member}

first_kept : (n : ℕ) (file : List ℕ) → get_or (take (suc n) file) 0 0 ≡ get_or file 0 0
first_kept n [] = refl
first_kept n (b ∷ file) = refl

side_head_form : (store : Bytes) → side_head store ≡ side_form 3 store
unfolding side_head
side_head_form store = refl

split_records : (before : List Record) (here : Record) (after : List Record) → payloads (before ++ here ∷ after) ≡ map bytes_of before ++ here.bytes ∷ payloads after
split_records [] here after = refl
split_records (r ∷ before) here after = ap (λ (l : List Bytes). r.bytes ∷ l) (split_records before here after)

module _ (log side : List ℕ) (store : Bytes) (h : History) (long : length store ≡ 16) (o : Opens log side store h) where
  abbrev Head : List ℕ
  Head = room_head (edition_of log) (base_bytes log) store

  is_head : IsHead (header.Room store) Head
  is_head = (edition_of log, base_bytes log, o.pair.edition, six_bytes log store o.pair.tail long o.pair.log_is, refl)

  of_log : OpensAs (header.Room store) o.pair.tail log
  of_log = opens_log (header.Room store) Head o.pair.tail log long is_head o.pair.log_is

  of_store : IsOfStore store log
  of_store = (form_fits (header.Room store) (take 64 log) long of_log.log.head, of_log.log.head)

  opens_forward : PairOpens store log side (map entry_bytes (forward h))
  opens_forward = subst (PairOpens store log side) (forward_payloads h) o.pair

  pub whole : pair_damage log side ≡ None
  whole = undamaged store log side (forward h) long (forward_each h o.kept.formed) opens_forward

  pub can_be_packed : pack_damage log ≡ None
  can_be_packed = packable store log side (forward h) long (forward_each h o.kept.formed) opens_forward (forward_in_time h o.kept.legal)

  -- ---- no other's files

  no_other_log : IsOtherLog log → ⊥
  no_other_log (inl none) = let more = opened_long Head log o.pair.tail o.pair.log_is in omega (arith, more, ap length none)
  no_other_log (inr r) = other_kind r.0 store (take 64 log) r.2 of_log.log.head

  no_other_side : IsOtherSide store side → ⊥
  no_other_side other = elim o.pair.side_is [
    | inl bare ↦ elim bare [
      | inl short ↦ let some = other.some in omega (arith, some, short)
      | inr no_n ↦ no_n (sym (first_kept 63 side) ∙ ap (λ (l : List ℕ). get_or l 0 0) other.head)
    ]
    | inr file ↦
        let begins = opened_begins (side_head store) side file.segments file.is in
        let same : side_form other.kind other.owner ≡ side_form 3 store =
        sym other.head ∙ ap (take 64) begins.1 ∙ take_at (side_head store) begins.0 64 (length-side store long) ∙ side_head_form store in
        other.other
        (ap (λ (l : List ℕ). slice_index l 9) same)
        (sym (owner_there other.kind other.owner other.long) ∙ ap (λ (l : List ℕ). take 16 (drop 16 l)) same ∙ owner_there 3 store long)
  ]

  pub no_other : IsOther log side → ⊥
  no_other (inl other) = no_other_log other
  no_other (inr found) = no_other_side (subst (λ (s : Bytes). IsOtherSide s side) (same_store found.0 store log found.1 of_store) found.2)

  -- ---- each record is an entry that may follow

  records_are : (store' : Bytes) (rs : List Record) → length store' ≡ 16 → PairOpens store' log side (payloads rs) → doubt.payloads entry_bytes h ≡ payloads rs
  records_are store' rs long' opens =
      let same = one_store log store' store opens.tail o.pair.tail long' long opens.log_is o.pair.log_is in
      opens_one store log side (doubt.payloads entry_bytes h) (payloads rs) o.pair (subst (λ (s : Bytes). PairOpens s log side (payloads rs)) same opens)

  no_damage : (rs : List Record) (in_side : Bool) (at : ℕ) (found : Option ℕ) → doubt.payloads entry_bytes h ≡ payloads rs → HasBadRecord rs in_side at found → ⊥
  no_damage rs in_side at found are d =
      let m = member h (map bytes_of d.before) d.here.bytes (payloads d.after) o.kept (are ∙ ap payloads d.are ∙ split_records d.before d.here d.after) in
      elim d.damage [
        | inl no_entry ↦ no_entry.fault.none m.entry m.kept.formed.0 m.entry_is
        | inr unlawful ↦
            let list = same_list m.list d.list m.kept.formed.1 d.opens.kept.formed (m.list_is ∙ d.opens.is) in
            let next = same_entry m.entry unlawful.next m.kept.formed.0 unlawful.entry (m.entry_is ∙ unlawful.is) in
            unlawful.unlawful (subst (λ e. IsStored (e ∷ d.list)) next (subst (λ (l : History). IsStored (m.entry ∷ l)) list m.kept))
      ]

  has_list : (in_side : Bool) (at : ℕ) (found : Option ℕ) → HasNoList log side in_side at found → ⊥
  has_list in_side at found none = no_damage (pair_records log side) in_side at found (records_are none.store (pair_records log side) none.long none.pair) none.damage

  -- what is left is a disk, or memory
  pub served : (t : Trouble) → Cause log side t → IsNotOfBytes t
  served trouble.WrongStore cause = absurd (no_other cause)
  served trouble.Store cause = tt
  served (trouble.Damaged at found) cause = elim cause.0 [ inl damage ↦ absurd (cc (sym whole ∙ damage)) | inr none ↦ absurd (has_list false at found none) ]
  served (trouble.DamagedSide at found) cause = elim cause.0 [ inl damage ↦ absurd (cc (sym whole ∙ damage)) | inr none ↦ absurd (has_list true at found none) ]
  served trouble.Full cause = absurd cause
  served trouble.Memory cause = tt
