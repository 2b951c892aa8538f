-- The first record that is of no entry.
use Rattle.std.proofs.Common.{◌≡◌, ℕ, suc, ◌+◌, ◌<◌, ◌≤◌, [], ◌∷◌, ◌++◌, List, length, take, drop, get_or, Bool, Option, refl, sym, ap, subst, ◌∙◌, drop-cons}
use Rattle.std.proofs.lemmas.List.{take_more, take_all, take-append-drop, map-append}
use Rattle.news_types.specs.declared.entry.Entry.{Entry}
use Rattle.news_types.specs.Names.{Bytes}
use Rattle.news_types.specs.Doubt.{payloads}
use Rattle.entry_codec.specs.Spelling.{entry_bytes}
use Rattle.entry_codec.specs.Formed.{IsEntry}
use Rattle.news_types.specs.History.{History}
use Rattle.news_io.specs.declared.record.Record.{Record}
use Rattle.room_standby.specs.Holds.{bytes_of, AreOf, IsOfEntry}
use Rattle.store_files.specs.declared.trouble.Trouble.{Trouble}
use Rattle.store_files.specs.declared.trouble.Trouble.TheVariants as trouble
use Rattle.standby_files.specs.Listing.{IsBadRecord, RecordCause, HasBadRecord, RecordsCause}

pub none_yet : AreOf [] []
none_yet = record { are = refl; entries = tt }

one_more : (front : List Record) (h : History) (r : Record) (e : Entry) → AreOf front h → IsEntry e → r.bytes ≡ entry_bytes e → AreOf (front ++ r ∷ []) (e ∷ h)
one_more front h r e a formed is = record {
  are = map-append bytes_of front (r ∷ []) ∙ ap (λ (l : List Bytes). l ++ r.bytes ∷ []) a.are ∙ ap (λ (x : Bytes). payloads entry_bytes h ++ x ∷ []) is;
  entries = (formed, a.entries);
}

pub are_more : (records : List Record) (i : ℕ) (r : Record) → i < length records → r ≡ get_or records i r → (h : History) → AreOf (take i records) h → IsOfEntry r.bytes → (g : History) × AreOf (take (i + 1) records) g
are_more records i r lt is h a e =
    let more : take (i + 1) records ≡ take i records ++ r ∷ [] = take_more records i r lt ∙ ap (λ (x : Record). take i records ++ x ∷ []) (sym is) in
    (e.0 ∷ h, subst (λ (rs : List Record). AreOf rs (e.0 ∷ h)) (sym more) (one_more (take i records) h r e.0 a e.1 e.2))

pub are_all : (records : List Record) (i : ℕ) (h : History) → length records ≤ i → AreOf (take i records) h → AreOf records h
are_all records i h past a = subst (λ (rs : List Record). AreOf rs h) (take_all i records past) a

module _ (records : List Record) (i : ℕ) (r : Record) (lt : i < length records) (is : r ≡ get_or records i r) (h : History) (before : AreOf (take i records) h) where
  split : records ≡ take i records ++ r ∷ drop (suc i) records
  split = sym (take-append-drop i records) ∙ ap (λ (l : List Record). take i records ++ l) (drop-cons records i r lt ∙ ap (λ (x : Record). x ∷ drop (suc i) records) (sym is))

  first_bad : (in_side : Bool) (at : ℕ) (found : Option ℕ) → IsBadRecord r in_side at found → HasBadRecord records in_side at found
  first_bad in_side at found bad = record {
    first = record { front = take i records; bad = r; rest = drop (suc i) records; is = split; list = h; before = before; here = bad.none; place = bad.place; gate = bad.gate };
    side_is = bad.side_is;
  }

  pub bad_record : (t : Trouble) → RecordCause r t → RecordsCause records t
  bad_record trouble.WrongStore bad = absurd bad
  bad_record trouble.Store bad = absurd bad
  bad_record (trouble.Damaged at found) bad = first_bad _ at found bad
  bad_record (trouble.DamagedSide at found) bad = first_bad _ at found bad
  bad_record trouble.Full bad = absurd bad
  bad_record trouble.Memory bad = tt
