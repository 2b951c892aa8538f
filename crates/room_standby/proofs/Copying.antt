-- The records so far, and one more.
use Rattle.std.proofs.Common.{◌≡◌, ℕ, suc, ◌<◌, ◌≤◌, ◌+◌, List, [], ◌∷◌, ◌++◌, length, take, drop, get_or, Err, refl, sym, ap, subst, ◌∙◌, drop-cons}
use Rattle.std.proofs.lemmas.List.{take_more, take_all, take-append-drop}
use Rattle.news_types.specs.History.{History}
use Rattle.news_io.specs.declared.record.Record.{Record}
use Rattle.room_standby.specs.declared.standby.StandbyFault.{StandbyFault}
use Rattle.room_standby.specs.declared.standby.StandbyFault.TheVariants.{Damaged, Memory}
use Rattle.room_standby.specs.Holds.{AreOf, IsOfEntry, IsEntryRecord, IsFault}
use Rattle.room_standby.proofs.Standing.{one_more}

pub none_yet : AreOf [] []
none_yet = record { are = refl; entries = tt }

module _ (records : List Record) (i : ℕ) (r : Record) (lt : i < length records) (is : r ≡ get_or records i r) where
  pub taken_more : take (i + 1) records ≡ take i records ++ r ∷ []
  taken_more = take_more records i r lt ∙ ap (λ (x : Record). take i records ++ x ∷ []) (sym is)

  pub are_more : (h : History) → AreOf (take i records) h → IsOfEntry r.bytes → (g : History) × AreOf (take (i + 1) records) g
  are_more h a e = (e.0 ∷ h, subst (λ (rs : List Record). AreOf rs (e.0 ∷ h)) (sym taken_more) (one_more (take i records) h r e.0 a e.1 e.2))

  pub bad_here : (h : History) → AreOf (take i records) h → (fault : StandbyFault) → IsEntryRecord r (Err fault) → IsFault records fault
  bad_here h a (Damaged at found) wrong = record {
    front = take i records;
    bad = r;
    rest = drop (suc i) records;
    is = sym (take-append-drop i records) ∙ ap (λ (l : List Record). take i records ++ l) (drop-cons records i r lt ∙ ap (λ (x : Record). x ∷ drop (suc i) records) (sym is));
    list = h;
    before = a;
    here = wrong.0;
    place = wrong.1;
    gate = wrong.2;
  }
  bad_here h a Memory wrong = tt

pub are_all : (records : List Record) (i : ℕ) (h : History) → length records ≤ i → AreOf (take i records) h → AreOf records h
are_all records i h past a = subst (λ (rs : List Record). AreOf rs h) (take_all i records past) a

pub copied_all : (records copied : List Record) (i : ℕ) → length records ≤ i → copied ≡ take i records → copied ≡ records
copied_all records copied i past same = same ∙ take_all i records past
