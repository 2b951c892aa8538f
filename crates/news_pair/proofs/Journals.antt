-- What the journal's parts leave, as a pair needs it.
use Rattle.std.proofs.Common.{◌≡◌, inl, inr, ℕ, ◌+◌, ◌≤◌, ◌<◌, ◌^◌, List, [], ◌∷◌, ◌++◌, length, get_or, take, drop, false, refl, sym, ◌∙◌, ap, subst, arith, append_assoc, length-append, length-take, length-drop, take-append-drop}
use Rattle.std.specs.Int.{w32, to_be_bytes}
use Rattle.std.proofs.lemmas.List.{take_at, drop_at, drop_more, nil_from_length}
use Rattle.news_types.specs.Names.{Bytes}
use Rattle.news_io.specs.Disk.{DiskMeaning, Torn, Only}
use Rattle.news_io.specs.declared.record.Record.{Record}
use Rattle.news_journal.specs.Log.{records, AllFit}
use Rattle.news_journal.specs.Read.{records_push, length-be}
use Rattle.news_journal.specs.Opened.{payloads, HoldsRecords}
use Rattle.news_journal.specs.Stands.{Outcome, IsShut, Logs}
use Rattle.news_journal.specs.declared.log.Journal.{Journal}

-- a journal whose gate is closed
module _ {D : Type 0} (disk : DiskMeaning D) (j : Journal D) (d : D) (head : List ℕ) (gate : ℕ)
    (disk_is : j.disk ≡ d) (head_is : j.head ≡ head) (gate_is : j.gate ≡ gate) (ajar_is : j.ajar ≡ false) where
  pub closed_logs : (ps : List Bytes) → disk.tells d → AllFit ps → gate ≡ length (head ++ records ps) → gate < 2 ^ 30 → IsShut (head ++ records ps) (disk.seen d) (disk.may_leave d) → Logs disk j ps
  closed_logs ps told fit place small shut = record {
    told = subst disk.tells (sym disk_is) told;
    fit = fit;
    gate = gate_is ∙ place ∙ ap (λ (h : List ℕ). length (h ++ records ps)) (sym head_is);
    small = subst (λ (g : ℕ). g < 2 ^ 30) (sym gate_is) small;
    shut = λ is.
        subst (λ (h : List ℕ). IsShut (h ++ records ps) (disk.seen j.disk) (disk.may_leave j.disk)) (sym head_is)
        (subst (λ (x : D). IsShut (head ++ records ps) (disk.seen x) (disk.may_leave x)) (sym disk_is) shut);
    ajar = λ is. absurd (cc (is, ajar_is));
  }

-- the records that were read
module _ (head file : List ℕ) (gate : ℕ) (rs : List Record) (is : take 64 file ≡ head) (holds : HoldsRecords file gate rs) where
  pub file_is : file ≡ (head ++ records (payloads rs)) ++ holds.byte ∷ holds.rest
  file_is = sym (take-append-drop 64 file) ∙ ap (λ (l : List ℕ). l ++ drop 64 file) is ∙ ap (λ (l : List ℕ). head ++ l) holds.split ∙ sym (append_assoc head (records (payloads rs)) (holds.byte ∷ holds.rest))

  long : length file ≡ 64 + (length (records (payloads rs)) + (length holds.rest + 1))
  long = omega (arith, ap length holds.split, length-drop 64 file, length-append (records (payloads rs)) (holds.byte ∷ holds.rest))

  pub opened_gate : gate ≡ length (head ++ records (payloads rs))
  opened_gate = omega (arith, holds.place, long, length-append head (records (payloads rs)), ap length is, length-take 64 file)

-- one record more is five bytes and its payload more
pub records_longer : (ps : List Bytes) (p : Bytes) → length (records (ps ++ p ∷ [])) ≡ length (records ps) + (5 + length p)
records_longer ps p =
    omega (arith, ap length (records_push ps p), length-append (records ps) (1 ∷ to_be_bytes w32 (length p) ++ p), length-append (to_be_bytes w32 (length p)) p, length-be (length p))

-- one outcome after a write of the gate
pub torn_gate : (base d tail c : List ℕ) (gate g : ℕ) → gate ≡ length base → d ≡ base ++ g ∷ tail → Torn gate 1 d c → c ≡ base ++ get_or c gate 0 ∷ tail
torn_gate base d tail c gate g is was torn =
    let long : length d ≡ gate + 1 + length tail = omega (arith, ap length was, length-append base (g ∷ tail)) in
    let front : take gate c ≡ base = torn.before gate (omega arith) (omega arith) ∙ ap (λ (l : List ℕ). take gate l) was ∙ take_at base (g ∷ tail) gate (sym is) in
    let split : base ++ g ∷ tail ≡ (base ++ g ∷ []) ++ tail = sym (append_assoc base (g ∷ []) tail) in
    let back : drop (gate + 1) c ≡ tail = torn.after ∙ ap (λ (l : List ℕ). drop (gate + 1) l) (was ∙ split) ∙ drop_at (base ++ g ∷ []) tail (gate + 1) (omega (arith, length-append base (g ∷ []))) in
    sym (take-append-drop gate c)
    ∙ ap (λ (l : List ℕ). l ++ drop gate c) front
    ∙ ap (λ (l : List ℕ). base ++ l) (drop_more c gate 0 (omega (arith, torn.no_shorter)) ∙ ap (λ (l : List ℕ). get_or c gate 0 ∷ l) back)

pub shut_long : (base seen : List ℕ) (m : List ℕ → Type 0) → IsShut base seen m → length base + 1 ≤ length seen
shut_long base seen m shut = let from = shut.each seen (inl refl) in omega (arith, ap length from.1, length-append base (shut.gate ∷ from.0))

-- an empty file is empty in each outcome
pub bare_file : {D : Type 0} (disk : DiskMeaning D) (d : D) → disk.tells d → disk.seen d ≡ [] → (c : List ℕ) → Outcome (disk.seen d) (disk.may_leave d) c → c ≡ []
bare_file disk d told empty c out = elim out [
  | inl same ↦ same ∙ empty
  | inr may ↦ nil_from_length c (let le : length c ≤ length (disk.seen d) = disk.no_longer d c told may in omega (arith, le, ap length empty))
]

-- the same file in each outcome
pub only_outcome : (seen : List ℕ) (m : List ℕ → Type 0) → Only seen m → (c : List ℕ) → Outcome seen m c → c ≡ seen
only_outcome seen m only c (inl now) = now
only_outcome seen m only c (inr left) = only c left
