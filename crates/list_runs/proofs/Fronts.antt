-- The first entries of a list, and their records.
use Rattle.std.proofs.Common.{◌≡◌, ℕ, ◌≤◌, Bool, true, false, cond, List, [], ◌∷◌, ◌++◌, length, take, map, min, refl, sym, ap, subst, ◌∙◌, arith}
use Rattle.std.specs.Prelude.{nat_lt}
use Rattle.std.proofs.lemmas.Bool.Decides.{nat_tests}
use Rattle.std.proofs.lemmas.List.{take_all, take-append-le, take-map, take_min}
use Rattle.news_types.specs.declared.entry.Entry.{Entry}
use Rattle.news_types.specs.Names.{Bytes}
use Rattle.news_types.specs.History.{History}
use Rattle.news_types.specs.Doubt.{payloads}
use Rattle.news_types.specs.Legal.{IsLegal}
use Rattle.news_types.specs.Members.{Each}
use Rattle.news_io.specs.declared.record.Record.{Record}
use Rattle.entry_codec.specs.Spelling.{entry_bytes}
use Rattle.entry_codec.specs.Formed.{IsEntry}
use Rattle.news_room.specs.Log.{OpensTo}
use Rattle.news_room.specs.Opening.{bytes_of}
use Rattle.news_room.proofs.Lists.{same_list, counted}
use Rattle.list_runs.specs.Lists.{first_entries, AreOf}

-- ---- the list is its first entries, and what followed them

later_by : (e : Entry) (h g : History) (b : Bool) → ((later : List Entry) × (h ≡ later ++ g)) → (later : List Entry) × (e ∷ h ≡ later ++ cond b (e ∷ h) g)
later_by e h g true rest = ([], refl)
later_by e h g false rest = (e ∷ rest.0, ap (λ (l : History). e ∷ l) rest.1)

pub later_entries : (n : ℕ) (h : History) → (later : List Entry) × (h ≡ later ++ first_entries n h)
later_entries n [] = ([], refl)
later_entries n (e ∷ h) = later_by e h (first_entries n h) (nat_lt (length h) n) (later_entries n h)

-- ---- they are legal, and within the limits

legal_by : (e : Entry) (h g : History) (b : Bool) → IsLegal (e ∷ h) → IsLegal g → IsLegal (cond b (e ∷ h) g)
legal_by e h g true legal rest = legal
legal_by e h g false legal rest = rest

legal_first : (n : ℕ) (h : History) → IsLegal h → IsLegal (first_entries n h)
legal_first n [] legal = legal
legal_first n (e ∷ h) legal = legal_by e h (first_entries n h) (nat_lt (length h) n) legal (legal_first n h legal.0)

formed_by : (e : Entry) (h g : History) (b : Bool) → Each IsEntry (e ∷ h) → Each IsEntry g → Each IsEntry (cond b (e ∷ h) g)
formed_by e h g true formed rest = formed
formed_by e h g false formed rest = rest

formed_first : (n : ℕ) (h : History) → Each IsEntry h → Each IsEntry (first_entries n h)
formed_first n [] formed = formed
formed_first n (e ∷ h) formed = formed_by e h (first_entries n h) (nat_lt (length h) n) formed (formed_first n h formed.1)

-- ---- their records are the first

payloads_by : (n : ℕ) (e : Entry) (h : History) (b : Bool) → nat_lt (length h) n ≡ b → take n (payloads entry_bytes h) ≡ payloads entry_bytes (first_entries n h)
    → take n (payloads entry_bytes h ++ entry_bytes e ∷ []) ≡ payloads entry_bytes (cond b (e ∷ h) (first_entries n h))
payloads_by n e h true is rest =
    let few : length (payloads entry_bytes h ++ entry_bytes e ∷ []) ≤ n = grind (arith, nat_tests, is, counted (e ∷ h)) in
    take_all n (payloads entry_bytes h ++ entry_bytes e ∷ []) few
payloads_by n e h false is rest =
    let within : n ≤ length (payloads entry_bytes h) = grind (arith, nat_tests, is, counted h) in
    take-append-le n (payloads entry_bytes h) (entry_bytes e ∷ []) within ∙ rest

payloads_first : (n : ℕ) (h : History) → take n (payloads entry_bytes h) ≡ payloads entry_bytes (first_entries n h)
payloads_first n [] = take_all n [] (omega arith)
payloads_first n (e ∷ h) = payloads_by n e h (nat_lt (length h) n) refl (payloads_first n h)

pub records_first : (records : List Record) (n : ℕ) (h : History) → AreOf records h → AreOf (take n records) (first_entries n h)
records_first records n h are = record {
  is = sym (take-map bytes_of n records) ∙ ap (take n) are.is ∙ payloads_first n h;
  kept = record { legal = legal_first n h are.kept.legal; formed = formed_first n h are.kept.formed };
}

-- ---- no other list has them

pub same_history : (bytes : List Bytes) (g h : History) → OpensTo bytes g → OpensTo bytes h → g ≡ h
same_history bytes g h one other = same_list g h one.kept.formed other.kept.formed (sym one.is ∙ other.is)

-- a list that the first records open to
pub is_first : (records : List Record) (n : ℕ) (g h : History) → AreOf records h → OpensTo (map bytes_of (take n records)) g → g ≡ first_entries n h
is_first records n g h are opens = same_history (map bytes_of (take n records)) g (first_entries n h) opens (records_first records n h are)

-- which is what went before
pub went_before : (records : List Record) (n : ℕ) (g h : History) → AreOf records h → OpensTo (map bytes_of (take n records)) g → (later : List Entry) × (h ≡ later ++ g)
went_before records n g h are opens =
    let later = later_entries n h in
    (later.0, later.1 ∙ ap (λ (l : History). later.0 ++ l) (sym (is_first records n g h are opens)))

-- those of so many records, or of all where there are fewer
pub most_first : (records : List Record) (n most : ℕ) (g h : History) → most ≡ min (length records) n → AreOf records h → OpensTo (map bytes_of (take most records)) g → g ≡ first_entries n h
most_first records n most g h is are opens =
    let turned : most ≡ min n (length records) = omega (arith, is) in
    let same : take most records ≡ take n records = ap (λ (k : ℕ). take k records) turned ∙ take_min n records in
    is_first records n g h are (subst (λ (l : List Record). OpensTo (map bytes_of l) g) same opens)
