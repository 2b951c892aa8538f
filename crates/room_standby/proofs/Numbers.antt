-- The lines that are shipped are those of the list's entries, by their numbers.
use Rattle.std.proofs.Common.{◌≡◌, ◌<◌, ◌+◌, ℕ, suc, true, false, ⊎_elim, Option, Some, None, List, [], ◌∷◌, ◌++◌, length, get_or, map, refl, sym, ap, ◌∙◌, arith}
use Rattle.std.specs.Prelude.{nat_le, slice_get}
use Rattle.std.specs.Option.{unwrap_or, option_map}
use Rattle.std.proofs.lemmas.Bool.{cases_lt}
use Rattle.std.proofs.lemmas.Bool.Decides.{nat_tests}
use Rattle.std.proofs.lemmas.List.{get_or_append_left}
use Rattle.std.proofs.lemmas.Option.{slice_get-map, unwrap_or-slice_get}
use Rattle.std.proofs.Math.Seq.{get_or-append_seam}
use Rattle.news_types.specs.declared.entry.Entry.{Entry}
use Rattle.news_types.specs.Names.{Bytes}
use Rattle.news_types.specs.History.{History}
use Rattle.news_types.specs.Members.{Each}
use Rattle.news_types.specs.Calls.{entry_at}
use Rattle.news_types.specs.Doubt.{payloads}
use Rattle.news_io.specs.declared.record.Record.{Record}
use Rattle.entry_codec.specs.Spelling.{entry_bytes}
use Rattle.entry_codec.specs.Formed.{IsEntry}
use Rattle.record_lines.specs.Spelling.{record_bytes}
use Rattle.room_standby.specs.Holds.{bytes_of}
use Rattle.standby_laws.specs.Following.{ship}
use Rattle.standby_laws.proofs.Lists.{entry_stays}
use Rattle.room_standby.specs.Ships.{payload_of, LinesAreEntries, LinesAreEvents}
use Rattle.news_room.proofs.Lists.{counted}
use Rattle.room_standby.proofs.Standing.{as_many}

-- the entry behind so many, and its bytes
record Stands (h : History) (k : ℕ) : Type 0 where
  entry : Entry
  there : entry_at h (k + 1) ≡ Some entry
  formed : IsEntry entry
  bytes : get_or (payloads entry_bytes h) k [] ≡ entry_bytes entry

older : (e : Entry) (h : History) (k : ℕ) → k < length h → Stands h k → Stands (e ∷ h) k
older e h k low s =
    let t : nat_le (k + 1) (length h) ≡ true = grind (arith, nat_tests) in
    record {
      entry = s.entry;
      there = rw t s.there;
      formed = s.formed;
      bytes = get_or_append_left (payloads entry_bytes h) (entry_bytes e ∷ []) [] k (omega (arith, low, counted h)) ∙ s.bytes;
    }

newest : (e : Entry) (h : History) (k : ℕ) → IsEntry e → k ≡ length h → Stands (e ∷ h) k
newest e h k formed is =
    let t : nat_le (k + 1) (length h) ≡ false = grind (arith, nat_tests, is) in
    let u : nat_le (k + 1) (suc (length h)) ≡ true = grind (arith, nat_tests, is) in
    let seam : k ≡ length (payloads entry_bytes h) = omega (arith, is, counted h) in
    record {
      entry = e;
      there = rw (t, u) refl;
      formed = formed;
      bytes = ap (λ (n : ℕ). get_or (payloads entry_bytes h ++ entry_bytes e ∷ []) n []) seam ∙ get_or-append_seam (payloads entry_bytes h) (entry_bytes e) [] [];
    }

stands : (h : History) (k : ℕ) → Each IsEntry h → k < length h → Stands h k
stands [] k each lt = absurd (omega (arith, lt))
stands (e ∷ h) k each lt = ⊎_elim (λ low. older e h k low (stands h k each.1 low)) (λ high. newest e h k each.0 (omega (arith, lt, high))) (cases_lt k (length h))

payload_is : (x : Option Record) → payload_of x ≡ unwrap_or (option_map bytes_of x) []
payload_is None = refl
payload_is (Some r) = refl

pub of_number : (records : List Record) → LinesAreEntries records
of_number records h a k lt =
    let s = stands h k a.entries (omega (arith, lt, as_many records h a)) in
    record {
      entry = s.entry;
      there = s.there;
      formed = s.formed;
      line =
          ap (λ (p : Bytes). record_bytes (record { number = k + 1; payload = p }))
          (payload_is (slice_get records k) ∙ ap (λ (x : Option Bytes). unwrap_or x []) (sym (slice_get-map bytes_of records k))
          ∙ unwrap_or-slice_get (map bytes_of records) k [] ∙ ap (λ (l : List Bytes). get_or l k []) a.are ∙ s.bytes);
    }

-- an entry has its number in every list that goes on from this one
in_longer : (more h : History) (n : ℕ) (x : Entry) → entry_at h n ≡ Some x → entry_at (more ++ h) n ≡ Some x
in_longer [] h n x is = is
in_longer (e ∷ more) h n x is = entry_stays e (more ++ h) n x (in_longer more h n x is)

pub sent_by : (records : List Record) → length records < 281474976710656 → LinesAreEvents records
sent_by records few w h a front k lt =
    let o = of_number records h a k lt in
    let there : entry_at w.primary (k + 1) ≡ Some o.entry =
    ap (λ (l : History). entry_at l (k + 1)) front.1 ∙ in_longer front.0 h (k + 1) o.entry o.there in
    record {
      sent = record { number = k + 1; entry = o.entry };
      number = refl;
      event = ap (λ (x : Option Entry). ship (k + 1) x w) there;
      line = record { entry = o.formed; first = omega arith; last = omega (arith, lt, few); is = o.line };
    }
