-- A loop that reads entries and keeps their payloads.
use Rattle.std.proofs.Common.{◌≡◌, ℕ, suc, ◌<◌, ◌≤◌, ◌+◌, ◌-◌, List, [], ◌∷◌, ◌++◌, Result, Ok, Err, map, refl, sym, ap, ◌∙◌, arith, append_assoc, append-nil}
use Rattle.news_types.specs.Names.{Bytes}
use Rattle.news_types.specs.declared.entry.Entry.{Entry}
use Rattle.byte_formats.specs.declared.stop.Stopped.{Stopped}
use Rattle.byte_formats.specs.declared.stop.Stopped.TheVariants as stopped
use Rattle.byte_formats.specs.Gives.{Fails}
use Rattle.byte_formats.specs.Format.{◌>>=◌}
use Rattle.byte_formats.specs.Parts.{steps_at}
use Rattle.byte_formats.proofs.Laws.{ok_is}
use Rattle.entry_codec.specs.Spelling.{entry_bytes}
use Rattle.entry_segments.specs.Segment.{with_names_of, names_from}
use Rattle.entry_segments.specs.Reading.{packed, packed_at, moment_of}
use Rattle.entry_segments.specs.Payloads.{told_entry, told_behind}

-- what is read of an entry: its moment, its payload and the names, and the bytes behind it
abbrev Told : Type 0
Told = (ℕ × Bytes × List Bytes) × List ℕ

abbrev Total : Type 0
Total = Result ((List Bytes × List Bytes) × List ℕ) ℕ

pub entry_told : (seen : List Bytes) (e : Entry) (read : Result (Entry × List ℕ) ℕ) (rest : List ℕ) (payload : Bytes) (more : List Bytes) → read ≡ Ok (e, rest) → payload ≡ entry_bytes e → more ≡ with_names_of e.act seen → told_entry seen read ≡ Ok ((e.moment, payload, more), rest)
unfolding told_entry
entry_told seen e read rest payload more is bytes names =
    ap (told_entry seen) is ∙ ap (λ (b : Bytes). Ok ((e.moment, b, with_names_of e.act seen), rest)) (sym bytes) ∙ ap (λ (l : List Bytes). Ok ((e.moment, payload, l), rest)) (sym names)

pub entry_fails : (e : Stopped) (seen : List Bytes) (read : Result (Entry × List ℕ) ℕ) → Fails e read → Fails e (told_entry seen read)
unfolding told_entry
entry_fails stopped.Memory seen read h = tt
entry_fails (stopped.Left left) seen read h = ap (told_entry seen) h

-- an entry in front of others that are read
abbrev cons_to : Entry → List Entry × List ℕ → Result (List Entry × List ℕ) ℕ
cons_to e xs = Ok (e ∷ xs.0, xs.1)

regroup : (payloads seen : List Bytes) (e : Entry) (read : Result (List Entry × List ℕ) ℕ) → told_behind payloads seen (read >>= cons_to e) ≡ told_behind (payloads ++ entry_bytes e ∷ []) (with_names_of e.act seen) read
unfolding told_behind
regroup payloads seen e (Ok x) = ap (λ (l : List Bytes). Ok ((l, names_from (with_names_of e.act seen) x.0), x.1)) (sym (append_assoc payloads (entry_bytes e ∷ []) (map entry_bytes x.0)))
regroup payloads seen e (Err left) = refl

module _ (ns : List Bytes) where
  abbrev left_at : ℕ → ℕ → List ℕ → Result (List Entry × List ℕ) ℕ
  left_at n moment bytes = steps_at (packed ns) moment_of n moment bytes

  abbrev left_behind : ℕ → Entry × List ℕ → Result (List Entry × List ℕ) ℕ
  left_behind n x = left_at n x.0.moment x.1 >>= cons_to x.0

  one_more : (n : ℕ) (payloads seen : List Bytes) (read : Result (Entry × List ℕ) ℕ) (p : Told) → told_entry seen read ≡ Ok p
      → told_behind payloads seen (read >>= left_behind n) ≡ told_behind (payloads ++ p.0.1 ∷ []) p.0.2 (left_at n p.0.0 p.1)
  unfolding told_entry
  one_more n payloads seen (Ok x) p is =
      regroup payloads seen x.0 (left_at n x.0.moment x.1)
      ∙ ap (λ (z : Told). told_behind (payloads ++ z.0.1 ∷ []) z.0.2 (left_at n z.0.0 z.1)) (ok_is ((x.0.moment, entry_bytes x.0, with_names_of x.0.act seen), x.1) p is)
  one_more n payloads seen (Err left) p is = absurd cc

  none_more : (n : ℕ) (payloads seen : List Bytes) (read : Result (Entry × List ℕ) ℕ) (left : ℕ) → told_entry seen read ≡ Err left → told_behind payloads seen (read >>= left_behind n) ≡ Err left
  unfolding told_entry told_behind
  none_more n payloads seen (Ok x) left is = absurd cc
  none_more n payloads seen (Err other) left is = let same : other ≡ left = cc in ap (λ (k : ℕ). Err k) same

  split : (count i moment : ℕ) (bytes : List ℕ) → i < count → left_at (count - i) moment bytes ≡ (packed_at ns moment bytes >>= left_behind (count - (i + 1)))
  unfolding steps_at
  split count i moment bytes lt = let k : count - i ≡ suc (count - (i + 1)) = omega arith in rw k refl

  pub told_more : (payloads seen : List Bytes) (count i moment : ℕ) (bytes after : List ℕ) (later : ℕ) (payload : Bytes) (more : List Bytes) (total : Total) → i < count
      → told_entry seen (packed_at ns moment bytes) ≡ Ok ((later, payload, more), after) → told_behind payloads seen (left_at (count - i) moment bytes) ≡ total
      → told_behind (payloads ++ payload ∷ []) more (left_at (count - (i + 1)) later after) ≡ total
  told_more payloads seen count i moment bytes after later payload more total lt one so_far =
      sym (one_more (count - (i + 1)) payloads seen (packed_at ns moment bytes) ((later, payload, more), after) one) ∙ sym (ap (told_behind payloads seen) (split count i moment bytes lt)) ∙ so_far

  pub told_fails : (e : Stopped) (payloads seen : List Bytes) (count i moment : ℕ) (bytes : List ℕ) (total : Total) → i < count
      → Fails e (told_entry seen (packed_at ns moment bytes)) → told_behind payloads seen (left_at (count - i) moment bytes) ≡ total → Fails e total
  told_fails stopped.Memory payloads seen count i moment bytes total lt h so_far = tt
  told_fails (stopped.Left left) payloads seen count i moment bytes total lt h so_far =
      sym so_far ∙ ap (told_behind payloads seen) (split count i moment bytes lt) ∙ none_more (count - (i + 1)) payloads seen (packed_at ns moment bytes) left h

  pub told_all : (payloads seen : List Bytes) (count i moment : ℕ) (bytes : List ℕ) (total : Total) → count ≤ i → told_behind payloads seen (left_at (count - i) moment bytes) ≡ total → total ≡ Ok ((payloads, seen), bytes)
  unfolding steps_at told_behind
  told_all payloads seen count i moment bytes total le so_far =
      let k : count - i ≡ 0 = omega arith in
      let one : told_behind payloads seen (left_at (count - i) moment bytes) ≡ Ok ((payloads, seen), bytes) = rw k (ap (λ (l : List Bytes). Ok ((l, seen), bytes)) (append-nil payloads)) in
      sym so_far ∙ one
