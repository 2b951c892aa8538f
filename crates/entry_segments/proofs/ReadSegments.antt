-- What the parts of a segment give together, told as payloads.
use Rattle.std.proofs.Common.{◌≡◌, ℕ, suc, Bool, true, false, not, cond, List, [], ◌∷◌, length, Some, None, Result, Ok, Err, map, refl, sym, ap, ◌∙◌, arith}
use Rattle.std.proofs.lemmas.Bool.Decides.{nat_tests}
use Rattle.std.specs.Prelude.{◌==◌, if◌then◌else◌}
use Rattle.std.specs.Int.{w64}
use Rattle.news_types.specs.Names.{Bytes}
use Rattle.news_types.specs.declared.entry.Entry.{Entry}
use Rattle.byte_formats.specs.declared.stop.Stopped.{Stopped}
use Rattle.byte_formats.specs.declared.stop.Stopped.TheVariants as stopped
use Rattle.byte_formats.specs.Gives.{Fails, all_of}
use Rattle.byte_formats.specs.Format.{◌>>=◌, upto_at}
use Rattle.byte_formats.specs.Parts.{chosen, steps_at}
use Rattle.byte_formats.proofs.Laws.{ok_is}
use Rattle.entry_codec.specs.Spelling.{entry_bytes}
use Rattle.entry_segments.specs.declared.segment.Segment.{Segment}
use Rattle.entry_segments.specs.declared.payloads.SegmentPayloads.{SegmentPayloads}
use Rattle.entry_segments.specs.Segment.{names_of}
use Rattle.entry_segments.specs.Reading.{count_at, names_at, packed, moment_of, Head, Body, same_names, segment_of, segment, segment_at}
use Rattle.entry_segments.specs.Payloads.{HasPayloads, told_behind, told_segment, told_whole}

-- the segment behind its base, its count and its names
abbrev with_names : List Bytes → List Entry × List ℕ → Result (Body × List ℕ) ℕ
with_names ns y = Ok ((ns, y.0), y.1)

abbrev with_head : Head → Body × List ℕ → Result ((Head × Body) × List ℕ) ℕ
with_head head y = Ok ((head, y.0), y.1)

abbrev to_segment : (Head × Body) × List ℕ → Result (Segment × List ℕ) ℕ
to_segment x = chosen x.1 (segment_of x.0)

abbrev finished : ℕ → ℕ → List Bytes → Result (List Entry × List ℕ) ℕ → Result (Segment × List ℕ) ℕ
finished base n ns read = ((read >>= with_names ns) >>= with_head (base, n)) >>= to_segment

abbrev if_same : Bool → ℕ → List Entry → List ℕ → Result (Segment × List ℕ) ℕ
if_same b base es rest = chosen rest (cond b (Some (record { base = base; entries = es })) None)

finished_same : (base n : ℕ) (ns : List Bytes) (read : Result (List Entry × List ℕ) ℕ) (items seen : List Bytes) (rest : List ℕ) → told_behind [] [] read ≡ Ok ((items, seen), rest) → same_names seen ns ≡ true
    → told_segment (finished base n ns read) ≡ Ok ((base, items), rest)
unfolding told_behind told_segment
finished_same base n ns (Ok x) items seen rest is same =
    let all = ok_is ((map entry_bytes x.0, names_of x.0), x.1) ((items, seen), rest) is in
    let named : same_names (names_of x.0) ns ≡ true = ap (λ (z : (List Bytes × List Bytes) × List ℕ). same_names z.0.1 ns) all ∙ same in
    ap (λ (b : Bool). told_segment (if_same b base x.0 x.1)) named ∙ ap (λ (z : (List Bytes × List Bytes) × List ℕ). Ok ((base, z.0.0), z.1)) all
finished_same base n ns (Err left) items seen rest is same = absurd cc

finished_other : (base n : ℕ) (ns : List Bytes) (read : Result (List Entry × List ℕ) ℕ) (items seen : List Bytes) (rest : List ℕ) → told_behind [] [] read ≡ Ok ((items, seen), rest) → same_names seen ns ≡ false
    → told_segment (finished base n ns read) ≡ Err (suc (length rest))
unfolding told_behind told_segment
finished_other base n ns (Ok x) items seen rest is other =
    let all = ok_is ((map entry_bytes x.0, names_of x.0), x.1) ((items, seen), rest) is in
    let named : same_names (names_of x.0) ns ≡ false = ap (λ (z : (List Bytes × List Bytes) × List ℕ). same_names z.0.1 ns) all ∙ other in
    ap (λ (b : Bool). told_segment (if_same b base x.0 x.1)) named ∙ ap (λ (z : (List Bytes × List Bytes) × List ℕ). Err (suc (length z.1))) all
finished_other base n ns (Err left) items seen rest is other = absurd cc

finished_fails : (base n : ℕ) (ns : List Bytes) (read : Result (List Entry × List ℕ) ℕ) (left : ℕ) → told_behind [] [] read ≡ Err left → told_segment (finished base n ns read) ≡ Err left
unfolding told_behind told_segment
finished_fails base n ns (Ok x) left is = absurd cc
finished_fails base n ns (Err other) left is = let same : other ≡ left = cc in ap (λ (k : ℕ). Err k) same

pub is_other : (same : Bool) → not same ≡ true → same ≡ false
is_other true h = absurd cc
is_other false h = refl

pub not_other : (same : Bool) → not same ≡ false → same ≡ true
not_other true h = refl
not_other false h = absurd cc

-- ---- the parts of a segment

pub base_fails : (e : Stopped) (input : List ℕ) → Fails e (upto_at w64 281474976710654 input) → Fails e (told_segment (segment_at input))
unfolding segment_at told_segment
base_fails stopped.Memory input h = tt
base_fails (stopped.Left left) input h = rw h refl

pub count_fails : (e : Stopped) (input a : List ℕ) (base : ℕ) → upto_at w64 281474976710654 input ≡ Ok (base, a) → Fails e (count_at base a) → Fails e (told_segment (segment_at input))
unfolding segment_at told_segment
count_fails stopped.Memory input a base first h = tt
count_fails (stopped.Left left) input a base first h = rw (first, h) refl

pub names_fails : (e : Stopped) (input a b : List ℕ) (base n : ℕ) → upto_at w64 281474976710654 input ≡ Ok (base, a) → count_at base a ≡ Ok (n, b) → Fails e (names_at b) → Fails e (told_segment (segment_at input))
unfolding segment_at told_segment
names_fails stopped.Memory input a b base n first count h = tt
names_fails (stopped.Left left) input a b base n first count h = rw (first, count, h) refl

module _ (input a b c : List ℕ) (base n : ℕ) (ns : List Bytes) (first : upto_at w64 281474976710654 input ≡ Ok (base, a)) (count : count_at base a ≡ Ok (n, b)) (names : names_at b ≡ Ok (ns, c)) where
  is_finished : segment_at input ≡ finished base n ns (steps_at (packed ns) moment_of n 0 c)
  unfolding segment_at
  is_finished = rw (first, count, names) refl

  pub segment_told : (items seen : List Bytes) (rest : List ℕ) → told_behind [] [] (steps_at (packed ns) moment_of n 0 c) ≡ Ok ((items, seen), rest) → same_names seen ns ≡ true → told_segment (segment_at input) ≡ Ok ((base, items), rest)
  segment_told items seen rest is same = ap told_segment is_finished ∙ finished_same base n ns (steps_at (packed ns) moment_of n 0 c) items seen rest is same

  pub segment_refused : (items seen : List Bytes) (rest : List ℕ) → told_behind [] [] (steps_at (packed ns) moment_of n 0 c) ≡ Ok ((items, seen), rest) → same_names seen ns ≡ false → told_segment (segment_at input) ≡ Err (suc (length rest))
  segment_refused items seen rest is other = ap told_segment is_finished ∙ finished_other base n ns (steps_at (packed ns) moment_of n 0 c) items seen rest is other

  pub segment_fails : (e : Stopped) → Fails e (told_behind [] [] (steps_at (packed ns) moment_of n 0 c)) → Fails e (told_segment (segment_at input))
  segment_fails stopped.Memory h = tt
  segment_fails (stopped.Left left) h = ap told_segment is_finished ∙ finished_fails base n ns (steps_at (packed ns) moment_of n 0 c) left h

-- ---- all of the bytes

abbrev ended : Result (Segment × List ℕ) ℕ → Result Segment ℕ
ended read = read >>= λ x. if length x.1 == 0 then Ok x.0 else Err (length x.1)

abbrev if_none : Segment → ℕ → Result Segment ℕ
if_none s left = if left == 0 then Ok s else Err left

ended_told : (read : Result (Segment × List ℕ) ℕ) (p : ℕ × List Bytes) (rest : List ℕ) → told_segment read ≡ Ok (p, rest) → length rest ≡ 0 → told_whole (ended read) ≡ Ok p
unfolding told_segment told_whole
ended_told (Ok x) p rest is none =
    let all = ok_is ((x.0.base, map entry_bytes x.0.entries), x.1) (p, rest) is in
    let empty : length x.1 ≡ 0 = ap (λ (z : (ℕ × List Bytes) × List ℕ). length z.1) all ∙ none in
    ap (λ (n : ℕ). told_whole (if_none x.0 n)) empty ∙ ap (λ (z : (ℕ × List Bytes) × List ℕ). Ok z.0) all
ended_told (Err left) p rest is none = absurd cc

ended_left : (read : Result (Segment × List ℕ) ℕ) (p : ℕ × List Bytes) (rest : List ℕ) → told_segment read ≡ Ok (p, rest) → (length rest ≡ 0 → ⊥) → told_whole (ended read) ≡ Err (length rest)
unfolding told_segment told_whole
ended_left (Ok x) p [] is some = absurd (some refl)
ended_left (Ok x) p (b ∷ rest) is some =
    let all = ok_is ((x.0.base, map entry_bytes x.0.entries), x.1) (p, b ∷ rest) is in
    let long : length x.1 ≡ suc (length rest) = ap (λ (z : (ℕ × List Bytes) × List ℕ). length z.1) all in
    let some : (length x.1 == 0) ≡ false = grind (arith, nat_tests, long) in
    ap (λ (b : Bool). told_whole (if b then Ok x.0 else Err (length x.1))) some ∙ ap (λ (n : ℕ). Err n) long
ended_left (Err left) p rest is some = absurd cc

ended_fails : (read : Result (Segment × List ℕ) ℕ) (left : ℕ) → told_segment read ≡ Err left → told_whole (ended read) ≡ Err left
unfolding told_segment told_whole
ended_fails (Ok x) left is = absurd cc
ended_fails (Err other) left is = let same : other ≡ left = cc in ap (λ (k : ℕ). Err k) same

pub whole_told : (bytes : List ℕ) (p : ℕ × List Bytes) (rest : List ℕ) → told_segment (segment_at bytes) ≡ Ok (p, rest) → length rest ≡ 0 → told_whole (all_of segment bytes) ≡ Ok p
unfolding all_of
whole_told bytes p rest is none = ended_told (segment_at bytes) p rest is none

pub whole_left : (bytes : List ℕ) (p : ℕ × List Bytes) (rest : List ℕ) → told_segment (segment_at bytes) ≡ Ok (p, rest) → (length rest ≡ 0 → ⊥) → told_whole (all_of segment bytes) ≡ Err (length rest)
unfolding all_of
whole_left bytes p rest is some = ended_left (segment_at bytes) p rest is some

pub whole_fails : (e : Stopped) (bytes : List ℕ) → Fails e (told_segment (segment_at bytes)) → Fails e (told_whole (all_of segment bytes))
unfolding all_of
whole_fails stopped.Memory bytes h = tt
whole_fails (stopped.Left left) bytes h = ended_fails (segment_at bytes) left h

-- the segment whose payloads were told
pub was_read : (u : SegmentPayloads) (read : Result Segment ℕ) → told_whole read ≡ Ok (u.base, u.payloads.items) → (s : Segment) × (read ≡ Ok s) × HasPayloads s u
unfolding told_whole
was_read u (Ok s) is =
    let all = ok_is (s.base, map entry_bytes s.entries) (u.base, u.payloads.items) is in
    (s, refl, record { base = sym (ap (λ (z : ℕ × List Bytes). z.0) all); payloads = sym (ap (λ (z : ℕ × List Bytes). z.1) all) })
was_read u (Err left) is = absurd cc

pub was_fault : (read : Result Segment ℕ) (left : ℕ) → told_whole read ≡ Err left → read ≡ Err left
unfolding told_whole
was_fault (Ok s) left is = absurd cc
was_fault (Err other) left is = let same : other ≡ left = cc in ap (λ (k : ℕ). Err k) same
