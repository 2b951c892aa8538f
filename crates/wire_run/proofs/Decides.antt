-- What the first bytes of a wire decide is what all wires with these bytes have.
use Rattle.std.proofs.Common.{◌≡◌, ◌≢◌, ◌⊎◌, inl, inr, ⊎_elim, ℕ, suc, ◌+◌, ◌-◌, ◌<◌, ◌≤◌, Bool, true, false, cond, ◌||◌, nat_lt, min, List, [], ◌∷◌, ◌++◌, length, take, All, Option, Some, None, refl, sym, ap, subst, ◌∙◌, arith, append_assoc}
use Rattle.std.proofs.lemmas.Bool.{cases_Bool, cases_eq, cases_lt, eq-eqb, ne_eqb, lt-ltb, le-ltb}
use Rattle.std.proofs.lemmas.List.{append-nil, length-append, take-append-le}
use Rattle.text7901.specs.declared.found.What.{What}
use Rattle.text7901.specs.declared.found.What.TheVariants.{TooLong}
use Rattle.text7901.specs.declared.found.Found.{Found}
use Rattle.text7901.specs.declared.found.Found.TheVariants.{Story, Fault}
use Rattle.text7901.specs.declared.phase.Phase.{Phase}
use Rattle.text7901.specs.declared.phase.Phase.TheVariants.{Source}
use Rattle.text7901.specs.declared.phase.Step.{Step}
use Rattle.text7901.specs.declared.phase.Step.TheVariants.{Go, Bad, Ends}
use Rattle.text7901.specs.Fields.{incoming}
use Rattle.text7901.specs.Wire.{End, chunk, end_of, said_of, size_of, judged, member_by, member, wire_from, wire}
use Rattle.text7901.specs.Machine.{step, Leads}
use Rattle.text7901.specs.State.{IsOpen, ahead_of}
use Rattle.text7901.specs.Gives.{Pending}
use Rattle.text7901.proofs.Parts.{IsWithout}
use Rattle.text7901.proofs.Runs.{run, after, run_message, run_left}
use Rattle.text7901.proofs.Undecided.{undecided}
use Rattle.line_run.specs.Members.{ComeFirst}
use Rattle.wire_run.specs.Decided.{has_ended, is_decided, decided_from, decided, DecidedIsMost}
use Rattle.wire_run.proofs.Fronts.{Open, given_front, given_whole, no_further}

-- ---- a message and more of it

-- the machine on a byte, and then on the rest
abbrev on_from : Step → List ℕ → End
on_from s bytes = after s (suc (length bytes)) (λ q. run q bytes)

-- what has not ended leads on
leads : (p : Phase) (bytes : List ℕ) → IsWithout 1 bytes → (run p bytes).left ≡ 0 → (q : Phase) × Leads p bytes q
leads p [] without open_yet = (p, refl)
leads p (b ∷ bytes) without open_yet = by_step (step p b) refl (λ r same. leads r bytes without.1 same) open_yet
  where
    by_step : (s : Step) → step p b ≡ s → ((r : Phase) → (run r bytes).left ≡ 0 → (q : Phase) × Leads r bytes q) → (on_from s bytes).left ≡ 0 → (q : Phase) × Leads p (b ∷ bytes) q
    by_step (Go r) is next zero = let more : (q : Phase) × Leads r bytes q = next r zero in (more.0, (without.0, r, is, more.1))
    by_step (Bad w) is next zero = absurd (omega (arith, zero))
    by_step Ends is next zero = absurd (omega (arith, zero))

abbrev the_end : Option What → ℕ → End
the_end w n = record { what = w; left = n }

-- what has ended stays as it is
ended_stays : (p : Phase) (bytes more : List ℕ) → 0 < (run p bytes).left → run p (bytes ++ more) ≡ record { what = (run p bytes).what; left = (run p bytes).left + length more }
ended_stays p [] more some = absurd (omega (arith, some))
ended_stays p (b ∷ bytes) more some = by_step (step p b) (λ r lt. ended_stays r bytes more lt) some
  where
    by_step : (s : Step) → ((r : Phase) → 0 < (run r bytes).left → run r (bytes ++ more) ≡ record { what = (run r bytes).what; left = (run r bytes).left + length more })
        → 0 < (on_from s bytes).left → on_from s (bytes ++ more) ≡ record { what = (on_from s bytes).what; left = (on_from s bytes).left + length more }
    by_step (Go r) next lt = next r lt
    by_step (Bad w) next lt = ap (λ (n : ℕ). the_end (Some w) n) (omega (arith, length-append bytes more))
    by_step Ends next lt = ap (λ (n : ℕ). the_end None n) (omega (arith, length-append bytes more))

-- what has not ended ends behind these bytes
ends_behind : (p : Phase) (bytes more : List ℕ) → (run p bytes).left ≡ 0 → (run p (bytes ++ more)).left ≤ length more
ends_behind p [] more zero = run_left p more
ends_behind p (b ∷ bytes) more zero = by_step (step p b) (λ r same. ends_behind r bytes more same) zero
  where
    by_step : (s : Step) → ((r : Phase) → (run r bytes).left ≡ 0 → (run r (bytes ++ more)).left ≤ length more) → (on_from s bytes).left ≡ 0 → (on_from s (bytes ++ more)).left ≤ length more
    by_step (Go r) next same = next r same
    by_step (Bad w) next same = absurd (omega (arith, same))
    by_step Ends next same = absurd (omega (arith, same))

-- ---- a member and more of its message

judged_stays : (at : ℕ) (bytes more : List ℕ) (w : Option What) (left end : ℕ) → 0 < left → end ≤ length bytes → judged at (bytes ++ more) w (left + length more) end ≡ judged at bytes w left end
judged_stays at bytes more None left end some le =
    let one : min 1 (left + length more) ≡ min 1 left = omega (arith, some) in
    ap (λ (n : ℕ). cond (nat_lt 131071 (end + n)) (Fault (at + 131072) TooLong) (Story (incoming (take end (bytes ++ more))))) one
    ∙ ap (λ (l : List ℕ). cond (nat_lt 131071 (end + min 1 left)) (Fault (at + 131072) TooLong) (Story (incoming l))) (take-append-le end bytes more le)
judged_stays at bytes more (Some w) left end some le = refl

size_above : (w : Option What) (left end : ℕ) → 131071 < end → 131071 < size_of w left end
size_above None left end lt = omega (arith, lt)
size_above (Some w) left end lt = lt

long : (at : ℕ) (bytes : List ℕ) (e : End) → 131071 < length bytes - e.left → member_by at bytes e ≡ Fault (at + 131072) TooLong
long at bytes e lt =
    ap (λ (t : Bool). cond t (Fault (at + 131072) TooLong) (said_of at bytes e.what (length bytes - e.left))) (lt-ltb 131071 (size_of e.what e.left (length bytes - e.left)) (size_above e.what e.left (length bytes - e.left) lt))

member_run : (at : ℕ) (bytes : List ℕ) → member at bytes ≡ member_by at bytes (run (Source 0) bytes)
member_run at bytes = ap (member_by at bytes) (sym (run_message bytes))

-- a byte has shown its end
shown_stays : (at : ℕ) (bytes more : List ℕ) → 0 < (run (Source 0) bytes).left → member at (bytes ++ more) ≡ member at bytes
shown_stays at bytes more some =
    let e : End = run (Source 0) bytes in
    let within = run_left (Source 0) bytes in
    let place : length (bytes ++ more) - (e.left + length more) ≡ length bytes - e.left = omega (arith, length-append bytes more) in
    member_run at (bytes ++ more)
    ∙ ap (member_by at (bytes ++ more)) (ended_stays (Source 0) bytes more some)
    ∙ ap (judged at (bytes ++ more) e.what (e.left + length more)) place
    ∙ judged_stays at bytes more e.what e.left (length bytes - e.left) some (omega arith)
    ∙ sym (member_run at bytes)

-- it is too long
long_stays : (at : ℕ) (bytes more : List ℕ) → (run (Source 0) bytes).left ≡ 0 → 131071 < length bytes → member at (bytes ++ more) ≡ member at bytes
long_stays at bytes more zero lt =
    let behind = ends_behind (Source 0) bytes more zero in
    member_run at (bytes ++ more)
    ∙ long at (bytes ++ more) (run (Source 0) (bytes ++ more)) (omega (arith, behind, lt, length-append bytes more))
    ∙ sym (long at bytes (run (Source 0) bytes) (omega (arith, zero, lt)))
    ∙ sym (member_run at bytes)

left_is : (bytes : List ℕ) → (run (Source 0) bytes).left ≡ (end_of bytes).left
left_is bytes = ap (λ (e : End). e.left) (run_message bytes)

-- the second of two tests, where the first fails
second : (s t : Bool) → (s || t) ≡ true → s ≡ false → t ≡ true
second true t or not = cc
second false t or not = or

above : (n k : ℕ) → nat_lt n k ≡ true → n < k
above n k test = elim (cases_lt n k) [
  | inl lt ↦ lt
  | inr le ↦ let not = le-ltb n k le in cc
]

not_above : (n k : ℕ) → nat_lt n k ≡ false → k ≤ n
not_above n k test = elim (cases_lt n k) [
  | inl lt ↦ let is = lt-ltb n k lt in cc
  | inr le ↦ le
]

pub member_stays : (at : ℕ) (bytes more : List ℕ) → has_ended bytes ≡ true → member at (bytes ++ more) ≡ member at bytes
member_stays at bytes more ended = elim (cases_lt 0 (end_of bytes).left) [
  | inl some ↦ shown_stays at bytes more (omega (arith, some, left_is bytes))
  | inr none ↦ long_stays at bytes more (omega (arith, none, left_is bytes))
      (above 131071 (length bytes) (second (nat_lt 0 (end_of bytes).left) (nat_lt 131071 (length bytes)) ended (le-ltb 0 (end_of bytes).left none)))
]

-- ---- the bytes up to the next SOH

-- the next SOH has come, and then more changes nothing; or there is none
record HasSoh (bytes : List ℕ) : Type 0 where
  shorter : length (chunk bytes) < length bytes
  same : (more : List ℕ) → chunk (bytes ++ more) ≡ chunk bytes

soh_or_none : (bytes : List ℕ) → HasSoh bytes ⊎ IsWithout 1 bytes
soh_or_none [] = inr tt
soh_or_none (b ∷ bytes) = elim (cases_eq b 1) [
  | inl soh ↦ inl (record { shorter = rw (eq-eqb b 1 soh) (omega arith); same = λ more. rw (eq-eqb b 1 soh) refl })
  | inr other ↦ ⊎_elim
      (λ (h : HasSoh bytes). inl (record { shorter = rw (ne_eqb b 1 other) (omega (arith, h.shorter)); same = λ more. rw (ne_eqb b 1 other) (ap (λ (l : List ℕ). b ∷ l) (h.same more)) }))
      (λ (w : IsWithout 1 bytes). inr (other, w))
      (soh_or_none bytes)
]

chunk_on : (bytes more : List ℕ) → IsWithout 1 bytes → chunk (bytes ++ more) ≡ bytes ++ chunk more
chunk_on [] more without = refl
chunk_on (b ∷ bytes) more without = rw (ne_eqb b 1 without.0) (ap (λ (l : List ℕ). b ∷ l) (chunk_on bytes more without.1))

chunk_all : (bytes : List ℕ) → IsWithout 1 bytes → chunk bytes ≡ bytes
chunk_all bytes without = ap chunk (sym (append-nil bytes)) ∙ chunk_on bytes [] without ∙ append-nil bytes

-- without a SOH, by the bytes themselves
decided_alone : (bytes : List ℕ) → IsWithout 1 bytes → is_decided bytes ≡ has_ended bytes
decided_alone bytes without =
    ap (λ (l : List ℕ). nat_lt (length l) (length bytes) || has_ended l) (chunk_all bytes without)
    ∙ ap (λ (t : Bool). t || has_ended bytes) (le-ltb (length bytes) (length bytes) (omega arith))

chunk_member : (at : ℕ) (bytes more : List ℕ) → is_decided bytes ≡ true → member at (chunk (bytes ++ more)) ≡ member at (chunk bytes)
chunk_member at bytes more is = ⊎_elim
    (λ (h : HasSoh bytes). ap (member at) (h.same more))
    (λ (w : IsWithout 1 bytes). ap (member at) (chunk_on bytes more w) ∙ member_stays at bytes (chunk more) (sym (decided_alone bytes w) ∙ is) ∙ ap (member at) (sym (chunk_all bytes w)))
    (soh_or_none bytes)

-- ---- what is decided, and what is still open

-- where the bytes leave a reader
pub record Leaves (at : ℕ) (bytes : List ℕ) : Type 0 where
  pub place : ℕ
  pub phase : Option Phase
  pub held : List ℕ
  pub is_open : IsOpen place phase held
  pub rest : (more : List ℕ) → decided_from at bytes ++ ahead_of place phase held more ≡ wire_from at (bytes ++ more)

or_false : (s t : Bool) → (s || t) ≡ false → (s ≡ false) × (t ≡ false)
or_false true t or = cc
or_false false t or = (refl, or)

abbrev first_by : ℕ → List ℕ → Bool → List Found
first_by at bytes now = cond now (member at (chunk bytes) ∷ decided_from (at + 1) bytes) []

leaves_open : (at : ℕ) (bytes : List ℕ) → IsWithout 1 bytes → has_ended bytes ≡ false → is_decided bytes ≡ false → Leaves at (1 ∷ bytes)
leaves_open at bytes without open_yet not =
    let tests : (nat_lt 0 (end_of bytes).left ≡ false) × (nat_lt 131071 (length bytes) ≡ false) = or_false _ _ open_yet in
    let zero = not_above 0 (end_of bytes).left tests.0 in
    let few = not_above 131071 (length bytes) tests.1 in
    let on : (q : Phase) × Leads (Source 0) bytes q = leads (Source 0) bytes without (omega (arith, zero, left_is bytes)) in
    record {
      place = at + 1 + length bytes;
      phase = Some on.0;
      held = bytes;
      is_open = (omega arith, few, on.1);
      rest = λ more.
          ap (λ (t : Bool). first_by at bytes t ++ ahead_of (at + 1 + length bytes) (Some on.0) bytes more) not
          ∙ ap (λ (n : ℕ). wire_from n (1 ∷ (bytes ++ more))) (omega arith);
    }

leaves_decided : (at : ℕ) (bytes : List ℕ) → is_decided bytes ≡ true → Leaves (at + 1) bytes → Leaves at (1 ∷ bytes)
leaves_decided at bytes is l = record {
  place = l.place;
  phase = l.phase;
  held = l.held;
  is_open = l.is_open;
  rest = λ more.
      ap (λ (t : Bool). first_by at bytes t ++ ahead_of l.place l.phase l.held more) is
      ∙ ap (λ (m : Found). m ∷ decided_from (at + 1) bytes ++ ahead_of l.place l.phase l.held more) (sym (chunk_member at bytes more is))
      ∙ ap (λ (ms : List Found). member at (chunk (bytes ++ more)) ∷ ms) (l.rest more);
}

leaves_other : (at b : ℕ) (bytes : List ℕ) → b ≢ 1 → Leaves (at + 1) bytes → Leaves at (b ∷ bytes)
leaves_other at b bytes other l = record {
  place = l.place;
  phase = l.phase;
  held = l.held;
  is_open = l.is_open;
  rest = λ more. rw (ne_eqb b 1 other) (l.rest more);
}

leaves_soh : (at : ℕ) (bytes : List ℕ) → Leaves (at + 1) bytes → Leaves at (1 ∷ bytes)
leaves_soh at bytes l = elim (cases_Bool (is_decided bytes)) [
  | inl is ↦ leaves_decided at bytes is l
  | inr not ↦ ⊎_elim
      (λ (h : HasSoh bytes). let is = lt-ltb (length (chunk bytes)) (length bytes) h.shorter in let no = or_false (nat_lt (length (chunk bytes)) (length bytes)) _ not in absurd (differ (sym is ∙ no.0)))
      (λ (w : IsWithout 1 bytes). leaves_open at bytes w (sym (decided_alone bytes w) ∙ not) not)
      (soh_or_none bytes)
]
  where
    differ : true ≡ false → ⊥
    differ e = cc

pub leaves : (at : ℕ) (bytes : List ℕ) → Leaves at bytes
leaves at [] = record { place = at; phase = None; held = []; is_open = refl; rest = λ more. refl }
leaves at (b ∷ bytes) = elim (cases_eq b 1) [
  | inl soh ↦ subst (λ (c : ℕ). Leaves at (c ∷ bytes)) (sym soh) (leaves_soh at bytes (leaves (at + 1) bytes))
  | inr other ↦ leaves_other at b bytes other (leaves (at + 1) bytes)
]

-- ---- fronts

-- what follows what is decided
abbrev pub rest_of : List ℕ → List ℕ → List Found
rest_of bytes more = let l = leaves 0 bytes in ahead_of l.place l.phase l.held more

rest_open : (bytes : List ℕ) → Open (rest_of bytes)
rest_open bytes =
    let l : Leaves 0 bytes = leaves 0 bytes in
    let r : Pending = record { ready = []; at = l.place; phase = l.phase; held = l.held; ended = false } in
    undecided r refl l.is_open

rest_is : (bytes more : List ℕ) → decided bytes ++ rest_of bytes more ≡ wire (bytes ++ more)
rest_is bytes more = (leaves 0 bytes).rest more

-- what a reader gave is the front of what is decided
pub given_first : (bytes : List ℕ) (members : List Found) (f : List ℕ → List Found) → ((more : List ℕ) → members ++ f more ≡ wire (bytes ++ more)) → (later : List Found) × (decided bytes ≡ members ++ later)
given_first bytes members f same = given_front wire bytes (decided bytes) (rest_of bytes) (rest_is bytes) (rest_open bytes) members f same

-- and all of it, where it gives nothing more
pub given_all : (bytes : List ℕ) (members : List Found) (f : List ℕ → List Found) → Open f → ((more : List ℕ) → members ++ f more ≡ wire (bytes ++ more)) → decided bytes ≡ members
given_all bytes members f none same = given_whole wire bytes (decided bytes) (rest_of bytes) (rest_is bytes) (rest_open bytes) members f none same

-- ---- the laws

pub decided_first : ComeFirst decided wire
decided_first p q = (rest_of p q, sym (rest_is p q))

pub decided_is_most : DecidedIsMost
decided_is_most bytes = record {
  first = λ more small. (rest_of bytes more, rest_is bytes more);
  most = λ x further. no_further wire bytes (decided bytes) (rest_of bytes) (rest_is bytes) (rest_open bytes) x further;
}
