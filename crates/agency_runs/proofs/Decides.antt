-- What the first bytes of a wire decide is what all wires with these bytes have.
use Rattle.std.proofs.Common.{◌≡◌, ◌≢◌, ◌⊎◌, inl, inr, ⊎_elim, ℕ, ◌+◌, ◌<◌, ◌≤◌, Bool, true, false, cond, ◌||◌, nat_lt, List, [], ◌∷◌, ◌++◌, length, Option, Some, None, refl, sym, ap, subst, ◌∙◌, arith, append_assoc}
use Rattle.std.proofs.lemmas.Bool.{cases_Bool, cases_eq, cases_lt, ne_eqb, lt-ltb, le-ltb}
use Rattle.std.proofs.lemmas.List.{append-nil, length-append}
use Rattle.line_run.specs.Members.{ComeFirst}
use Rattle.wire_run.proofs.Fronts.{Open, given_front, given_whole, no_further}
use Rattle.agency_wires.specs.declared.found.Found.{Found}
use Rattle.agency_wires.specs.declared.found.Found.TheVariants as found
use Rattle.agency_wires.specs.declared.phase.Phase.{Phase}
use Rattle.agency_wires.specs.declared.phase.Phase.TheVariants.{Head}
use Rattle.agency_wires.specs.declared.phase.Step.{Step}
use Rattle.agency_wires.specs.declared.phase.Step.TheVariants.{Go, Ends}
use Rattle.agency_wires.specs.Gives.{Pending}
use Rattle.agency_wires.specs.Machine.{step, Leads}
use Rattle.agency_wires.specs.Messages.{ends_message, before_end, message, found_at, messages_from, messages}
use Rattle.agency_wires.specs.State.{IsOpen, ahead_of}
use Rattle.agency_wires.proofs.Ends.{closed, closed_nil, step_ends, before_more, before_last, leads_closed}
use Rattle.agency_wires.proofs.Undecided.{undecided}
use Rattle.agency_runs.specs.Decided.{is_decided, decided_from, decided, DecidedIsMost}

-- ---- a message ends within these bytes, or leads on

-- behind these bytes of it comes one that ends it
pub record Over (p : Phase) (bytes : List ℕ) : Type 0 where
  pub front : List ℕ
  pub last : ℕ
  pub rest : List ℕ
  pub phase : Phase
  pub leads : Leads p front phase
  pub cut : bytes ≡ front ++ last ∷ rest
  pub none : (more : List ℕ) → closed phase (before_end (last ∷ more)) ≡ []

over_here : (p : Phase) (b : ℕ) (bytes : List ℕ) → ((more : List ℕ) → closed p (before_end (b ∷ more)) ≡ []) → Over p (b ∷ bytes)
over_here p b bytes none = record { front = []; last = b; rest = bytes; phase = p; leads = refl; cut = refl; none = none }

over_later : (p q : Phase) (b : ℕ) (bytes : List ℕ) → ends_message b ≡ false → step p b ≡ Go q → Over q bytes → Over p (b ∷ bytes)
over_later p q b bytes other is o = record {
  front = b ∷ o.front;
  last = o.last;
  rest = o.rest;
  phase = o.phase;
  leads = (other, q, is, o.leads);
  cut = ap (λ (l : List ℕ). b ∷ l) o.cut;
  none = o.none;
}

pub over_or_on : (p : Phase) (bytes : List ℕ) → Over p bytes ⊎ ((q : Phase) × Leads p bytes q)
over_or_on p [] = inr (p, refl)
over_or_on p (b ∷ bytes) = elim (cases_Bool (ends_message b)) [
  | inl last ↦ inl (over_here p b bytes (λ more. ap (closed p) (before_last b more last) ∙ closed_nil p))
  | inr other ↦ by_step (step p b) refl other (λ q. over_or_on q bytes)
]
  where
    by_step : (s : Step) → step p b ≡ s → ends_message b ≡ false → ((q : Phase) → Over q bytes ⊎ ((r : Phase) × Leads q bytes r)) → Over p (b ∷ bytes) ⊎ ((r : Phase) × Leads p (b ∷ bytes) r)
    by_step (Go q) is other next = ⊎_elim
        (λ (o : Over q bytes). inl (over_later p q b bytes other is o))
        (λ (on : (r : Phase) × Leads q bytes r). inr (on.0, (other, q, is, on.1)))
        (next q)
    by_step Ends is other next = inl (over_here p b bytes (λ more. ap (closed p) (before_more b more other) ∙ step_ends p b (before_end more) is))

-- ---- a message and more bytes

over_message : (bytes : List ℕ) (o : Over Head bytes) (more : List ℕ) → message (bytes ++ more) ≡ o.front
over_message bytes o more =
    ap (λ (l : List ℕ). message (l ++ more)) o.cut
    ∙ ap message (append_assoc o.front (o.last ∷ o.rest) more)
    ∙ leads_closed Head o.phase o.front (o.last ∷ (o.rest ++ more)) o.leads
    ∙ ap (λ (l : List ℕ). o.front ++ l) (o.none (o.rest ++ more))
    ∙ append-nil o.front

on_message : (bytes : List ℕ) (q : Phase) → Leads Head bytes q → (more : List ℕ) → message (bytes ++ more) ≡ bytes ++ closed q (before_end more)
on_message bytes q on more = leads_closed Head q bytes more on

-- the message of these bytes alone
pub over_alone : (bytes : List ℕ) (o : Over Head bytes) → message bytes ≡ o.front
over_alone bytes o = ap message (sym (append-nil bytes)) ∙ over_message bytes o []

pub on_alone : (bytes : List ℕ) (q : Phase) → Leads Head bytes q → message bytes ≡ bytes
on_alone bytes q on = ap message (sym (append-nil bytes)) ∙ on_message bytes q on [] ∙ ap (λ (l : List ℕ). bytes ++ l) (closed_nil q) ∙ append-nil bytes

pub long_found : (at : ℕ) (told : List ℕ) → 1_048_576 < length told → found_at at told ≡ found.TooLong (at + 1_048_577)
long_found at told lt = ap (λ (t : Bool). cond t (found.TooLong (at + 1_048_577)) (found.Message at told)) (lt-ltb 1_048_576 (length told) lt)

long_stays : (at : ℕ) (bytes : List ℕ) (q : Phase) → Leads Head bytes q → 1_048_576 < length bytes → (more : List ℕ) → found_at at (message (bytes ++ more)) ≡ found_at at (message bytes)
long_stays at bytes q on lt more =
    ap (found_at at) (on_message bytes q on more)
    ∙ long_found at (bytes ++ closed q (before_end more)) (omega (arith, lt, length-append bytes (closed q (before_end more))))
    ∙ sym (long_found at bytes lt) ∙ ap (found_at at) (sym (on_alone bytes q on))

-- ---- what is decided, and what is still open

-- where the bytes leave a reader
pub record Leaves (at : ℕ) (bytes : List ℕ) : Type 0 where
  pub place : ℕ
  pub phase : Option Phase
  pub held : List ℕ
  pub is_open : IsOpen place phase held
  pub rest : (more : List ℕ) → decided_from at bytes ++ ahead_of place phase held more ≡ messages_from at (bytes ++ more)

abbrev first_by : ℕ → List ℕ → Bool → List Found
first_by at bytes now = cond now (found_at at (message bytes) ∷ decided_from (at + 1) bytes) []

leaves_decided : (at : ℕ) (bytes : List ℕ) → is_decided bytes ≡ true → ((more : List ℕ) → found_at at (message (bytes ++ more)) ≡ found_at at (message bytes)) → Leaves (at + 1) bytes → Leaves at (1 ∷ bytes)
leaves_decided at bytes is stays l = record {
  place = l.place;
  phase = l.phase;
  held = l.held;
  is_open = l.is_open;
  rest = λ more.
      ap (λ (t : Bool). first_by at bytes t ++ ahead_of l.place l.phase l.held more) is
      ∙ ap (λ (m : Found). m ∷ decided_from (at + 1) bytes ++ ahead_of l.place l.phase l.held more) (sym (stays more))
      ∙ ap (λ (ms : List Found). found_at at (message (bytes ++ more)) ∷ ms) (l.rest more);
}

leaves_open : (at : ℕ) (bytes : List ℕ) (q : Phase) → Leads Head bytes q → length bytes ≤ 1_048_576 → is_decided bytes ≡ false → Leaves at (1 ∷ bytes)
leaves_open at bytes q on few not = record {
  place = at + 1 + length bytes;
  phase = Some q;
  held = bytes;
  is_open = (omega arith, few, on);
  rest = λ more.
      ap (λ (t : Bool). first_by at bytes t ++ ahead_of (at + 1 + length bytes) (Some q) bytes more) not
      ∙ ap (λ (n : ℕ). messages_from n (1 ∷ (bytes ++ more))) (omega arith);
}

leaves_other : (at b : ℕ) (bytes : List ℕ) → b ≢ 1 → Leaves (at + 1) bytes → Leaves at (b ∷ bytes)
leaves_other at b bytes other l = record {
  place = l.place;
  phase = l.phase;
  held = l.held;
  is_open = l.is_open;
  rest = λ more. rw (ne_eqb b 1 other) (l.rest more);
}

decided_over : (bytes : List ℕ) → Over Head bytes → is_decided bytes ≡ true
decided_over bytes o =
    let shorter : length (message bytes) < length bytes = omega (arith, ap length (over_alone bytes o), ap length o.cut, length-append o.front (o.last ∷ o.rest)) in
    ap (λ (t : Bool). t || nat_lt 1_048_576 (length (message bytes))) (lt-ltb (length (message bytes)) (length bytes) shorter)

decided_on : (bytes : List ℕ) (q : Phase) → Leads Head bytes q → is_decided bytes ≡ nat_lt 1_048_576 (length bytes)
decided_on bytes q on =
    ap (λ (l : List ℕ). nat_lt (length l) (length bytes) || nat_lt 1_048_576 (length l)) (on_alone bytes q on)
    ∙ ap (λ (t : Bool). t || nat_lt 1_048_576 (length bytes)) (le-ltb (length bytes) (length bytes) (omega arith))

leaves_on : (at : ℕ) (bytes : List ℕ) (q : Phase) → Leads Head bytes q → Leaves (at + 1) bytes → Leaves at (1 ∷ bytes)
leaves_on at bytes q on l = elim (cases_lt 1_048_576 (length bytes)) [
  | inl lt ↦ leaves_decided at bytes (decided_on bytes q on ∙ lt-ltb 1_048_576 (length bytes) lt) (long_stays at bytes q on lt) l
  | inr few ↦ leaves_open at bytes q on few (decided_on bytes q on ∙ le-ltb 1_048_576 (length bytes) few)
]

leaves_soh : (at : ℕ) (bytes : List ℕ) → Leaves (at + 1) bytes → Leaves at (1 ∷ bytes)
leaves_soh at bytes l = ⊎_elim
    (λ (o : Over Head bytes). leaves_decided at bytes (decided_over bytes o) (λ more. ap (found_at at) (over_message bytes o more ∙ sym (over_alone bytes o))) l)
    (λ (on : (q : Phase) × Leads Head bytes q). leaves_on at bytes on.0 on.1 l)
    (over_or_on Head bytes)

pub leaves : (at : ℕ) (bytes : List ℕ) → Leaves at bytes
leaves at [] = record { place = at; phase = None; held = []; is_open = refl; rest = λ more. refl }
leaves at (b ∷ bytes) = elim (cases_eq b 1) [
  | inl soh ↦ subst (λ (c : ℕ). Leaves at (c ∷ bytes)) (sym soh) (leaves_soh at bytes (leaves (at + 1) bytes))
  | inr other ↦ leaves_other at b bytes other (leaves (at + 1) bytes)
]

-- ---- fronts

-- what follows what is decided
abbrev pub rest_of : List ℕ → List ℕ → List Found
rest_of bytes more = let l = leaves 0 bytes in ahead_of l.place l.phase l.held more

rest_open : (bytes : List ℕ) → Open (rest_of bytes)
rest_open bytes =
    let l : Leaves 0 bytes = leaves 0 bytes in
    let r : Pending = record { ready = []; at = l.place; phase = l.phase; held = l.held; ended = false } in
    undecided r refl l.is_open

rest_is : (bytes more : List ℕ) → decided bytes ++ rest_of bytes more ≡ messages (bytes ++ more)
rest_is bytes more = (leaves 0 bytes).rest more

-- what a reader gave is the front of what is decided
pub given_first : (bytes : List ℕ) (members : List Found) (f : List ℕ → List Found) → ((more : List ℕ) → members ++ f more ≡ messages (bytes ++ more)) → (later : List Found) × (decided bytes ≡ members ++ later)
given_first bytes members f same = given_front messages bytes (decided bytes) (rest_of bytes) (rest_is bytes) (rest_open bytes) members f same

-- and all of it, where it gives nothing more
pub given_all : (bytes : List ℕ) (members : List Found) (f : List ℕ → List Found) → Open f → ((more : List ℕ) → members ++ f more ≡ messages (bytes ++ more)) → decided bytes ≡ members
given_all bytes members f none same = given_whole messages bytes (decided bytes) (rest_of bytes) (rest_is bytes) (rest_open bytes) members f none same

-- ---- the laws

pub decided_first : ComeFirst decided messages
decided_first p q = (rest_of p q, sym (rest_is p q))

pub decided_is_most : DecidedIsMost
decided_is_most bytes = record {
  first = λ more small. (rest_of bytes more, rest_is bytes more);
  most = λ x further. no_further messages bytes (decided bytes) (rest_of bytes) (rest_is bytes) (rest_open bytes) x further;
}
