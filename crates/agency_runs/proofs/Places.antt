-- What is cut out of a wire lies within it.
use Rattle.std.proofs.Common.{◌≡◌, ⊎_elim, inl, inr, ℕ, ◌+◌, ◌<◌, ◌≤◌, ◌^◌, Bool, cond, List, [], ◌∷◌, ◌++◌, length, All, sym, ap, subst, ◌∙◌, arith}
use Rattle.std.proofs.lemmas.Bool.{cases_eq, cases_lt, eq-eqb, ne_eqb, le-ltb}
use Rattle.std.proofs.lemmas.List.{append-nil, length-append}
use Rattle.std.proofs.lemmas.List.Elements.{All-nil, All-cons, All-head, All-tail, All-same, All-weaker}
use Rattle.agency_wires.specs.declared.found.Found.{Found}
use Rattle.agency_wires.specs.declared.found.Found.TheVariants as found
use Rattle.agency_wires.specs.declared.phase.Phase.{Phase}
use Rattle.agency_wires.specs.declared.phase.Phase.TheVariants.{Head}
use Rattle.agency_wires.specs.Machine.{Leads}
use Rattle.agency_wires.specs.Messages.{message, found_at, messages_from, messages}
use Rattle.agency_runs.specs.Decided.{decided}
use Rattle.agency_runs.specs.Places.{IsWithin, IsPlaced}
use Rattle.agency_runs.proofs.Decides.{Over, over_or_on, over_alone, on_alone, long_found, decided_first}

-- ---- a message is no longer than the bytes behind its SOH

message_short : (bytes : List ℕ) → length (message bytes) ≤ length bytes
message_short bytes = ⊎_elim
    (λ (o : Over Head bytes). omega (arith, ap length (over_alone bytes o), ap length o.cut, length-append o.front (o.last ∷ o.rest)))
    (λ (on : (q : Phase) × Leads Head bytes q). omega (arith, ap length (on_alone bytes on.0 on.1)))
    (over_or_on Head bytes)

short_found : (at : ℕ) (told : List ℕ) → length told ≤ 1_048_576 → found_at at told ≡ found.Message at told
short_found at told le = ap (λ (t : Bool). cond t (found.TooLong (at + 1_048_577)) (found.Message at told)) (le-ltb 1_048_576 (length told) le)

found_within : (count at : ℕ) (told : List ℕ) → at + 1 + length told ≤ count → IsWithin count (found_at at told)
found_within count at told le = elim (cases_lt 1_048_576 (length told)) [
  | inl lt ↦ let far : at + 1_048_577 ≤ count = omega (arith, lt, le) in subst (IsWithin count) (sym (long_found at told lt)) far
  | inr few ↦ subst (IsWithin count) (sym (short_found at told few)) le
]

-- ---- all messages

messages_within : (count at : ℕ) (bytes : List ℕ) → at + length bytes ≤ count → All (IsWithin count) (messages_from at bytes)
messages_within count at [] le = All-nil (IsWithin count)
messages_within count at (b ∷ bytes) le =
    let later : All (IsWithin count) (messages_from (at + 1) bytes) = messages_within count (at + 1) bytes (omega (arith, le)) in
    let one : IsWithin count (found_at at (message bytes)) = found_within count at (message bytes) (omega (arith, le, message_short bytes)) in
    elim (cases_eq b 1) [
      | inl soh ↦ rw (eq-eqb b 1 soh) (All-cons (IsWithin count) (found_at at (message bytes)) (messages_from (at + 1) bytes) one later)
      | inr other ↦ rw (ne_eqb b 1 other) later
    ]

placed : (count : ℕ) (x : Found) → count < 2 ^ 63 → IsWithin count x → IsPlaced x
placed count (found.Message at told) lt le = omega (arith, lt, le)
placed count (found.TooLong at) lt le = omega (arith, lt, le)

pub messages_placed : (bytes : List ℕ) → length bytes < 2 ^ 63 → All IsPlaced (messages bytes)
messages_placed bytes lt =
    All-weaker (IsWithin (length bytes)) IsPlaced (λ x within. placed (length bytes) x lt within) (messages bytes) (messages_within (length bytes) 0 bytes (omega arith))

-- ---- parts of a list

pub all_front : {X : Type 0} (P : X → Type 0) (xs ys : List X) → All P (xs ++ ys) → All P xs
all_front P [] ys all = All-nil P
all_front P (x ∷ xs) ys all = All-cons P x xs (All-head P x (xs ++ ys) all) (all_front P xs ys (All-tail P x (xs ++ ys) all))

pub all_behind : {X : Type 0} (P : X → Type 0) (xs ys : List X) → All P (xs ++ ys) → All P ys
all_behind P [] ys all = all
all_behind P (x ∷ xs) ys all = all_behind P xs ys (All-tail P x (xs ++ ys) all)

pub decided_placed : (bytes : List ℕ) → length bytes < 2 ^ 63 → All IsPlaced (decided bytes)
decided_placed bytes lt =
    let rest : (ys : List Found) × (messages (bytes ++ []) ≡ decided bytes ++ ys) = decided_first bytes [] in
    let whole : decided bytes ++ rest.0 ≡ messages bytes = sym rest.1 ∙ ap messages (append-nil bytes) in
    all_front IsPlaced (decided bytes) rest.0 (All-same IsPlaced (decided bytes ++ rest.0) (messages bytes) whole (messages_placed bytes lt))
