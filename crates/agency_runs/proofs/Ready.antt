-- A reader that takes a piece, and the messages that it has ready then.
use Rattle.std.proofs.Common.{◌≡◌, ℕ, ◌+◌, ◌<◌, ◌^◌, false, List, [], ◌∷◌, ◌++◌, length, All, refl, sym, ◌∙◌, ap, subst, arith, append_assoc}
use Rattle.std.proofs.lemmas.List.{append-nil, length-append}
use Rattle.std.proofs.lemmas.List.Elements.{All-same}
use Rattle.agency_wires.specs.declared.found.Found.{Found}
use Rattle.agency_wires.specs.Gives.{Pending, gives, IsUndecided}
use Rattle.agency_wires.specs.Messages.{messages}
use Rattle.agency_runs.specs.Decided.{decided}
use Rattle.agency_runs.specs.Places.{IsPlaced}
use Rattle.agency_runs.specs.Reading.{HasTaken}
use Rattle.agency_runs.proofs.Decides.{given_first, given_all}
use Rattle.agency_runs.proofs.Places.{all_front, all_behind, decided_placed, messages_placed}

-- what was ready comes first, and the rest follows
abbrev pub emptied : Pending → Pending
emptied r = record r { ready = [] }

with_ready : (r : Pending) (more : List ℕ) → gives r more ≡ r.ready ++ gives (emptied r) more
with_ready r more = refl

-- a piece that was fed
fed_rest : (r s : Pending) (read piece : List ℕ) → HasTaken r read → ((more : List ℕ) → gives s more ≡ gives r (piece ++ more)) → (more : List ℕ) → decided read ++ gives s more ≡ messages ((read ++ piece) ++ more)
fed_rest r s read piece t members more =
    ap (λ (l : List Found). decided read ++ l) (members more) ∙ t.rest (piece ++ more) ∙ ap messages (sym (append_assoc read piece more))

-- what is ready then is decided, and perhaps more
pub fed_first : (r s : Pending) (read piece : List ℕ) → HasTaken r read → ((more : List ℕ) → gives s more ≡ gives r (piece ++ more)) → (later : List Found) × (decided (read ++ piece) ≡ decided read ++ (s.ready ++ later))
fed_first r s read piece t members =
    let g : (later : List Found) × (decided (read ++ piece) ≡ (decided read ++ s.ready) ++ later) = given_first (read ++ piece) (decided read ++ s.ready) (λ more. gives (emptied s) more)
    (λ more. append_assoc (decided read) s.ready (gives (emptied s) more) ∙ fed_rest r s read piece t members more) in
    (g.0, g.1 ∙ append_assoc (decided read) s.ready g.0)

-- and nothing more, where none comes next
pub fed_all : (r s : Pending) (read piece : List ℕ) → HasTaken r read → ((more : List ℕ) → gives s more ≡ gives r (piece ++ more)) → IsUndecided (emptied s) → decided (read ++ piece) ≡ decided read ++ s.ready
fed_all r s read piece t members none = given_all (read ++ piece) (decided read ++ s.ready) (λ more. gives (emptied s) more) none
    (λ more. append_assoc (decided read) s.ready (gives (emptied s) more) ∙ fed_rest r s read piece t members more)

-- without memory for the piece
pub fed_none : (r : Pending) (read piece : List ℕ) → HasTaken r read → (later : List Found) × (decided (read ++ piece) ≡ decided read ++ later)
fed_none r read piece t = given_first (read ++ piece) (decided read) (λ more. gives r (piece ++ more)) (λ more. t.rest (piece ++ more) ∙ ap messages (sym (append_assoc read piece more)))

pub taken_more : (r s u : Pending) (read piece : List ℕ) → HasTaken r read → ((more : List ℕ) → gives s more ≡ gives r (piece ++ more)) → s.ended ≡ false → s.at ≡ r.at + length piece → u ≡ emptied s → IsUndecided u
    → HasTaken u (read ++ piece)
taken_more r s u read piece t members going place is none =
    subst (λ (v : Pending). HasTaken v (read ++ piece)) (sym is) (record {
      going = going;
      place = omega (arith, place, t.place, length-append read piece);
      none = refl;
      rest = λ more.
          ap (λ (l : List Found). l ++ gives (emptied s) more) (fed_all r s read piece t members (subst IsUndecided is none))
          ∙ append_assoc (decided read) s.ready (gives (emptied s) more) ∙ fed_rest r s read piece t members more;
    })

pub taken_none : (r : Pending) → r.ended ≡ false → r.at ≡ 0 → ((more : List ℕ) → gives r more ≡ messages more) → HasTaken r []
taken_none r going place members = record {
  going = going;
  place = place;
  none = nothing_ready r.ready _ (members []);
  rest = members;
}
  where
    nothing_ready : (xs ys : List Found) → xs ++ ys ≡ [] → xs ≡ []
    nothing_ready [] ys e = refl
    nothing_ready (x ∷ xs) ys e = cc

-- at the end of the input the rest is decided
pub ended_all : (r : Pending) (read : List ℕ) → HasTaken r read → messages read ≡ decided read ++ gives r []
ended_all r read t = ap messages (sym (append-nil read)) ∙ sym (t.rest [])

-- ---- what is ready lies within the input

pub fed_placed : (r s : Pending) (read piece : List ℕ) → HasTaken r read → ((more : List ℕ) → gives s more ≡ gives r (piece ++ more)) → length read + length piece < 2 ^ 63 → All IsPlaced s.ready
fed_placed r s read piece t members few =
    let first : (later : List Found) × (decided (read ++ piece) ≡ decided read ++ (s.ready ++ later)) = fed_first r s read piece t members in
    all_front IsPlaced s.ready first.0
    (all_behind IsPlaced (decided read) (s.ready ++ first.0)
    (All-same IsPlaced (decided read ++ (s.ready ++ first.0)) (decided (read ++ piece)) (sym first.1) (decided_placed (read ++ piece) (omega (arith, few, length-append read piece)))))

pub ended_placed : (r : Pending) (ready : List Found) (read : List ℕ) → HasTaken r read → ready ≡ gives r [] → length read < 2 ^ 63 → All IsPlaced ready
ended_placed r ready read t is few =
    All-same IsPlaced ready (gives r []) is
    (all_behind IsPlaced (decided read) (gives r []) (All-same IsPlaced (decided read ++ gives r []) (messages read) (sym (ended_all r read t)) (messages_placed read few)))
