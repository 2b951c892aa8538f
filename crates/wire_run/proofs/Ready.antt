-- The members that a reader has ready are answered.
use Rattle.std.proofs.Common.{◌≡◌, ℕ, ◌+◌, false, List, [], ◌∷◌, ◌++◌, length, refl, sym, ◌∙◌, ap, subst, arith, append_assoc}
use Rattle.std.proofs.lemmas.List.{append-nil, length-append}
use Rattle.news_io.specs.Sink.{SinkMeaning}
use Rattle.line_run.specs.Life.{Meaning, Life}
use Rattle.line_run.specs.Turns.{AnsweredAll, AnsweredSome}
use Rattle.line_run.specs.declared.ending.Ending.{Ending}
use Rattle.line_run.proofs.Runs.{none_yet, all_then, some_then, some_of}
use Rattle.text7901.specs.declared.found.Found.{Found}
use Rattle.text7901.specs.Gives.{Pending, gives, IsUndecided}
use Rattle.text7901.specs.Wire.{wire}
use Rattle.wire_run.specs.Decided.{decided}
use Rattle.wire_run.specs.Reading.{HasTaken}
use Rattle.wire_run.proofs.Decides.{given_first, given_all}

-- ---- one member after the other

-- some of those that were ready were answered
pub record ReadySoFar {T C A O X : Type 0} (M : Meaning T X) (L : Life T C A) (sink : SinkMeaning O) (old new : A) (o o' : O) (h : List T) (ready left : List X) : Type 0 where
  pub done : List X
  pub ready_is : ready ≡ done ++ left
  pub all : AnsweredAll M L sink old new o o' h done

module _ {T C A O X : Type 0} (M : Meaning T X) (L : Life T C A) (sink : SinkMeaning O) where
  pub ready_starts : (it : A) (o : O) (h : List T) (ready : List X) → L.stands it h → ReadySoFar M L sink it it o o h ready ready
  ready_starts it o h ready stands = record { done = []; ready_is = refl; all = none_yet M L sink it o h stands }

  pub ready_next : (old mid new : A) (o o' o'' : O) (h : List T) (ready left later : List X) (x : X) → ReadySoFar M L sink old mid o o' h ready left → left ≡ x ∷ later
      → ((g : List T) → L.stands mid g → AnsweredAll M L sink mid new o' o'' g (x ∷ [])) → ReadySoFar M L sink old new o o'' h ready later
  ready_next old mid new o o' o'' h ready left later x p is f = record {
    done = p.done ++ x ∷ [];
    ready_is = p.ready_is ∙ ap (λ (l : List X). p.done ++ l) is ∙ sym (append_assoc p.done (x ∷ []) later);
    all = all_then M L sink old mid new o o' o'' h p.done (x ∷ []) p.all f;
  }

  pub ready_stops : (old mid new : A) (o o' o'' : O) (h : List T) (ready left later : List X) (x : X) (why : Ending) → ReadySoFar M L sink old mid o o' h ready left → left ≡ x ∷ later
      → ((g : List T) → L.stands mid g → AnsweredSome M L sink mid new o' o'' g (x ∷ []) why) → AnsweredSome M L sink old new o o'' h ready why
  ready_stops old mid new o o' o'' h ready left later x why p is f =
      subst (λ (l : List X). AnsweredSome M L sink old new o o'' h l why)
      (append_assoc p.done (x ∷ []) later ∙ ap (λ (l : List X). p.done ++ l) (sym is) ∙ sym p.ready_is)
      (some_of M L sink old new o o'' h (p.done ++ x ∷ []) later why (some_then M L sink old mid new o o' o'' h p.done (x ∷ []) why p.all f))

  pub ready_ends : (old new : A) (o o' : O) (h : List T) (ready left : List X) → ReadySoFar M L sink old new o o' h ready left → left ≡ [] → AnsweredAll M L sink old new o o' h ready
  ready_ends old new o o' h ready left p none =
      subst (λ (l : List X). AnsweredAll M L sink old new o o' h l) (sym (append-nil p.done) ∙ ap (λ (l : List X). p.done ++ l) (sym none) ∙ sym p.ready_is) p.all

-- ---- a reader that takes a piece

-- what was ready comes first, and the rest follows
abbrev pub emptied : Pending → Pending
emptied r = record r { ready = [] }

with_ready : (r : Pending) (more : List ℕ) → gives r more ≡ r.ready ++ gives (emptied r) more
with_ready r more = refl

-- a piece that was fed
fed_rest : (r s : Pending) (read piece : List ℕ) → HasTaken r read → ((more : List ℕ) → gives s more ≡ gives r (piece ++ more)) → (more : List ℕ) → decided read ++ gives s more ≡ wire ((read ++ piece) ++ more)
fed_rest r s read piece t members more =
    ap (λ (l : List Found). decided read ++ l) (members more) ∙ t.rest (piece ++ more) ∙ ap wire (sym (append_assoc read piece more))

-- what is ready then is decided, and perhaps more
pub fed_first : (r s : Pending) (read piece : List ℕ) → HasTaken r read → ((more : List ℕ) → gives s more ≡ gives r (piece ++ more)) → (later : List Found) × (decided (read ++ piece) ≡ decided read ++ (s.ready ++ later))
fed_first r s read piece t members =
    let g : (later : List Found) × (decided (read ++ piece) ≡ (decided read ++ s.ready) ++ later) = given_first (read ++ piece) (decided read ++ s.ready) (λ more. gives (emptied s) more)
    (λ more. append_assoc (decided read) s.ready (gives (emptied s) more) ∙ fed_rest r s read piece t members more) in
    (g.0, g.1 ∙ append_assoc (decided read) s.ready g.0)

-- and nothing more, where none comes next
pub fed_all : (r s : Pending) (read piece : List ℕ) → HasTaken r read → ((more : List ℕ) → gives s more ≡ gives r (piece ++ more)) → IsUndecided (emptied s) → decided (read ++ piece) ≡ decided read ++ s.ready
fed_all r s read piece t members none = given_all (read ++ piece) (decided read ++ s.ready) (λ more. gives (emptied s) more) none
    (λ more. append_assoc (decided read) s.ready (gives (emptied s) more) ∙ fed_rest r s read piece t members more)

-- without memory for the piece
pub fed_none : (r : Pending) (read piece : List ℕ) → HasTaken r read → (later : List Found) × (decided (read ++ piece) ≡ decided read ++ later)
fed_none r read piece t = given_first (read ++ piece) (decided read) (λ more. gives r (piece ++ more)) (λ more. t.rest (piece ++ more) ∙ ap wire (sym (append_assoc read piece more)))

pub taken_more : (r s u : Pending) (read piece : List ℕ) → HasTaken r read → ((more : List ℕ) → gives s more ≡ gives r (piece ++ more)) → s.ended ≡ false → s.at ≡ r.at + length piece → u ≡ emptied s → IsUndecided u
    → HasTaken u (read ++ piece)
taken_more r s u read piece t members going place is none =
    subst (λ (v : Pending). HasTaken v (read ++ piece)) (sym is) (record {
      going = going;
      place = omega (arith, place, t.place, length-append read piece);
      none = refl;
      rest = λ more.
          ap (λ (l : List Found). l ++ gives (emptied s) more) (fed_all r s read piece t members (subst IsUndecided is none))
          ∙ append_assoc (decided read) s.ready (gives (emptied s) more) ∙ fed_rest r s read piece t members more;
    })

pub taken_none : (r : Pending) → r.ended ≡ false → r.at ≡ 0 → ((more : List ℕ) → gives r more ≡ wire more) → HasTaken r []
taken_none r going place members = record {
  going = going;
  place = place;
  none = nothing_ready r.ready _ (members []);
  rest = members;
}
  where
    nothing_ready : (xs ys : List Found) → xs ++ ys ≡ [] → xs ≡ []
    nothing_ready [] ys e = refl
    nothing_ready (x ∷ xs) ys e = cc

-- at the end of the input the rest is decided
pub ended_all : (r : Pending) (read : List ℕ) → HasTaken r read → wire read ≡ decided read ++ gives r []
ended_all r read t = ap wire (sym (append-nil read)) ∙ sym (t.rest [])
