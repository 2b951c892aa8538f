-- A reader with nothing ready decides no member.
use Rattle.std.proofs.Common.{◌≡◌, ◌≢◌, ℕ, zero, suc, ◌+◌, ◌<◌, Bool, true, false, cond, List, [], ◌∷◌, ◌++◌, length, length-append, All, Option, Some, None, refl, sym, ap, subst, ◌∙◌, arith, inl, inr}
use Rattle.std.proofs.lemmas.Bool.{cases_eq}
use Rattle.std.proofs.lemmas.List.Elements.{All-replicate}
use Rattle.agency_wires.specs.declared.found.Found.{Found}
use Rattle.agency_wires.specs.declared.found.Found.TheVariants as found
use Rattle.agency_wires.specs.declared.phase.Phase.{Phase}
use Rattle.agency_wires.specs.declared.phase.Phase.TheVariants.{Head, Text, Mark, Info}
use Rattle.agency_wires.specs.declared.phase.Step.TheVariants.{Go}
use Rattle.agency_wires.specs.declared.reach.End.TheVariants.{Whole}
use Rattle.agency_wires.specs.Machine.{step, Leads}
use Rattle.agency_wires.specs.State.{IsOpen, ahead_of, closing}
use Rattle.agency_wires.specs.Gives.{Pending, BeginsWith, IsUndecided}
use Rattle.agency_wires.proofs.Ahead.{over_full, last_of, goes, goes_ahead}
use Rattle.agency_wires.proofs.Ends.{step_lacking}
use Rattle.std.specs.Option.{IfNone}

-- a member that comes next whatever bytes follow
abbrev pub IsNext : Found → (List ℕ → List Found) → Type 0
IsNext x given = (more : List ℕ) → All (λ b. b < 256) more → BeginsWith x (given more)

same_head : {x y : Found} {xs ys : List Found} → x ∷ xs ≡ y ∷ ys → x ≡ y
same_head e = cc

head_is : {x y : Found} {ys zs : List Found} → BeginsWith x zs → zs ≡ y ∷ ys → x ≡ y
head_is h e = same_head (h.1 ∙ e)

-- the letter `a` ends no message
after_a : (p : Phase) → (q : Phase) × (step p 97 ≡ Go q)
after_a Head = (Head, refl)
after_a Text = (Text, refl)
after_a (Mark zero) = (Info, refl)
after_a (Mark (suc n)) = (Info, step_lacking n 97)
after_a Info = (Info, refl)

messages_bytes : {n m : ℕ} {xs ys : List ℕ} → found.Message n xs ≡ found.Message m ys → xs ≡ ys
messages_bytes e = cc

no_message : {n m : ℕ} {xs : List ℕ} → found.Message n xs ≡ found.TooLong m → ⊥
no_message e = cc

-- what a further letter makes of a message that the input ends behind it
one_more : (at : ℕ) (p q : Phase) (held : List ℕ) → IsOpen at (Some p) held → length held ≢ 1_048_576 → step p 97 ≡ Go q
    → ahead_of at (Some p) held (97 ∷ []) ≡ closing (at + 1) (held ++ 97 ∷ []) Whole ∷ []
one_more at p q held h room s =
    let on : Leads p (97 ∷ []) q = (refl, q, s, refl) in
    let stands = goes at p q held (97 ∷ []) h (omega (arith, room, h.1)) on in
    sym (goes_ahead at p q held (97 ∷ []) [] h.0) ∙ last_of (at + 1) q (held ++ 97 ∷ []) stands

phase_undecided : (at : ℕ) (p : Phase) (held : List ℕ) (x : Found) → IsOpen at (Some p) held → IsNext x (ahead_of at (Some p) held) → ⊥
phase_undecided at p held x h next =
    let on = after_a p in
    let first = head_is (next [] (λ k d l. absurd (omega (arith, l)))) (last_of at p held h) in
    let bytes : All (λ c. c < 256) (97 ∷ []) = All-replicate (λ c. c < 256) 1 97 (omega arith) in
    elim (cases_eq (length held) 1_048_576) [
      | inl full ↦
          let second = head_is (next (97 ∷ []) bytes) (over_full at p on.0 held [] 97 h full refl on.1) in
          no_message (sym first ∙ second)
      | inr room ↦
          let second = head_is (next (97 ∷ []) bytes) (one_more at p on.0 held h room on.1) in
          let same : held ≡ held ++ 97 ∷ [] = messages_bytes (sym first ∙ second) in
          let long = ap length same in
          absurd (omega (arith, long, length-append held (97 ∷ [])))
    ]

nothing_next : (x : Found) → BeginsWith x [] → ⊥
nothing_next x h = let e = h.1 in cc

open_undecided : (at : ℕ) (ph : Option Phase) (held : List ℕ) (x : Found) → IsOpen at ph held → IsNext x (ahead_of at ph held) → ⊥
open_undecided at None held x h next = nothing_next x (next [] (λ k d l. absurd (omega (arith, l))))
open_undecided at (Some q) held x h next = phase_undecided at q held x h next

undecided_by : (at : ℕ) (ph : Option Phase) (held : List ℕ) (ended : Bool) (x : Found) → IsOpen at ph held → IsNext x (λ more. cond ended [] (ahead_of at ph held more)) → ⊥
undecided_by at ph held true x h next = nothing_next x (next [] (λ k d l. absurd (omega (arith, l))))
undecided_by at ph held false x h next = open_undecided at ph held x h next

pub undecided : (r : Pending) → r.ready ≡ [] → IsOpen r.at r.phase r.held → IsUndecided r
undecided r e h = λ x next. undecided_by r.at r.phase r.held r.ended x h (λ more bytes. subst (λ z. BeginsWith x (z ++ cond r.ended [] (ahead_of r.at r.phase r.held more))) e (next more bytes))

pub if_none : {A : Type 0} (o : Option A) (P Q : Type 0) → (P → Q) → IfNone o P → IfNone o Q
if_none None P Q f h = f h
if_none (Some x) P Q f h = h
