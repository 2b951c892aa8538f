-- A reader with nothing ready decides no member.
use Rattle.std.proofs.Common.{◌≡◌, ◌≢◌, ℕ, zero, suc, ◌+◌, ◌-◌, ◌<◌, Bool, true, false, cond, List, [], ◌∷◌, ◌++◌, length, length-append, replicate, All, Option, Some, None, refl, sym, ap, subst, ◌∙◌, arith, inl, inr}
use Rattle.std.proofs.lemmas.Bool.{cases_lt, lt-ltb}
use Rattle.std.proofs.lemmas.List.Elements.{All-replicate}
use Rattle.text7901.specs.declared.found.What.{What}
use Rattle.text7901.specs.declared.found.What.TheVariants.{NoHeader, NoText, NoEnd, TooLong}
use Rattle.text7901.specs.declared.found.Found.{Found}
use Rattle.text7901.specs.declared.found.Found.TheVariants.{Story, Fault}
use Rattle.text7901.specs.declared.phase.Phase.{Phase}
use Rattle.text7901.specs.declared.phase.Phase.TheVariants.{Source, Number, Head, Text, Info}
use Rattle.text7901.specs.declared.phase.Step.TheVariants.{Go, Bad}
use Rattle.text7901.specs.Machine.{step, at_end, Leads}
use Rattle.text7901.specs.State.{IsOpen, ahead_of, closing}
use Rattle.text7901.specs.Gives.{Pending, BeginsWith, IsUndecided}
use Rattle.text7901.proofs.Ahead.{over, last_of, goes, goes_ahead}
use Rattle.std.specs.Option.{IfNone}

-- a member that comes next whatever bytes follow
abbrev pub IsNext : Found → (List ℕ → List Found) → Type 0
IsNext x given = (more : List ℕ) → All (λ b. b < 256) more → BeginsWith x (given more)

same_head : {x y : Found} {xs ys : List Found} → x ∷ xs ≡ y ∷ ys → x ≡ y
same_head e = cc

head_is : {x y : Found} {ys zs : List Found} → BeginsWith x zs → zs ≡ y ∷ ys → x ≡ y
head_is h e = same_head (h.1 ∙ e)

-- what a byte makes of a message that the input ends behind it
one_more : (at : ℕ) (q r : Phase) (held : List ℕ) (b : ℕ) → b ≢ 1 → IsOpen at (Some q) held → length held < 131071 → step q b ≡ Go r
    → ahead_of at (Some q) held (b ∷ []) ≡ closing (at + 1) (held ++ b ∷ []) (at_end r) ∷ []
one_more at q r held b other h lt s =
    let on : Leads q (b ∷ []) r = (other, r, s, refl) in
    let stands = goes at q r held (b ∷ []) h (omega (arith, lt)) on in
    sym (goes_ahead at q r held (b ∷ []) [] h.0) ∙ last_of (at + 1) r (held ++ b ∷ []) stands

-- two ends at different places, or a message that is too long, are not one member
two_ends : (at : ℕ) (q r : Phase) (held : List ℕ) (b : ℕ) (v w : What) (x : Found) → b ≢ 1 → b < 256 → IsOpen at (Some q) held → step q b ≡ Go r → at_end q ≡ Some v → at_end r ≡ Some w → v ≢ TooLong
    → IsNext x (ahead_of at (Some q) held) → ⊥
two_ends at q r held b v w x other small h s e f n next =
    let first = head_is (next [] (λ k d l. absurd (omega (arith, l)))) (last_of at q held h ∙ ap (λ z. closing at held z ∷ []) e) in
    let bytes : All (λ c. c < 256) (b ∷ []) = All-replicate (λ c. c < 256) 1 b small in
    elim (cases_lt (length held) 131071) [
      | inl lt ↦
          let second = head_is (next (b ∷ []) bytes) (one_more at q r held b other h lt s ∙ ap (λ z. closing (at + 1) (held ++ b ∷ []) z ∷ []) f) in
          let place : at ≡ at + 1 = faults_at (sym first ∙ second) in
          absurd (omega (arith, place))
      | inr ge ↦
          let second = head_is (next (b ∷ []) bytes) (over at q r held [] b other h (omega (arith, ge, h.1)) s) in
          n (faults_what (sym first ∙ second))
    ]
  where
    faults_at : {n m : ℕ} {v w : What} → Fault n v ≡ Fault m w → n ≡ m
    faults_at e = cc

    faults_what : {n m : ℕ} {v w : What} → Fault n v ≡ Fault m w → v ≡ w
    faults_what e = cc

-- spaces behind ETX until a message is too long
spaces : (k at : ℕ) (held : List ℕ) → IsOpen at (Some Info) held → length held + k ≡ 131071 → ahead_of at (Some Info) held (replicate (suc k) 32) ≡ Fault (at + k) TooLong ∷ []
spaces zero at held h e = over at Info Info held [] 32 (omega arith) h (omega (arith, e)) refl ∙ ap (λ n. Fault n TooLong ∷ []) (omega arith)
spaces (suc k) at held h e =
    let on : Leads Info (32 ∷ []) Info = (omega arith, Info, refl, refl) in
    let stands = goes at Info Info held (32 ∷ []) h (omega (arith, e)) on in
    let rest = spaces k (at + 1) (held ++ 32 ∷ []) stands (omega (arith, e, length-append held (32 ∷ []))) in
    sym (goes_ahead at Info Info held (32 ∷ []) (replicate (suc k) 32) h.0) ∙ rest ∙ ap (λ n. Fault n TooLong ∷ []) (omega arith)

info_undecided : (at : ℕ) (held : List ℕ) (x : Found) → IsOpen at (Some Info) held → IsNext x (ahead_of at (Some Info) held) → ⊥
info_undecided at held x h next =
    let first = head_is (next [] (λ k d l. absurd (omega (arith, l)))) (last_of at Info held h) in
    let k = 131071 - length held in
    let second = head_is (next (replicate (suc k) 32) (All-replicate (λ c. c < 256) (suc k) 32 (omega arith))) (spaces k at held h (omega (arith, h.1))) in
    other (sym first ∙ second)
  where
    other : {i : _} {n : ℕ} {w : What} → Story i ≡ Fault n w → ⊥
    other e = cc

phase_undecided : (at : ℕ) (q : Phase) (held : List ℕ) (x : Found) → IsOpen at (Some q) held → IsNext x (ahead_of at (Some q) held) → ⊥
phase_undecided at (Source n) held x h next =
    elim (cases_lt n 8) [
      | inl lt ↦ two_ends at (Source n) (Source (n + 1)) held 97 NoHeader NoHeader x (omega arith) (omega arith) h (ap (λ t. cond t (Go (Source (n + 1))) (Bad NoHeader)) (lt-ltb n 8 lt)) refl refl (λ e. cc) next
      | inr ge ↦ two_ends at (Source n) (Number 1) held 48 NoHeader NoText x (omega arith) (omega arith) h (ap (λ t. cond t (Go (Number 1)) (Bad NoHeader)) (lt-ltb 0 n (omega (arith, ge)))) refl refl (λ e. cc) next
    ]
phase_undecided at (Number n) held x h next = two_ends at (Number n) Head held 32 NoText NoText x (omega arith) (omega arith) h refl refl refl (λ e. cc) next
phase_undecided at Head held x h next = two_ends at Head Head held 32 NoText NoText x (omega arith) (omega arith) h refl refl refl (λ e. cc) next
phase_undecided at Text held x h next = two_ends at Text Text held 32 NoEnd NoEnd x (omega arith) (omega arith) h refl refl refl (λ e. cc) next
phase_undecided at Info held x h next = info_undecided at held x h next

nothing_next : (x : Found) → BeginsWith x [] → ⊥
nothing_next x h = let e = h.1 in cc

open_undecided : (at : ℕ) (ph : Option Phase) (held : List ℕ) (x : Found) → IsOpen at ph held → IsNext x (ahead_of at ph held) → ⊥
open_undecided at None held x h next = nothing_next x (next [] (λ k d l. absurd (omega (arith, l))))
open_undecided at (Some q) held x h next = phase_undecided at q held x h next

undecided_by : (at : ℕ) (ph : Option Phase) (held : List ℕ) (ended : Bool) (x : Found) → IsOpen at ph held → IsNext x (λ more. cond ended [] (ahead_of at ph held more)) → ⊥
undecided_by at ph held true x h next = nothing_next x (next [] (λ k d l. absurd (omega (arith, l))))
undecided_by at ph held false x h next = open_undecided at ph held x h next

pub undecided : (r : Pending) → r.ready ≡ [] → IsOpen r.at r.phase r.held → IsUndecided r
undecided r e h = λ x next. undecided_by r.at r.phase r.held r.ended x h (λ more bytes. subst (λ z. BeginsWith x (z ++ cond r.ended [] (ahead_of r.at r.phase r.held more))) e (next more bytes))

pub if_none : {A : Type 0} (o : Option A) (P Q : Type 0) → (P → Q) → IfNone o P → IfNone o Q
if_none None P Q f h = f h
if_none (Some x) P Q f h = h
