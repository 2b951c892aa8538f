-- The commands of the stories of a drill, and how many there are.
use Rattle.std.proofs.Common.{◌≡◌, ℕ, zero, suc, ◌+◌, ◌-◌, ◌*◌, ◌<◌, ◌≤◌, Bool, true, false, if◌then◌else◌, List, [], ◌∷◌, ◌++◌, length, lit≤, refl, sym, ap, ◌∙◌, arith}
use Rattle.std.proofs.lemmas.List.{length-append}
use Rattle.news_types.specs.declared.command.Command.{Command}
use Rattle.drill_plan.specs.Draws.{next, draw}
use Rattle.drill_plan.specs.Stories.{moment_of, has_embargo, steps_of}
use Rattle.drill_plan.specs.Plan.{at, stories}

at_most_three : {A : Type 0} (b : Bool) (x y z w : A) → length (if b then x ∷ y ∷ z ∷ [] else w ∷ []) ≤ 3
at_most_three true x y z w = lit≤ tt
at_most_three false x y z w = lit≤ tt

pub length-steps_of : (j r : ℕ) → length (steps_of j r) ≤ 3
length-steps_of j r = at_most_three (has_embargo r) _ _ _ _

length-at : (m : ℕ) (commands : List Command) → length (at m commands) ≡ length commands
length-at m [] = refl
length-at m (c ∷ commands) = let rest = length-at m commands in omega (arith, rest)

pub length-stories : (n j x : ℕ) → length (stories n j x) ≤ 3 * n
length-stories zero j x = lit≤ tt
length-stories (suc n) j x =
    let first = length-steps_of j (draw x) in
    let these = length-at (moment_of j) (steps_of j (draw x)) in
    let rest = length-stories n (j + 1) (next x) in
    let all = length-append (at (moment_of j) (steps_of j (draw x))) (stories n (j + 1) (next x)) in
    omega (arith, first, these, rest, all)

-- how many requests are to come at most
pub length-commands : (m : ℕ) (due : List Command) (n j x : ℕ) → length (at m due ++ stories n j x) ≤ length due + 3 * n
length-commands m due n j x =
    let first = length-at m due in
    let rest = length-stories n j x in
    let all = length-append (at m due) (stories n j x) in
    omega (arith, first, rest, all)

one_more : (due : List Command) (story n x g : ℕ) → due ≡ steps_of (story + 1) (draw x) → g ≡ next x → at (moment_of (story + 1)) due ++ stories (suc n - 1) (story + 1 + 1) g ≡ stories (suc n) (story + 1) x
one_more due story n x g steps drawn =
    let same : suc n - 1 ≡ n = omega arith in
    ap (λ d. at (moment_of (story + 1)) d ++ stories (suc n - 1) (story + 1 + 1) g) steps
    ∙ ap (λ k. at (moment_of (story + 1)) (steps_of (story + 1) (draw x)) ++ stories k (story + 1 + 1) g) same
    ∙ ap (λ y. at (moment_of (story + 1)) (steps_of (story + 1) (draw x)) ++ stories n (story + 1 + 1) y) drawn

-- where nothing is due, the next story comes
pub going_on : (due fresh : List Command) (story left x g : ℕ) → due ≡ [] → 0 < left → fresh ≡ steps_of (story + 1) (draw x) → g ≡ next x → at (moment_of (story + 1)) fresh ++ stories (left - 1) (story + 1 + 1) g ≡ at (moment_of story) due ++ stories left (story + 1) x
going_on due fresh story zero x g nothing some steps drawn = let none : ⊥ = omega (arith, some) in absurd none
going_on due fresh story (suc n) x g nothing some steps drawn = one_more fresh story n x g steps drawn ∙ ap (λ d. at (moment_of story) d ++ stories (suc n) (story + 1) x) (sym nothing)
