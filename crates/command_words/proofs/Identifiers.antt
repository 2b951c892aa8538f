-- What the words of a command line are read as.
use Rattle.std.proofs.Common.{◌≡◌, ◌∙◌, ◌≤◌, ◌<◌, ℕ, ◌-◌, Bool, false, ◌||◌, List, [], ◌∷◌, get_or, length, take, drop, Option, Some, None, refl, sym, ap, arith}
use Rattle.std.proofs.lemmas.List.{take_all}
use Rattle.std.specs.Option.{option_map}
use Rattle.news_types.specs.Names.{Bytes, same}
use Rattle.command_words.specs.Words.{long_job, wide_job, job_by, names}
use Rattle.command_words.specs.declared.words.Job.TheVariants.{Init, StandIn}

-- an identifier that is none asks for nothing
pub no_job : (o : Option (List ℕ)) → ((u : List ℕ) × (o ≡ Some u) → ⊥) → None ≡ option_map Init o
no_job None none = refl
no_job (Some u) none = absurd (none (u, refl))

pub no_standby : (o : Option (List ℕ)) → ((u : List ℕ) × (o ≡ Some u) → ⊥) → None ≡ option_map StandIn o
no_standby None none = refl
no_standby (Some u) none = absurd (none (u, refl))

-- one word behind the store
pub by_one : (verb : Bytes) (words : List Bytes) → 1 ≤ length words → length words < 2 → (identifier : Bytes) → identifier ≡ get_or words 0 identifier → long_job verb identifier ≡ job_by verb words
by_one verb (a ∷ []) low high identifier is = ap (long_job verb) is
by_one verb (a ∷ b ∷ more) low high identifier is = absurd (omega (arith, high))
by_one verb [] low high identifier is = absurd (omega (arith, low))

-- two words
pub by_two : (verb : Bytes) (words : List Bytes) → 2 ≤ length words → length words < 3 → (first second : Bytes) → first ≡ get_or words 0 first → second ≡ get_or words 1 second → wide_job verb first second ≡ job_by verb words
by_two verb (a ∷ b ∷ []) low high first second first_is second_is = ap (λ (f : Bytes). wide_job verb f second) first_is ∙ ap (wide_job verb a) second_is
by_two verb (a ∷ b ∷ c ∷ more) low high first second first_is second_is = absurd (omega (arith, high))
by_two verb (a ∷ []) low high first second first_is second_is = absurd (omega (arith, low))
by_two verb [] low high first second first_is second_is = absurd (omega (arith, low))

-- a name that the first pair has not
pub names_on : (pairs : List Bytes) (name other : Bytes) → 2 ≤ length pairs → other ≡ get_or pairs 0 other → same other name ≡ false → names (take (length pairs - 2) (drop 2 pairs)) name ≡ names pairs name
names_on (a ∷ b ∷ more) name other low is not =
    ap (λ (l : List Bytes). names l name) (take_all (length (a ∷ b ∷ more) - 2) more (omega arith)) ∙ ap (λ (t : Bool). t || names more name) (sym (ap (λ (o : Bytes). same o name) (sym is) ∙ not))
names_on (a ∷ []) name other low is not = absurd (omega (arith, low))
names_on [] name other low is not = absurd (omega (arith, low))
