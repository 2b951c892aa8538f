-- What a disk in memory may leave, by what was done to it.
use Rattle.std.specs.Prelude.{◌≡◌, ◌≤◌, ℕ, List, [], ◌∷◌, length, take}
use Rattle.std.proofs.Common.{subst, sym, arith}
use Rattle.std.proofs.lemmas.List.{take_all}
use Rattle.news_io.specs.Disk.{Torn}
use Rattle.news_io.specs.declared.memory_disk.Event.{Event}
use Rattle.news_io.specs.declared.memory_disk.Event.TheVariants.{Write, Sync}

-- a write may be torn; after a sync there is what was there
abbrev pub step : Event → (List ℕ → Type 0) → List ℕ → Type 0
step (Write at n) P c = (d : List ℕ) × P d × Torn at n d c
step (Sync bytes) P c = c ≡ bytes.items

-- one outcome of a crash behind another
abbrev pub StepsTo : Event → List ℕ → List ℕ → Type 0
StepsTo (Write at n) d c = Torn at n d c
StepsTo (Sync bytes) d c = c ≡ bytes.items

-- what a crash may leave after these events
abbrev pub may_hold : (List ℕ → Type 0) → List Event → List ℕ → Type 0
may_hold P [] c = P c
may_hold P (e ∷ es) c = may_hold (step e P) es c

-- what a crash may have left after the first t events or later
abbrev pub left_from : List ℕ → List Event → ℕ → List ℕ → Type 0
left_from first events t c = (k : ℕ) × (t ≤ k) × (k ≤ length events) × may_hold (λ (d : List ℕ). d ≡ first) (take k events) c

pub counts_last : (first : List ℕ) (events : List Event) (t : ℕ) (c : List ℕ) → t ≤ length events → may_hold (λ (d : List ℕ). d ≡ first) events c → left_from first events t c
counts_last first events t c le now = (length events, le, omega arith, subst (λ (l : List Event). may_hold (λ (d : List ℕ). d ≡ first) l c) (sym (take_all (length events) events (omega arith))) now)

pub only_last : (first : List ℕ) (events : List Event) (c : List ℕ) → left_from first events (length events) c → may_hold (λ (d : List ℕ). d ≡ first) events c
only_last first events c left = subst (λ (l : List Event). may_hold (λ (d : List ℕ). d ≡ first) l c) (take_all left.0 events left.1) left.3

-- what a read gives may be left, and nothing longer
pub record Tells (first : List ℕ) (events : List Event) (bytes : List ℕ) : Type 0 where
  pub holds : may_hold (λ (d : List ℕ). d ≡ first) events bytes
  pub no_longer : (c : List ℕ) → may_hold (λ (d : List ℕ). d ≡ first) events c → length c ≤ length bytes
