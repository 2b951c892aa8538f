-- One event more of a disk in memory.
use Rattle.std.proofs.Common.{◌≡◌, ◌⊎◌, inl, inr, ℕ, ◌+◌, ◌-◌, ◌≤◌, ◌<◌, List, [], ◌∷◌, ◌++◌, length, take, Vec, sym, ◌∙◌, ap, subst, arith, length-append}
use Rattle.std.proofs.lemmas.List.{take-append-le, take_all, take_at}
use Rattle.std.proofs.lemmas.Bool.{cases_lt}
use Rattle.std.specs.declared.alloc.Global.{Global}
use Rattle.news_io.specs.Disk.{Torn}
use Rattle.news_io.specs.Replay.{step, StepsTo, may_hold, left_from, Tells}
use Rattle.news_io.specs.Moments.{Elapses}
use Rattle.news_io.specs.declared.memory_disk.Event.{Event}
use Rattle.news_io.specs.declared.memory_disk.Event.TheVariants.{Write, Sync}

hold_last : (P : List ℕ → Type 0) (es : List Event) (e : Event) (c : List ℕ) → may_hold P (es ++ e ∷ []) c → step e (may_hold P es) c
hold_last P [] e c h = h
hold_last P (x ∷ es) e c h = hold_last (step x P) es e c h

hold_more : (P : List ℕ → Type 0) (es : List Event) (e : Event) (c : List ℕ) → step e (may_hold P es) c → may_hold P (es ++ e ∷ []) c
hold_more P [] e c h = h
hold_more P (x ∷ es) e c h = hold_more (step x P) es e c h

module _ (first : List ℕ) (events events' : List Event) (e : Event) (is : events' ≡ events ++ e ∷ []) where
  abbrev held : List Event → List ℕ → Type 0
  held es c = may_hold (λ (d : List ℕ). d ≡ first) es c

  pub last_step : (c : List ℕ) → may_hold (λ (d : List ℕ). d ≡ first) events' c → step e (may_hold (λ (d : List ℕ). d ≡ first) events) c
  last_step c h = hold_last _ events e c (subst (λ es. held es c) is h)

  pub one_step : (c : List ℕ) → step e (may_hold (λ (d : List ℕ). d ≡ first) events) c → may_hold (λ (d : List ℕ). d ≡ first) events' c
  one_step c h = subst (λ es. held es c) (sym is) (hold_more _ events e c h)

  size : length events' ≡ length events + 1
  size = ap length is ∙ length-append events (e ∷ [])

  front : (k : ℕ) → k ≤ length events → take k events' ≡ take k events
  front k le = ap (λ es. take k es) is ∙ take-append-le k events (e ∷ []) le

  pub elapses_pushed : Elapses (length events) (length events') (λ t c. left_from first events t c) (λ t c. left_from first events' t c) (λ c. may_hold (λ (d : List ℕ). d ≡ first) events' c)
  elapses_pushed = record {
    later = omega (arith, size);
    nothing_else = λ t c le left. by_place t c left (cases_lt (length events) left.0);
    keeps = λ t c le left. (left.0, left.1, omega (arith, left.2, size), subst (λ es. held es c) (sym (front left.0 left.2)) left.3);
  }
    where
      by_place : (t : ℕ) (c : List ℕ) (left : left_from first events' t c) → (length events < left.0) ⊎ (left.0 ≤ length events) → left_from first events t c ⊎ may_hold (λ (d : List ℕ). d ≡ first) events' c
      by_place t c left (inr before) = inl (left.0, left.1, before, subst (λ es. held es c) (front left.0 before) left.3)
      by_place t c left (inl after) = inr (subst (λ es. held es c) (take_all left.0 events' (omega (arith, size))) left.3)

module _ (first : List ℕ) (events events' : List Event) (old new : List ℕ) where
  pub tells_written : (at n : ℕ) → events' ≡ events ++ Write at n ∷ [] → Tells first events old → Torn at n old new → at + n ≤ length new → Tells first events' new
  tells_written at n is tells torn long = record {
    holds = one_step first events events' (Write at n) is new (old, tells.holds, torn);
    no_longer = λ c left.
        let from = last_step first events events' (Write at n) is c left in
        omega (arith, tells.no_longer from.0 from.1, from.2.no_longer, torn.no_shorter, long);
  }

pub tells_synced : (first : List ℕ) (events events' : List Event) (old : List ℕ) (v : Vec ℕ Global) → events' ≡ events ++ Sync v ∷ [] → v.items ≡ old → Tells first events' old
tells_synced first events events' old v is same = record {
  holds = one_step first events events' (Sync v) is old (sym same);
  no_longer = λ c left. omega (arith, ap length (last_step first events events' (Sync v) is c left), ap length same);
}

pub undone : (events after back : List Event) (e : Event) → after ≡ events ++ e ∷ [] → back ≡ take (length after - 1) after → back ≡ events
undone events after back e is cut = cut ∙ ap (λ es. take (length es - 1) es) is ∙ take_at events (e ∷ []) (length (events ++ e ∷ []) - 1) (omega (arith, length-append events (e ∷ [])))

-- one event more of which a crash left this
pub stepped : (P : List ℕ → Type 0) (e : Event) (d c : List ℕ) → P d → StepsTo e d c → step e P c
stepped P (Write at n) d c holds steps = (d, holds, steps)
stepped P (Sync bytes) d c holds steps = steps
