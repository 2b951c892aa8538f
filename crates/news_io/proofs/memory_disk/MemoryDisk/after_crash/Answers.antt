use Rattle.std.proofs.Common.{◌≡◌, ◌+◌, ◌<◌, ◌≤◌, ◌++◌, [], ◌∷◌, List, ℕ, suc, length, take, get_or, subst, sym, ◌∙◌, ap, arith}
use Rattle.std.proofs.Math.Seq.{take-suc}
use Rattle.std.proofs.lemmas.List.{take_all}
use Rattle.news_io.specs.Replay.{StepsTo, may_hold}
use Rattle.news_io.specs.declared.memory_disk.Event.{Event}
use Rattle.news_io.proofs.Replay.{stepped, one_step}
use Rattle.news_io.proofs.memory_disk.MemoryDisk.after_crash.Goals as goal

abbrev left : List ℕ → List Event → List ℕ → Type 0
left first es c = may_hold (λ (d : List ℕ). d ≡ first) es c

next : (first : List ℕ) (events : List Event) (i : ℕ) (e : Event) (d c : List ℕ) → i < length events → e ≡ get_or events i e → left first (take i events) d → StepsTo e d c → left first (take (i + 1) events) c
next first events i e d c within is before steps =
    let more : i + 1 ≡ suc i = omega arith in
    one_step first (take i events) (take (i + 1) events) e
    (ap (λ (k : ℕ). take k events) more ∙ take-suc events i e within ∙ ap (λ (x : Event). take i events ++ x ∷ []) (sym is))
    c (stepped (left first (take i events)) e d c before steps)

pub loop-event-preserved : goal.loop-event-preserved
loop-event-preserved c = next _ _ _ _ _ _ (subst (λ (es : List Event). c.loop-event.event-index < length es) c.deref-event-items.ensures.value c.loop-event-test.true) (subst (λ (es : List Event). c.event-item.result ≡ get_or es c.loop-event.event-index c.event-item.result) c.deref-event-items.ensures.value c.event-item.is) c.loop-event.invariant c.in_ok-do_again.ensures.step

pub returns : goal.returns
returns c = record { left = subst (λ (es : List Event). left c.args.self.now.first.items es c.loop-event.image.items) (take_all c.loop-event.event-index c.args.self.now.events.items (subst (λ (es : List Event). length es ≤ c.loop-event.event-index) c.deref-event-items.ensures.value c.loop-event-test.false)) c.loop-event.invariant }
