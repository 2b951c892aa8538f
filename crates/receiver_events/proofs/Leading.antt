-- Events lead a receiver from list to list, one frame at a time.
use Rattle.std.proofs.Common.{◌≡◌, inl, inr, ◌+◌, List, [], ◌∷◌, ◌++◌, length, refl, sym, ap, ◌∙◌, arith, append_assoc, length-append}
use Rattle.std.proofs.lemmas.List.{append-nil}
use Rattle.news_types.specs.Names.{Bytes}
use Rattle.news_types.specs.Frames.{Frame, Writer}
use Rattle.world_laws.specs.World.{World, Event, happens, run}
use Rattle.world_laws.proofs.Bridge.{calls_are_events}
use Rattle.receiver_events.specs.Receptions.{Front, Lead}
use Rattle.receiver_events.proofs.Frames.{beginnings, none_more, Goes}

pub run_on : (write : Writer) (first second : List Event) (w : World) → run write (first ++ second) w ≡ run write second (run write first w)
run_on write first second w = calls_are_events.runs write first second w

module _ (write : Writer) (name : Bytes) where
  abbrev held_in : World → List Frame
  held_in w = (w.receivers name).held

  -- without an event
  pub lead_none : (w : World) → Lead write w name [] (w.receivers name).held
  lead_none w = record {
    holds = refl;
    each = λ part more later beyond within.
        let long : length part ≡ length (held_in w) + length more = ap length beyond ∙ length-append (held_in w) more in
        let whole : length (held_in w) ≡ length part + length later = ap length within ∙ length-append part later in
        let none : more ≡ [] = none_more more (omega (arith, long, whole)) in
        record { front = []; rest = []; events_are = refl; holds = sym (beyond ∙ ap (λ (l : List Frame). held_in w ++ l) none ∙ append-nil (held_in w)) };
  }

  -- by one event that brings one frame at most
  pub lead_one : (w : World) (e : Event) → Goes (w.receivers name).held ((happens write w e).receivers name).held → Lead write w name (e ∷ []) ((happens write w e).receivers name).held
  lead_one w e goes = record { holds = refl; each = by }
    where
      next : List Frame
      next = held_in (happens write w e)

      by : (part more later : List Frame) → part ≡ held_in w ++ more → held_in (happens write w e) ≡ part ++ later → Front write w name (e ∷ []) part
      by part [] later beyond within = record { front = []; rest = e ∷ []; events_are = refl; holds = sym (beyond ∙ append-nil (held_in w)) }
      by part (f ∷ more) later beyond within =
          let long : length part ≡ length (held_in w) + length (f ∷ more) = ap length beyond ∙ length-append (held_in w) (f ∷ more) in
          let whole : length (held_in (happens write w e)) ≡ length part + length later = ap length within ∙ length-append part later in
          let few : length (held_in (happens write w e)) ≡ length (held_in w) + length goes.more = ap length goes.is ∙ length-append (held_in w) goes.more in
          let none : later ≡ [] = none_more later (omega (arith, long, whole, few, goes.few)) in
          record { front = e ∷ []; rest = []; events_are = refl; holds = within ∙ ap (λ (l : List Frame). part ++ l) none ∙ append-nil part }

  -- by some events, and then by others
  pub lead_then : (w : World) (first second : List Event) (g h : List Frame) → Lead write w name first g → Lead write (run write first w) name second h → (more : List Frame) × (h ≡ g ++ more) → Lead write w name (first ++ second) h
  lead_then w first second g h one two goes = record { holds = ap (λ (v : World). held_in v) (run_on write first second w) ∙ two.holds; each = each }
    where
      each : (part more later : List Frame) → part ≡ held_in w ++ more → h ≡ part ++ later → Front write w name (first ++ second) part
      each part more later beyond within = elim (beginnings part g later goes.0 (sym within ∙ goes.1)) [
        | inl m ↦
            let f = one.each part more m.0 beyond m.1 in
            record { front = f.front; rest = f.rest ++ second; events_are = ap (λ (l : List Event). l ++ second) f.events_are ∙ append_assoc f.front f.rest second; holds = f.holds }
        | inr m ↦
            let f = two.each part m.0 later (m.1 ∙ ap (λ (l : List Frame). l ++ m.0) (sym one.holds)) within in
            record {
              front = first ++ f.front;
              rest = f.rest;
              events_are = ap (λ (l : List Event). first ++ l) f.events_are ∙ sym (append_assoc first f.front f.rest);
              holds = ap (λ (v : World). held_in v) (run_on write first f.front w) ∙ f.holds;
            }
      ]
