use Rattle.std.proofs.Common.{◌≡◌, ℕ, ◌+◌, ◌<◌, List, ◌∷◌, length, drop, Option, sym, ap, subst, ◌∙◌}
use Rattle.std.proofs.lemmas.List.{at_drop_more}
use Rattle.news_types.specs.declared.query.Due.{Due}
use Rattle.desk_records.specs.declared.slots.Slot.{Slot}
use Rattle.desk_records.specs.Dues.{place_of}
use Rattle.desk_records.specs.Fills.{marked}
use Rattle.desk_records.proofs.Places.{Filling, mark_more, marked_length}
use Rattle.desk_records.proofs.fill.slots_for.Goals as goal

pub loop-one-preserved : goal.loop-one-preserved
loop-one-preserved c =
    let due = c.args.due.now in
    let i = c.loop-one.one-index in
    let d = c.one-item.result in
    let slots = c.loop-one.slots.items in
    let lt : i < length due = c.loop-one-test.true in
    let drops : drop i due ≡ d ∷ drop (i + 1) due = at_drop_more (λ (l : List Due). l) due i d lt ∙ ap (λ (x : Due). x ∷ drop (i + 1) due) (sym c.one-item.is) in
    record {
      len = ap length c.mark.ensures ∙ marked_length c.copied.result d.release slots ∙ c.loop-one.invariant.len;
      filling = λ names is.
          let at : c.copied.result ≡ place_of d.subscriber names = c.copied.ensures ∙ c.get.ensures.value ∙ is.found d.subscriber in
          subst (λ (all : List Slot). Filling all (drop (i + 1) due) due names)
          (sym (c.mark.ensures ∙ ap (λ (o : Option ℕ). marked o d.release slots) at))
          (mark_more slots d (drop (i + 1) due) due names (c.loop-one.invariant.len ∙ is.count)
          (subst (λ (l : List Due). Filling slots l due names) drops (c.loop-one.invariant.filling names is)));
    }
