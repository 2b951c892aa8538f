use Rattle.std.proofs.Common.{◌≡◌, None, get_or, take, sym, ap, subst, ◌∙◌}
use Rattle.news_types.specs.declared.query.Due.{Due}
use Rattle.news_types.specs.Names.{is_in}
use Rattle.news_types.specs.Due.{release_to}
use Rattle.publish_queue.specs.Places.{FitsPlace}
use Rattle.publish_queue.specs.Many.{name_of, names_in}
use Rattle.publish_queue.proofs.Many.{here_named, found_as, fresh, one_more, is_due_now, not_yet, spread_step, spread_past}
use Rattle.publish_queue.proofs.queue.Feeds.add.Goals as goal
use Rattle.publish_queue.proofs.queue.Feeds.add.Goals.{in-Some, in_default}

pub add_at-requires-clause-room : goal.add_at-requires-clause-room
add_at-requires-clause-room c d =
    let due = c.args.due.now in
    let k = c.loop-it.it-index in
    let old = c.args.self.now in
    let found = found_as old c.loop-it.self c.loop-it.invariant.names _ _ c.in-Some.ensures.found in
    let here = here_named _ _ _ _ d found in
    let new : release_to (name_of (get_or old.feeds.items c.in-Some.at d)) (take k due) ≡ None = ap (λ t. release_to t (take k due)) here ∙ not_yet due k _ c.requires.differ c.loop-it-test.true c.it-item.is in
    rw (c.loop-it.invariant.spread.kept c.in-Some.at d found.within new)
    (c.requires.roomy c.in-Some.at d found.within (ap (λ t. is_in t (names_in due)) here ∙ is_due_now due k _ c.loop-it-test.true c.it-item.is))

pub add_at-requires-clause-fits : goal.add_at-requires-clause-fits
add_at-requires-clause-fits c =
    subst (λ (d : Due). FitsPlace (record { moment = d.release; number = c.args.number })) (sym c.it-item.is) (c.requires.fits c.loop-it.it-index _ c.loop-it-test.true)

pub loop-it-preserved : goal.loop-it-preserved
loop-it-preserved c =
    let due = c.args.due.now in
    let k = c.loop-it.it-index in
    let inv = c.loop-it.invariant in
    let old = c.args.self.now in
    rw (one_more due k _ c.loop-it-test.true c.it-item.is) (elim c.match-find.branch [
      | in-Some w ↦
          let found = found_as old c.loop-it.self inv.names _ _ w.in-Some.ensures.found in
          rw w.self-is (record {
            names = w.add_at.ensures.names ∙ inv.names;
            spread = spread_step _ _ _ _ _ _ _ _ found (fresh due k _ c.requires.differ c.loop-it-test.true c.it-item.is) inv.spread w.add_at.ensures.sets;
            ordered = λ o. w.add_at.ensures.ordered (inv.ordered o);
          })
      | in_default w ↦
          let none = rw w.in_default.is at c.find.ensures.found in
          rw w.self-is (record {
            names = inv.names;
            spread = spread_past _ _ _ _ _ (rw (old.named, ← inv.names) none) inv.spread;
            ordered = inv.ordered;
          })
    ])
