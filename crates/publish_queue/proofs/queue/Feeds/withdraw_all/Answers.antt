use Rattle.std.proofs.Common.{refl, ◌∙◌}
use Rattle.publish_queue.proofs.Many.{found_as, one_more}
use Rattle.publish_queue.proofs.Spanned.{spanned_none, spanned_step, spanned_past}
use Rattle.publish_queue.proofs.queue.Feeds.withdraw_all.Goals as goal
use Rattle.publish_queue.proofs.queue.Feeds.withdraw_all.Goals.{in-Some, in_default}

pub loop-span-init : goal.loop-span-init
loop-span-init c = record { names = refl; each = spanned_none c.args.numbers.now c.args.self.now.feeds.items; turns = refl }

pub loop-span-preserved : goal.loop-span-preserved
loop-span-preserved c =
    let spans = c.args.spans.now in
    let k = c.loop-span.span-index in
    let inv = c.loop-span.invariant in
    let old = c.args.self.now in
    rw (one_more spans k _ c.loop-span-test.true c.span-item.is) (elim c.match-find.branch [
      | in-Some w ↦
          let found = found_as old c.loop-span.self inv.names _ _ w.in-Some.ensures.found in
          rw w.self-is (record {
            names = w.withdraw_at.ensures.names ∙ inv.names;
            each = spanned_step _ _ _ _ _ _ _ _ found inv.each w.withdraw_at.ensures.sets;
            turns = w.withdraw_at.ensures.turns ∙ inv.turns;
          })
      | in_default w ↦
          let none = rw w.in_default.is at c.find.ensures.found in
          rw w.self-is (record { names = inv.names; each = spanned_past _ _ _ _ _ (rw (old.named, ← inv.names) none) inv.each; turns = inv.turns })
    ])
