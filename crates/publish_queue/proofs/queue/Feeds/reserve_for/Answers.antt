use Rattle.std.proofs.Common.{◌∙◌}
use Rattle.publish_queue.proofs.Many.{found_at, names_so_far, each_then_sets, roomy_step, roomy_past}
use Rattle.publish_queue.proofs.queue.Feeds.reserve_for.Goals as goal
use Rattle.publish_queue.proofs.queue.Feeds.reserve_for.Goals.{in-Some+in_ok-reserve_at, in_default}

pub loop-it-preserved : goal.loop-it-preserved
loop-it-preserved c =
    let due = c.args.due.now in
    let k = c.loop-it.it-index in
    let inv = c.loop-it.invariant in
    let now = c.loop-it.self in
    rw (names_so_far due k _ c.loop-it-test.true c.it-item.is) (elim c.match-find.branch [
      | in-Some+in_ok-reserve_at w ↦ rw w.self-is (record {
        names = w.reserve_at.ensures.names ∙ inv.names;
        alike = each_then_sets _ _ _ _ inv.alike w.reserve_at.ensures.sets;
        turns = w.reserve_at.ensures.turns ∙ inv.turns;
        place = λ spare. w.reserve_at.ensures.place (inv.place spare);
        roomy = roomy_step _ _ _ _ _ _ (found_at now _ _ w.in-Some.ensures.found) inv.roomy w.reserve_at.ensures.sets w.in_ok-reserve_at.ensures.ok;
      })
      | in_default w ↦
          let none = rw w.in_default.is at c.find.ensures.found in
          rw w.self-is (record {
            names = inv.names;
            alike = inv.alike;
            turns = inv.turns;
            place = inv.place;
            roomy = roomy_past _ _ _ (rw now.named none) inv.roomy;
          })
    ])
