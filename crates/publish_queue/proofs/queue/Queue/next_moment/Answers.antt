use Rattle.std.proofs.Common.{◌≡◌, ◌+◌, drop, sym, ap, ◌∙◌}
use Rattle.std.proofs.lemmas.List.{at_drop_more, at_drop_all}
use Rattle.publish_queue.specs.Choice.{soonest, later_moment_of}
use Rattle.publish_queue.specs.Coming.{sooner}
use Rattle.publish_queue.proofs.Choosing.{sooner_assoc, sooner_none}
use Rattle.publish_queue.proofs.queue.Queue.next_moment.Goals as goal

pub loop-name-preserved : goal.loop-name-preserved
loop-name-preserved c known keeps =
    let moment = later_moment_of known in
    let names = c.args.names.now in
    let k = c.loop-name.name-index in
    let s = c.name-item.result in
    let later : c.later_moment.result ≡ moment s = c.later_moment.ensures known keeps in
    let here : soonest moment (drop k names) ≡ sooner (moment s) (soonest moment (drop (k + 1) names)) = at_drop_more (soonest moment) names k s c.loop-name-test.true ∙ ap (λ t. sooner (moment t) (soonest moment (drop (k + 1) names))) (sym c.name-item.is) in
    c.loop-name.invariant known keeps ∙ ap (sooner c.loop-name.next) here ∙ sym (sooner_assoc c.loop-name.next (moment s) (soonest moment (drop (k + 1) names)))
    ∙ ap (λ o. sooner o (soonest moment (drop (k + 1) names))) (ap (sooner c.loop-name.next) (sym later) ∙ sym c.sooner_of-next.ensures)

pub returns : goal.returns
returns c known keeps =
    let moment = later_moment_of known in
    sym (c.loop-name.invariant known keeps ∙ ap (sooner c.loop-name.next) (at_drop_all (soonest moment) c.args.names.now c.loop-name.name-index c.loop-name-test.false) ∙ sooner_none c.loop-name.next)
