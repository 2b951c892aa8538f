use Rattle.std.proofs.Common.{◌≡◌, [], ◌∷◌, ◌++◌, ap, ◌∙◌, map, arith}
use Rattle.std.proofs.lemmas.List.{map-append}
use Rattle.desk_views.specs.Reach.{reached}
use Rattle.desk_questions.specs.declared.reached.ReachLine.{ReachLine}
use Rattle.desk_questions.specs.Reach.{reached_in}
use Rattle.desk_questions.proofs.Listed.{map_one}
use Rattle.desk_questions.proofs.reach.lines_of.Goals as goal

pub loop-subscriber-preserved : goal.loop-subscriber-preserved
loop-subscriber-preserved c = λ h stands.
    let k = c.loop-subscriber.subscriber-index in
    let s = c.subscriber-item.result in
    let rules = c.rules-rules.ensures h stands in
    let front = c.loop-subscriber.invariant h stands in
    let says = c.in_ok-verdict.ensures h c.args.story.now rules (c.in_ok-verdicts.ensures h rules) in
    let had = c.had.ensures h (c.stories-stories.ensures.keeps h stands) in
    let line : ReachLine = record { subscriber = s; verdict = c.in_ok-verdict.verdict; had = c.had.result } in
    let one : reached_in line ≡ reached h c.args.item c.args.story.now c.args.targets.now s = λ j. record { subscriber = s; verdict = says j; had = had j } in
    ap (map reached_in) c.in_ok-push.ensures.items
    ∙ map-append reached_in c.loop-subscriber.rows.items (line ∷ [])
    ∙ (λ j. front j ++ one j ∷ [])
    ∙ map_one (reached h c.args.item c.args.story.now c.args.targets.now) c.subscribers-subscriber-items.result.now k s (omega arith) c.subscriber-item.is
