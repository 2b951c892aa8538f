use Rattle.std.proofs.Common.{◌≡◌, ◌<◌, true, cond, Some, None, length, sym, ap, ◌∙◌, arith}
use Rattle.news_types.proofs.Members.{some_is}
use Rattle.story_tables.specs.Reports.{queue_row}
use Rattle.news_types.specs.Names.{is_in}
use Rattle.publish_queue.proofs.ByName.{present}
use Rattle.story_tables.proofs.Reported.{rows_next, rows_whole}
use Rattle.story_tables.proofs.stories.Stories.report_on.Goals as goal
use Rattle.story_tables.proofs.stories.Stories.report_on.Goals.{in-Some+in_ok-push, in_default}

pub loop-name-preserved : goal.loop-name-preserved
loop-name-preserved c h keeps alike =
    let names = c.args.names.now in
    let k = c.loop-name.name-index in
    let within : k < length names = omega arith in
    let there : is_in c.name-item.result names ≡ true = present c.name-item.result names k c.name-item.result within (sym c.name-item.is) in
    let told : c.queue_row.result ≡ Some (queue_row h c.name-item.result) =
    c.queue_row.ensures h keeps ∙ ap (λ b. cond b (Some (queue_row h c.name-item.result)) None) (sym (alike c.name-item.result) ∙ there) in
    elim c.match-queue_row.branch [
      | in-Some+in_ok-push w ↦
          rows_next h names k c.name-item.result c.loop-name.rows.items c.match-queue_row.rows.items _ w.in-Some.row within c.name-item.is (some_is _ _ (sym w.in-Some.is ∙ told))
          (rw w.rows-is w.in_ok-push.ensures.items) (c.loop-name.invariant h keeps alike)
      | in_default w ↦ absurd (w.in_default.not-Some _ told)
    ]

pub returns : goal.returns
returns c h keeps alike = c.of.ensures ∙ rows_whole h c.args.names.now c.loop-name.name-index _ _ (omega (arith, c.loop-name-test.false)) (c.loop-name.invariant h keeps alike)
