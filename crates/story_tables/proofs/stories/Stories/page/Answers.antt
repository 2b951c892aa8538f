use Rattle.std.proofs.Common.{sym, ◌≡◌, ◌<◌, ◌+◌, ◌∙◌, ℕ, Some, List, length, min, ap, arith}
use Rattle.std.specs.Option.{option_map}
use Rattle.news_types.proofs.Members.{some_is}
use Rattle.news_types.specs.Feeds.{Dispatch, feed}
use Rattle.story_tables.specs.Pages.{row_of}
use Rattle.story_tables.proofs.Listed.{there_at, numbered_next, page_row, page_whole}
use Rattle.story_tables.proofs.stories.Stories.page.Goals as goal
use Rattle.story_tables.proofs.stories.Stories.page.Goals.{in-Some+in_ok-push, in_default}

pub loop-k-preserved : goal.loop-k-preserved
loop-k-preserved c h stands there count =
    let l : List Dispatch = feed h c.args.subscriber.now in
    let k : ℕ = c.loop-k.k in
    let within : k < length l = omega (arith, count, c.min-end.ensures, c.loop-k-test.true) in
    let at = there_at l k within in
    let told : c.row.result ≡ Some (row_of (k + 1) at.0) = c.row.ensures h stands there ∙ ap (option_map (row_of (k + 1))) (numbered_next l k at.0 at.1) in
    elim c.match-row.branch [
      | in-Some+in_ok-push w ↦
          page_row l k c.min-end.result at.0 c.loop-k.rows.items c.match-row.rows.items _ w.in-Some.row c.loop-k-test.true at.1 (some_is _ _ (sym w.in-Some.is ∙ told))
          (rw w.rows-is w.in_ok-push.ensures.items) (c.loop-k.invariant h stands there count)
      | in_default w ↦ absurd (w.in_default.not-Some _ told)
    ]

pub returns : goal.returns
returns c h stands there count =
    let l : List Dispatch = feed h c.args.subscriber.now in
    let end : c.min-end.result ≡ min (length l) (c.args.after + 100) = omega (arith, count, c.min-end.ensures, c.saturating_add.ensures, c.ranges.count.fits) in
    c.of.ensures ∙ page_whole l c.args.after c.loop-k.k c.min-end.result _ c.loop-k-test.false end (c.loop-k.invariant h stands there count)
