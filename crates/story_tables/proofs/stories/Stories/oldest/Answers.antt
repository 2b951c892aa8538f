use Rattle.std.proofs.Common.{sym, ◌∙◌, arith}
use Rattle.news_types.specs.Names.{is_in}
use Rattle.news_types.specs.Products.{subscribers}
use Rattle.story_tables.proofs.Viewed.{oldest_untold, oldest_next, oldest_past}
use Rattle.story_tables.proofs.stories.Stories.oldest.Goals as goal

pub returns-in_err-facts : goal.returns-in_err-facts
returns-in_err-facts c h keeps =
    let s = c.args.subscriber.now in
    c.from_residual.ensures ∙ oldest_untold h s (is_in s (subscribers h)) (sym c.in_err-facts.was ∙ c.facts.ensures _ keeps.queue)

pub returns-then-facts : goal.returns-then-facts
returns-then-facts c h keeps =
    let s = c.args.subscriber.now in
    oldest_next h s (is_in s (subscribers h)) c.in_ok-facts.facts c.release.result (sym c.in_ok-facts.was ∙ c.facts.ensures _ keeps.queue) (c.release.ensures _ keeps.queue)

pub returns : goal.returns
returns c h keeps =
    let s = c.args.subscriber.now in
    oldest_past h s (is_in s (subscribers h)) c.in_ok-facts.facts (sym c.in_ok-facts.was ∙ c.facts.ensures _ keeps.queue) (omega (arith, c.if-facts.false))
