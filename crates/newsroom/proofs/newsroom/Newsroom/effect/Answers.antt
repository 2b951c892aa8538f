use Rattle.std.proofs.Common.{◌≡◌, ◌==◌, false, ap, ◌∙◌, arith}
use Rattle.std.specs.Prelude.{is_some}
use Rattle.std.proofs.lemmas.Bool.Decides.{nat_tests}
use Rattle.news_types.specs.Publications.{item}
use Rattle.story_tables.specs.Ingests.{effect_of}
use Rattle.newsroom.proofs.Ingested.{effect_known, held_told}
use Rattle.newsroom.proofs.newsroom.Newsroom.effect.Goals as goal

pub returns : goal.returns
returns c h stands =
    let i = c.in_ok-item.item in
    let some = c.if-item-eq0.false in
    let no : (c.in_ok-item.item == 0) ≡ false = grind (arith, nat_tests) in
    effect_known h c.args.provider.now c.args.come.now c.args.moment i (c.in_ok-item.ensures h stands.stories) (effect_of c.effect_on.result) no
    (c.effect_on.ensures h stands.stories (c.is_held-held.ensures ∙ ap is_some (c.holder.ensures h stands.rules) ∙ held_told (item h i)))
