use Rattle.std.proofs.Common.{List, sym, ap, ◌∙◌}
use Rattle.std.specs.List.{find}
use Rattle.news_types.specs.Names.{Bytes}
use Rattle.feed_reasons.specs.Verdicts.{block, passes, by_products, by_blocks}
use Rattle.products.proofs.Changed.{if_ok_map}
use Rattle.products.proofs.table.Products.verdict_by_blocks.Goals as goal

pub returns-in-Some : goal.returns-in-Some
returns-in-Some c h story keeps judges =
    ap (by_blocks h story c.args.kept.now.products) (sym c.in-Some.is ∙ c.block.ensures h story judges.rules judges.said ∙ ap (block h story) c.as_slice.ensures)

pub returns-in-None : goal.returns-in-None
returns-in-None c =
    if_ok_map c.verdict_by_products.result _ _
    (λ told said h story keeps judges.
    said h story keeps judges
    ∙ ap (λ (names : List Bytes). by_products h story names (find (passes h story) names)) c.as_slice-in-None.ensures
    ∙ ap (by_blocks h story c.args.kept.now.products) (sym c.in-None.is ∙ c.block.ensures h story judges.rules judges.said ∙ ap (block h story) c.as_slice.ensures))
    c.verdict_by_products.ensures
