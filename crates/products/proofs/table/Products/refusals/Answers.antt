use Rattle.std.proofs.Common.{ℕ, List, [], ◌∷◌, ◌++◌, map, take, ap, ◌∙◌, arith}
use Rattle.news_types.specs.Names.{Bytes}
use Rattle.feed_reasons.specs.declared.verdict.Refusal.{Refusal}
use Rattle.feed_reasons.specs.Verdicts.{refusal}
use Rattle.products.proofs.Loops.{map_with}
use Rattle.products.proofs.Told.{told_refusal}
use Rattle.products.proofs.table.Products.refusals.Goals as goal

pub loop-name-preserved : goal.loop-name-preserved
loop-name-preserved c h story keeps judges =
    let xs : List Bytes = c.args.products.now in
    let i : ℕ = c.loop-name.name-index in
    let name : Bytes = c.name-item.result in
    let made : Refusal = record { product = name; filter = c.filter_of-filter.result; matches = c.matches_any-matches.result } in
    c.in_ok-push.ensures.items
    ∙ ap (λ (ys : List Refusal). ys ++ made ∷ []) (c.loop-name.invariant h story keeps judges)
    ∙ ap (λ (r : Refusal). map (refusal h story) (take i xs) ++ r ∷ []) (told_refusal h story name c.filter_of-filter.result c.matches_any-matches.result (c.filter_of-filter.ensures h keeps) (c.matches_any-matches.ensures h story judges))
    ∙ map_with (refusal h story) xs i name (omega arith) c.name-item.is
