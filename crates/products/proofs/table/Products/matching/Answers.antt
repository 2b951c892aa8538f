use Rattle.std.proofs.Common.{◌≡◌, ℕ, ◌<◌, Bool, List, [], ◌∷◌, ◌++◌, length, sym, ap, ◌∙◌, arith}
use Rattle.news_types.specs.Names.{Bytes}
use Rattle.news_types.specs.Filters.{matches}
use Rattle.products.proofs.Loops.{filter_with, filter_without}
use Rattle.products.proofs.table.Products.matching.Goals as goal
use Rattle.products.proofs.table.Products.matching.Goals.{then-matches_with+in_ok-push, else-matches_with}

pub loop-name-preserved : goal.loop-name-preserved
loop-name-preserved c h story judges =
    let test : Bytes → Bool = λ name. matches h name story in
    let said : c.matches_with.result ≡ test c.name-item.result = c.matches_with.ensures h story judges.rules judges.said in
    let before = c.loop-name.invariant h story judges in
    let xs : List Bytes = c.args.names.now in
    let i : ℕ = c.loop-name.name-index in
    let name : Bytes = c.name-item.result in
    let lt : i < length xs = omega arith in
    elim c.if-matches_with.branch [
      | then-matches_with+in_ok-push w ↦ rw w.matching-is (w.in_ok-push.ensures.items ∙ ap (λ ys. ys ++ name ∷ []) before ∙ filter_with test xs i name lt c.name-item.is (sym said ∙ w.if-matches_with.true))
      | else-matches_with w ↦ rw w.matching-is (before ∙ filter_without test xs i name lt c.name-item.is (sym said ∙ w.if-matches_with.false))
    ]
