use Rattle.std.proofs.Common.{◌≡◌, ℕ, ◌<◌, Bool, ◌||◌, List, [], ◌∷◌, ◌++◌, length, get_or, sym, subst, ap, ◌∙◌, arith}
use Rattle.news_types.specs.Names.{Bytes, is_in}
use Rattle.news_types.specs.Products as facts
use Rattle.products.specs.Asked.{Judges, AreBlocking}
use Rattle.products.proofs.Loops.{filter_with, filter_without}
use Rattle.products.proofs.table.Products.permitted_names.Goals as goal
use Rattle.products.proofs.table.Products.permitted_names.Goals.{then-is_due+in_ok-push, else-is_due}

pub loop-name-preserved : goal.loop-name-preserved
loop-name-preserved c h keep =
    let story = c.args.story.now in
    let test : Bytes → Bool = λ s. facts.permitted h story c.args.targets.now s || is_in s c.args.earlier.now in
    let judges : Judges c.in_ok-verdicts.verdicts c.args.filters.now h story =
    record { rules = keep.rules; said = c.in_ok-verdicts.ensures h keep.rules } in
    let due : c.is_due.result ≡ test c.name-item.result = c.is_due.ensures h story keep.table judges (subst (λ names. AreBlocking names h story) (sym c.deref.ensures.value) (c.in_ok-blocking.ensures h story judges)) in
    let before = c.loop-name.invariant h keep in
    let xs : List Bytes = c.args.self.now.names.items in
    let i : ℕ = c.loop-name.name-index in
    let name : Bytes = c.name-item.result in
    let listed : c.deref-name-items.result.now ≡ xs = c.deref-name-items.ensures.value in
    let lt : i < length xs = rw (← listed) (omega arith) in
    let is : name ≡ get_or xs i name = rw (← listed) c.name-item.is in
    elim c.if-is_due.branch [
      | then-is_due+in_ok-push w ↦ rw w.names-is (w.in_ok-push.ensures.items ∙ ap (λ ys. ys ++ name ∷ []) before ∙ filter_with test xs i name lt is (sym due ∙ w.if-is_due.true))
      | else-is_due w ↦ rw w.names-is (before ∙ filter_without test xs i name lt is (sym due ∙ w.if-is_due.false))
    ]
