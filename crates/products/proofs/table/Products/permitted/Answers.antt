use Rattle.std.proofs.Common.{sym, subst}
use Rattle.products.specs.Asked.{Judges, AreBlocking}
use Rattle.products.proofs.table.Products.permitted.Goals as goal

pub returns : goal.returns
returns c h keep =
    let story = c.args.story.now in
    let judges : Judges c.in_ok-verdicts.verdicts c.args.filters.now h story =
    record { rules = keep.rules; said = c.in_ok-verdicts.ensures h keep.rules } in
    c.is_permitted.ensures h story keep.table judges (subst (λ names. AreBlocking names h story) (sym c.deref.ensures.value) (c.in_ok-blocking.ensures h story judges))
