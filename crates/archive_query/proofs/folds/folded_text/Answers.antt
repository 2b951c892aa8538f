use Rattle.std.proofs.Common.{◌∙◌, length, sym, eqb-true}
use Rattle.archive_query.proofs.Folding.{all_folded}
use Rattle.archive_query.proofs.folds.folded_text.Goals as goal

pub returns : goal.returns
returns c =
    all_folded c.loop-rest.out.items c.loop-rest.rest.now c.args.text.now c.loop-rest.invariant.1 (eqb-true (length c.loop-rest.rest.now) 0 (sym c.is_empty.ensures ∙ c.loop-rest-test.false))
