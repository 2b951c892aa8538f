use Rattle.std.proofs.Common.{◌∙◌, ◌++◌, ◌∷◌, [], List, sym, ap, take}
use Rattle.std.proofs.lemmas.Result.{err_from_is_err_and}
use Rattle.news_io.specs.declared.record.Record.{Record}
use Rattle.room_standby.proofs.Copying.{taken_more, are_more, bad_here}
use Rattle.room_standby.proofs.opening.copies.Goals as goal

pub returns-in_err-check-clause-fault : goal.returns-in_err-check-clause-fault
returns-in_err-check-clause-fault c =
    let inv = c.loop-here.invariant in
    let given = err_from_is_err_and c.from_residual-in_err-check.result c.from_residual-in_err-check.ensures.1 in
    rw (given.1, given.2) (bad_here c.args.records.now c.loop-here.here-index c.here-item.result c.loop-here-test.true c.here-item.is inv.list.0 inv.list.1 c.in_err-check.field-0.0 c.in_err-check.ensures)

pub loop-here-preserved : goal.loop-here-preserved
loop-here-preserved c =
    let inv = c.loop-here.invariant in
    let more = taken_more c.args.records.now c.loop-here.here-index c.here-item.result c.loop-here-test.true c.here-item.is in
    record {
      same =
          c.in_ok-push.ensures.items ∙ ap (λ (l : List Record). l ++ c.in_ok-copy_of.field-0 ∷ []) inv.same
          ∙ ap (λ (r : Record). take c.loop-here.here-index c.args.records.now ++ r ∷ []) c.in_ok-copy_of.ensures ∙ sym more;
      list = are_more c.args.records.now c.loop-here.here-index c.here-item.result c.loop-here-test.true c.here-item.is inv.list.0 inv.list.1 c.in_ok-check.ensures;
    }
