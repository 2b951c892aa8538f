use Rattle.std.proofs.Common.{ap}
use Rattle.std.proofs.lemmas.Result.{err_from_is_err_and}
use Rattle.news_pair.specs.Damage.{no_entry, on_log}
use Rattle.news_pair.proofs.Judging.{first_passed, first_ended, first_on_log, log_none}
use Rattle.news_pair.proofs.checking.check_entries.Goals as goal

pub loop-kept-preserved : goal.loop-kept-preserved
loop-kept-preserved c =
    first_passed no_entry c.args.records.now c.loop-kept.kept-index c.kept-item.result c.loop-kept-test.true c.kept-item.is c.loop-kept.invariant (log_none _ c.in_ok-check_entry.ensures.judged)

pub returns-in_err-check_entry-clause-judged : goal.returns-in_err-check_entry-clause-judged
returns-in_err-check_entry-clause-judged c =
    let e = err_from_is_err_and c.from_residual.result c.from_residual.ensures.1 in
    rw (e.1, e.2) (first_on_log no_entry c.args.records.now c.loop-kept.kept-index c.kept-item.result _ c.loop-kept-test.true c.kept-item.is c.loop-kept.invariant c.in_err-check_entry.ensures.judged)

pub returns-clause-judged : goal.returns-clause-judged
returns-clause-judged c = ap on_log (first_ended no_entry c.args.records.now c.loop-kept.kept-index c.loop-kept-test.false c.loop-kept.invariant)
