use Rattle.std.proofs.Common.{inl, inr, arith}
use Rattle.std.proofs.lemmas.Bool.{cases_lt}
use Rattle.publish_queue.proofs.marks.mark_between.Goals as goal

pub returns-clause-marked : goal.returns-clause-marked
returns-clause-marked c =
    let marked = c.loop-at.invariant.marked in
    record {
      long = marked.long;
      before = marked.before;
      within = λ k d lt low high. marked.within k d lt low (omega (arith, c.loop-at-test.false, high));
      behind = λ k d high low. marked.behind k d (elim (cases_lt c.args.to c.loop-at.at) [
        | inl past ↦ let start = c.loop-at.invariant.short past in omega (arith, start, low)
        | inr within ↦ omega (arith, within, high)
      ]) low;
    }
