use Rattle.std.proofs.Common.{◌≡◌, ◌≤◌, ◌∙◌, ◌+◌, ◌++◌, [], ◌∷◌, ap, sym, subst, take, drop, arith, List, ℕ}
use Rattle.std.specs.Prelude.{All}
use Rattle.std.proofs.lemmas.List.{map-append, take_all}
use Rattle.std.proofs.lemmas.List.Elements.{All-push}
use Rattle.std.proofs.lemmas.Result.{err_from_is_err_and}
use Rattle.news_types.specs.Names.{Bytes}
use Rattle.news_types.specs.declared.entry.Entry.{Entry}
use Rattle.news_io.specs.declared.record.Record.{Record}
use Rattle.entry_segments.specs.Segment.{InTime}
use Rattle.entry_segments.specs.Spelled.{entry_in, entries_in, IsPayload}
use Rattle.news_journal.specs.Opened.{payloads, places}
use Rattle.news_pair.specs.Packing.{out_of_order}
use Rattle.news_pair.proofs.Rows.{payloads_one_more}
use Rattle.news_pair.proofs.Ordering.{in_time_next, order_passed, order_broken, order_ended}
use Rattle.news_pair.proofs.entries.check_order.Goals as goal

pub returns-in_err-moment-clause-judged : goal.returns-in_err-moment-clause-judged
returns-in_err-moment-clause-judged c =
    let e = err_from_is_err_and c.from_residual.result c.from_residual.ensures.1 in
    rw (e.1, e.2) (order_broken c.args.records.now c.loop-kept.kept-index c.loop-kept.moment c.loop-kept.invariant.found c.kept-item.result _ c.loop-kept-test.true c.kept-item.is c.in_err-moment.ensures.judged)

pub loop-kept-preserved : goal.loop-kept-preserved
loop-kept-preserved c =
    let records = c.args.records.now in
    let i = c.loop-kept.kept-index in
    let kept = c.kept-item.result in
    let e = entry_in kept.bytes in
    let old = payloads (take i records) in
    let ensures = c.in_ok-moment.ensures in
    let is = ensures.read.1 in
    let inv = c.loop-kept.invariant in
    let more = payloads_one_more records i kept c.loop-kept-test.true c.kept-item.is in
    let entries = ap (λ (l : List Bytes). entries_in l) more ∙ map-append entry_in old (kept.bytes ∷ []) in
    record {
      each = subst (All IsPayload) (sym more) (All-push IsPayload old kept.bytes inv.each ensures.found);
      in_time = subst (InTime 0) (sym entries) (inv.next e ensures.later);
      next = λ after later. subst (λ (l : List Entry). InTime 0 (l ++ after ∷ [])) (sym entries) (in_time_next 0 (entries_in old) e after (inv.next e ensures.later) (omega (arith, later, is)));
      found =
          order_passed records i c.loop-kept.moment inv.found kept e c.loop-kept-test.true c.kept-item.is ensures.read.0 ensures.judged
          ∙ ap (λ (m : ℕ). out_of_order m (drop (i + 1) (places records))) (sym is);
    }

pub returns-clause-judged : goal.returns-clause-judged
returns-clause-judged c = order_ended c.args.records.now c.loop-kept.kept-index c.loop-kept.moment c.loop-kept.invariant.found c.loop-kept-test.false

pub returns-clause-each : goal.returns-clause-each
returns-clause-each c = subst (λ (l : List Record). All IsPayload (payloads l)) (take_all c.loop-kept.kept-index c.args.records.now c.loop-kept-test.false) c.loop-kept.invariant.each

pub returns-clause-in_time : goal.returns-clause-in_time
returns-clause-in_time c = subst (λ (l : List Record). InTime 0 (entries_in (payloads l))) (take_all c.loop-kept.kept-index c.args.records.now c.loop-kept-test.false) c.loop-kept.invariant.in_time
