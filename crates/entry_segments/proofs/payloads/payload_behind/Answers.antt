use Rattle.std.proofs.Common.{sym, subst}
use Rattle.std.proofs.lemmas.Result.{err_from_is_err_and}
use Rattle.news_types.specs.Names.{AreInOrder}
use Rattle.entry_segments.specs.Reading.{packed_at}
use Rattle.entry_segments.proofs.NameOrder.{acts_ascend}
use Rattle.entry_segments.proofs.KeptPayloads.{entry_told, entry_fails}
use Rattle.entry_segments.proofs.payloads.payload_behind.Goals as goal

pub returns-in_err-entry-clause-gives : goal.returns-in_err-entry-clause-gives
returns-in_err-entry-clause-gives c =
    let read = packed_at c.args.names.now c.args.before c.args.input.now in
    let p = err_from_is_err_and c.from_residual.result c.from_residual.ensures.1 in
    rw (p.1, p.2) (entry_fails c.in_err-entry.field-0.0 c.args.seen.now.items read c.in_err-entry.ensures.gives)

pub returns-clause-gives : goal.returns-clause-gives
returns-clause-gives c =
    let read = packed_at c.args.names.now c.args.before c.args.input.now in
    entry_told c.args.seen.now.items c.in_ok-entry.entry read c.entry_behind.new.input c.in_ok-payload.field-0 c.payload_with_name-payload.new.seen.items c.in_ok-entry.ensures.gives c.in_ok-payload.ensures.payload c.in_ok-payload.ensures.names

pub returns-clause-order : goal.returns-clause-order
returns-clause-order c = subst AreInOrder (sym c.in_ok-payload.ensures.names) (acts_ascend c.in_ok-entry.entry.act c.args.seen.now.items c.requires.order)
