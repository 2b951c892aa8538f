use Rattle.std.proofs.Common.{[]}
use Rattle.std.proofs.lemmas.Result.{err_from_is_err_and}
use Rattle.byte_formats.specs.Parts.{steps_at}
use Rattle.entry_segments.specs.Reading.{packed, moment_of}
use Rattle.entry_segments.specs.Payloads.{told_behind}
use Rattle.entry_segments.proofs.KeptPayloads.{told_more, told_fails, told_all}
use Rattle.entry_segments.proofs.payloads.payloads.Goals as goal

pub returns-in_err-later : goal.returns-in_err-later
returns-in_err-later c =
    let ns = c.args.names.now in
    let total = told_behind [] [] (steps_at (packed ns) moment_of c.args.count 0 c.args.input.now) in
    let p = err_from_is_err_and c.from_residual.result c.from_residual.ensures.1 in
    rw (p.1, p.2) (told_fails ns c.in_err-later.field-0.0 c.loop.items.items c.loop.seen.items c.args.count c.loop.counter c.loop.moment c.loop.input total c.loop-test.true c.in_err-later.ensures.gives c.loop.invariant.so_far)

pub loop-preserved : goal.loop-preserved
loop-preserved c =
    let ns = c.args.names.now in
    let total = told_behind [] [] (steps_at (packed ns) moment_of c.args.count 0 c.args.input.now) in
    record {
      so_far =
          rw c.in_ok-push.ensures.items
          (told_more ns c.loop.items.items c.loop.seen.items c.args.count c.loop.counter c.loop.moment c.loop.input c.payload_behind.new.input c.in_ok-later.later c.in_ok-later.payload c.payload_behind.new.seen.items total c.loop-test.true c.in_ok-later.ensures.gives
          c.loop.invariant.so_far);
      order = c.in_ok-later.ensures.order;
      fits = c.in_ok-later.ensures.fits;
    }

pub returns : goal.returns
returns c =
    let ns = c.args.names.now in
    let total = told_behind [] [] (steps_at (packed ns) moment_of c.args.count 0 c.args.input.now) in
    rw c.of.ensures (told_all ns c.loop.items.items c.loop.seen.items c.args.count c.loop.counter c.loop.moment c.loop.input total c.loop-test.false c.loop.invariant.so_far)
