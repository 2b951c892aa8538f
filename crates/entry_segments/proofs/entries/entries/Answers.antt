use Rattle.std.proofs.lemmas.Result.{err_from_is_err_and}
use Rattle.byte_formats.specs.Parts.{steps_at}
use Rattle.entry_segments.specs.Reading.{packed, moment_of}
use Rattle.entry_segments.proofs.Loops.{step_read, step_fails, steps_done}
use Rattle.entry_segments.proofs.entries.entries.Goals as goal

pub returns-in_err-entry : goal.returns-in_err-entry
returns-in_err-entry c =
    let ns = c.args.names.now in
    let total = steps_at (packed ns) moment_of c.args.count 0 c.args.input.now in
    let p = err_from_is_err_and c.from_residual-in_err-entry.result c.from_residual-in_err-entry.ensures.1 in
    rw (p.1, p.2) (step_fails (packed ns) moment_of c.in_err-entry.field-0.0 c.loop.entries.items c.args.count c.loop.counter c.loop.moment c.loop.input total c.loop-test.true c.in_err-entry.ensures.gives c.loop.invariant.so_far)

pub loop-preserved : goal.loop-preserved
loop-preserved c =
    let ns = c.args.names.now in
    let total = steps_at (packed ns) moment_of c.args.count 0 c.args.input.now in
    record {
      so_far =
          rw c.in_ok-push.ensures.items
          (step_read (packed ns) moment_of c.loop.entries.items c.args.count c.loop.counter c.loop.moment c.loop.input c.entry_behind.new.input c.in_ok-entry.entry total c.loop-test.true c.in_ok-entry.ensures.gives c.loop.invariant.so_far);
      fits = c.in_ok-entry.ensures.fits;
    }

pub returns : goal.returns
returns c =
    let ns = c.args.names.now in
    let total = steps_at (packed ns) moment_of c.args.count 0 c.args.input.now in
    steps_done (packed ns) moment_of c.loop.entries.items c.args.count c.loop.counter c.loop.moment c.loop.input total c.loop-test.false c.loop.invariant.so_far
