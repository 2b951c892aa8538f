use Rattle.std.proofs.Common.{[]}
use Rattle.std.proofs.lemmas.Result.{err_from_is_err_and}
use Rattle.byte_formats.specs.Parts.{steps_at}
use Rattle.entry_segments.specs.Reading.{above, the_name}
use Rattle.entry_segments.specs.Answers.{name_before}
use Rattle.entry_segments.proofs.Loops.{step_read, step_fails, steps_done}
use Rattle.entry_segments.proofs.reading.ascending.Goals as goal

pub returns-in_err-name : goal.returns-in_err-name
returns-in_err-name c =
    let total = steps_at above the_name c.args.count [] c.args.input.now in
    let p = err_from_is_err_and c.from_residual.result c.from_residual.ensures.1 in
    rw (p.1, p.2) (step_fails above the_name c.in_err-name.field-0.0 c.loop.names.items c.args.count c.loop.counter (name_before c.loop.last) c.loop.input total c.loop-test.true c.in_err-name.ensures c.loop.invariant)

pub loop-preserved : goal.loop-preserved
loop-preserved c =
    let total = steps_at above the_name c.args.count [] c.args.input.now in
    rw c.in_ok-push.ensures.items
    (step_read above the_name c.loop.names.items c.args.count c.loop.counter (name_before c.loop.last) c.loop.input c.name_above.new.input c.in_ok-name.name total c.loop-test.true c.in_ok-name.ensures c.loop.invariant)

pub returns : goal.returns
returns c =
    let total = steps_at above the_name c.args.count [] c.args.input.now in
    steps_done above the_name c.loop.names.items c.args.count c.loop.counter (name_before c.loop.last) c.loop.input total c.loop-test.false c.loop.invariant
