use Rattle.std.proofs.lemmas.Result.{err_from_is_err_and}
use Rattle.byte_formats.specs.Format.{many_at}
use Rattle.byte_formats.proofs.Scans.{item_read, item_fails, items_done}
use Rattle.entry_codec.proofs.field.many.Goals as goal

pub returns-in_err-read : goal.returns-in_err-read
returns-in_err-read g c =
    let p = err_from_is_err_and c.from_residual.result c.from_residual.ensures.1 in
    rw (p.1, p.2) (item_fails g.T.Field.format c.in_err-read.field-0.0 c.loop.items.items c.args.count c.loop.counter c.loop.input (many_at g.T.Field.format c.args.count c.args.input.now) c.loop-test.true c.in_err-read.ensures c.loop.invariant)

pub loop-preserved : goal.loop-preserved
loop-preserved g c =
    rw c.in_ok-push.ensures.items (item_read g.T.Field.format c.loop.items.items c.args.count c.loop.counter c.loop.input c.read.new.input c.in_ok-read.field-0 (many_at g.T.Field.format c.args.count c.args.input.now) c.loop-test.true c.in_ok-read.ensures c.loop.invariant)

pub returns : goal.returns
returns g c = items_done g.T.Field.format c.loop.items.items c.args.count c.loop.counter c.loop.input (many_at g.T.Field.format c.args.count c.args.input.now) c.loop-test.false c.loop.invariant
