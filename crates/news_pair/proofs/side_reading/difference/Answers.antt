use Rattle.std.proofs.Common.{◌≡◌, drop, sym, ◌∙◌, arith}
use Rattle.news_pair.specs.Damage.{difference}
use Rattle.news_pair.proofs.Rows.{missing_at, other_at, same_at, ended_at}
use Rattle.news_pair.proofs.side_reading.difference.Goals as goal

pub returns-then-place-bytes : goal.returns-then-place-bytes
returns-then-place-bytes c =
    let left : difference 0 c.args.wanted.now c.args.bytes.now ≡ difference c.loop-place.place (drop c.loop-place.place c.args.wanted.now) (drop c.loop-place.place c.args.bytes.now) = c.loop-place.invariant in
    sym (left ∙ missing_at _ _ c.args.bytes.now (omega arith) (omega arith))

pub returns-then-bytes-place : goal.returns-then-bytes-place
returns-then-bytes-place c =
    let left : difference 0 c.args.wanted.now c.args.bytes.now ≡ difference c.loop-place.place (drop c.loop-place.place c.args.wanted.now) (drop c.loop-place.place c.args.bytes.now) = c.loop-place.invariant in
    sym (left ∙ other_at _ _ _ (omega arith) (omega arith) c.if-bytes-place.true)

pub loop-place-preserved : goal.loop-place-preserved
loop-place-preserved c =
    let left : difference 0 c.args.wanted.now c.args.bytes.now ≡ difference c.loop-place.place (drop c.loop-place.place c.args.wanted.now) (drop c.loop-place.place c.args.bytes.now) = c.loop-place.invariant in
    left ∙ same_at _ _ _ (omega arith) (omega arith) c.if-bytes-place.false

pub returns : goal.returns
returns c =
    let left : difference 0 c.args.wanted.now c.args.bytes.now ≡ difference c.loop-place.place (drop c.loop-place.place c.args.wanted.now) (drop c.loop-place.place c.args.bytes.now) = c.loop-place.invariant in
    sym (left ∙ ended_at _ _ _ (omega arith))
