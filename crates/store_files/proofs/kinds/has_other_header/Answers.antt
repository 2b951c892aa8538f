use Rattle.std.proofs.Common.{arith, length-take, ◌∙◌}
use mathlib.Core.Bool.{false≢true}
use Rattle.store_files.proofs.Headers.{no_side, is_side}
use Rattle.store_files.proofs.kinds.has_other_header.Goals as goal

pub slice_bounds-head-end : goal.slice_bounds-head-end
slice_bounds-head-end c = omega (arith, length-take 64 c.args.bytes.now, c.if-bytes-lt65.false)

pub slice_bounds-owner-end : goal.slice_bounds-owner-end
slice_bounds-owner-end c = omega (arith, length-take 64 c.args.bytes.now, c.if-bytes-lt65.false)

pub returns-then-ne : goal.returns-then-ne
returns-then-ne c = (
  λ is. absurd (false≢true is),
  λ other. absurd (no_side c.args.store.now c.args.bytes.now c.as_slice.result.now c.ne.result c.if-bytes-lt65.false (c.as_slice.ensures ∙ c.side_header.ensures) c.ne.ensures c.if-ne.true other),
)

pub returns : goal.returns
returns c = is_side c.args.store.now c.args.bytes.now c.as_slice.result.now c.ne.result c.if-bytes-lt65.false (c.as_slice.ensures ∙ c.side_header.ensures) c.ne.ensures c.is_other.result c.if-ne.false c.is_other.ensures
