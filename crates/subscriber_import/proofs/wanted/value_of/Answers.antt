use Rattle.std.proofs.Common.{arith, refl}
use Rattle.subscriber_import.proofs.Parts.{none_read, times_ten, digit_fits, one_digit, all_read}
use Rattle.subscriber_import.proofs.wanted.value_of.Goals as goal

pub loop-byte-init : goal.loop-byte-init
loop-byte-init c = none_read c.args.field.now c.requires

pub overflow_mul-value : goal.overflow_mul-value
overflow_mul-value c =
    let most = times_ten c.args.field.now c.loop-byte.byte-index c.loop-byte.value c.loop-byte.invariant c.loop-byte-test.true in
    omega (arith, most)

pub overflow_add-value : goal.overflow_add-value
overflow_add-value c =
    let most = digit_fits c.args.field.now c.loop-byte.byte-index c.loop-byte.value c.requires c.loop-byte.invariant c.loop-byte-test.true in
    omega (arith, most)

pub loop-byte-preserved : goal.loop-byte-preserved
loop-byte-preserved c = one_digit c.args.field.now c.loop-byte.byte-index c.loop-byte.value _ c.requires c.loop-byte.invariant c.loop-byte-test.true refl

pub returns : goal.returns
returns c = all_read c.args.field.now c.loop-byte.byte-index c.loop-byte.value c.loop-byte-test.false c.loop-byte.invariant
