use Rattle.std.proofs.Common.{◌≡◌, arith, length}
use Rattle.std.proofs.lemmas.Result.{err_from_is_err_and}
use Rattle.entry_segments.proofs.ReadSegments.{whole_told, whole_left, whole_fails}
use Rattle.entry_segments.proofs.payloads.whole.Goals as goal

pub returns-in_err-read : goal.returns-in_err-read
returns-in_err-read c =
    let p = err_from_is_err_and c.from_residual.result c.from_residual.ensures.1 in
    let fails = rw c.new-input.ensures at c.in_err-read.ensures in
    rw (p.1, p.2) (whole_fails c.in_err-read.field-0.0 c.args.payload.now fails)

pub returns-then-left-ne0 : goal.returns-then-left-ne0
returns-then-left-ne0 c =
    let told = rw c.new-input.ensures at c.in_ok-read.ensures in
    rw c.left-left.ensures (whole_left c.args.payload.now (c.in_ok-read.read.base, c.in_ok-read.read.payloads.items) c.segment.new.input told (λ none. absurd (omega (arith, none, c.left-left.ensures, c.if-left-ne0.true))))

pub returns : goal.returns
returns c =
    let told = rw c.new-input.ensures at c.in_ok-read.ensures in
    let none : length c.segment.new.input ≡ 0 = omega (arith, c.left-left.ensures) in
    whole_told c.args.payload.now (c.in_ok-read.read.base, c.in_ok-read.read.payloads.items) c.segment.new.input told none
