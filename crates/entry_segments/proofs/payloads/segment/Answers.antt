use Rattle.std.proofs.Common.{◌≡◌, ◌∙◌, sym, false, true}
use Rattle.std.proofs.lemmas.Result.{err_from_is_err_and}
use Rattle.entry_segments.specs.Reading.{same_names}
use Rattle.entry_segments.proofs.ReadSegments.{base_fails, count_fails, names_fails, segment_fails, segment_refused, segment_told, is_other, not_other}
use Rattle.entry_segments.proofs.payloads.segment.Goals as goal

pub returns-in_err-base : goal.returns-in_err-base
returns-in_err-base c =
    let p = err_from_is_err_and c.from_residual.result c.from_residual.ensures.1 in
    rw (p.1, p.2) (base_fails c.in_err-base.field-0.0 c.args.input.now c.in_err-base.ensures)

pub returns-in_err-count : goal.returns-in_err-count
returns-in_err-count c =
    let p = err_from_is_err_and c.from_residual-in_err-count.result c.from_residual-in_err-count.ensures.1 in
    rw (p.1, p.2) (count_fails c.in_err-count.field-0.0 c.args.input.now c.u64_upto.new.self c.in_ok-base.base c.in_ok-base.ensures c.in_err-count.ensures)

pub returns-in_err-names : goal.returns-in_err-names
returns-in_err-names c =
    let p = err_from_is_err_and c.from_residual-in_err-names.result c.from_residual-in_err-names.ensures.1 in
    rw (p.1, p.2) (names_fails c.in_err-names.field-0.0 c.args.input.now c.u64_upto.new.self c.count.new.input c.in_ok-base.base c.in_ok-count.count c.in_ok-base.ensures c.in_ok-count.ensures c.in_err-names.ensures)

pub returns-in_err-read : goal.returns-in_err-read
returns-in_err-read c =
    let p = err_from_is_err_and c.from_residual-in_err-read.result c.from_residual-in_err-read.ensures.1 in
    let fails = rw c.as_slice.ensures at c.in_err-read.ensures in
    rw (p.1, p.2)
    (segment_fails c.args.input.now c.u64_upto.new.self c.count.new.input c.names.new.input c.in_ok-base.base c.in_ok-count.count c.in_ok-names.names c.in_ok-base.ensures c.in_ok-count.ensures c.in_ok-names.ensures c.in_err-read.field-0.0 fails)

pub returns-then-ne : goal.returns-then-ne
returns-then-ne c =
    let read = rw c.as_slice.ensures at c.in_ok-read.ensures in
    let other : same_names c.in_ok-read.read.names c.in_ok-names.names ≡ false = is_other (same_names c.in_ok-read.read.names c.in_ok-names.names) (sym c.ne.ensures ∙ c.if-ne.true) in
    rw c.at_last.ensures
    (segment_refused c.args.input.now c.u64_upto.new.self c.count.new.input c.names.new.input c.in_ok-base.base c.in_ok-count.count c.in_ok-names.names c.in_ok-base.ensures c.in_ok-count.ensures c.in_ok-names.ensures c.in_ok-read.read.items.items
    c.in_ok-read.read.names c.payloads.new.input read other)

pub returns : goal.returns
returns c =
    let read = rw c.as_slice.ensures at c.in_ok-read.ensures in
    let same : same_names c.in_ok-read.read.names c.in_ok-names.names ≡ true = not_other (same_names c.in_ok-read.read.names c.in_ok-names.names) (sym c.ne.ensures ∙ c.if-ne.false) in
    segment_told c.args.input.now c.u64_upto.new.self c.count.new.input c.names.new.input c.in_ok-base.base c.in_ok-count.count c.in_ok-names.names c.in_ok-base.ensures c.in_ok-count.ensures c.in_ok-names.ensures c.in_ok-read.read.items.items c.in_ok-read.read.names
    c.payloads.new.input read same
