use Rattle.std.proofs.Common.{◌∙◌, sym, ap, arith, length, ℕ, List}
use Rattle.std.specs.Prelude.{Option}
use Rattle.byte_formats.proofs.Names.{name_parts}
use Rattle.entry_segments.specs.Reading.{precedes}
use Rattle.entry_segments.specs.Answers.{name_before}
use Rattle.entry_segments.proofs.SegmentLaws.{behind_none, lt_test}
use Rattle.entry_segments.proofs.names.follows.Goals as goal

pub returns-in-None : goal.returns-in-None
returns-in-None c =
    let n = c.args.name.now in
    let some = name_parts n c.as_bytes.ensures.form in
    let bytes = ap length c.as_bytes.ensures.bytes in
    lt_test 0 (length c.as_bytes.result.now) (omega (arith, some.0, bytes))
    ∙ sym (ap (λ (o : Option (List ℕ)). precedes (name_before o) n) c.in-None.is ∙ behind_none n c.as_bytes.ensures.form)
