use Rattle.std.proofs.Common.{◌∙◌, arith}
use Rattle.std.proofs.lemmas.Result.{IfOk-weaker}
use Rattle.csv.specs.Records.{fields_of}
use Rattle.subscriber_import.specs.Fields.{wanted_by, name_of, format_of, products_of, lag_of}
use Rattle.subscriber_import.proofs.Parts.{four_fields}
use Rattle.subscriber_import.proofs.wanted.read_record.Goals as goal

pub returns-clause-value : goal.returns-clause-value
returns-clause-value c =
    let four = four_fields (fields_of c.args.row.now) (omega (arith, c.len.ensures, c.if-len-ne4.false)) in
    IfOk-weaker c.read_fields.result _ _
    (λ read is. is ∙ (λ i. wanted_by (name_of (c.field.ensures i)) (format_of (c.field-2.ensures i)) (products_of (c.field-3.ensures i)) (lag_of (c.field-4.ensures i))) ∙ four) c.read_fields.ensures.value
