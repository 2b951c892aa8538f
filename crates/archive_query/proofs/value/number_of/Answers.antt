use Rattle.std.proofs.Common.{◌≡◌, ◌∙◌, List, ℕ, true, false, sym, subst}
use Rattle.archive_query.specs.Reading.{is_decimal}
use Rattle.archive_query.proofs.Decimals.{decimal_read, none_said}
use Rattle.archive_query.proofs.value.number_of.Goals as goal

pub returns-then-is_decimal : goal.returns-then-is_decimal
returns-then-is_decimal c =
    let yes = subst (λ (l : List ℕ). is_decimal l ≡ true) c.as_bytes.ensures.value (sym c.is_decimal.ensures ∙ c.if-is_decimal.true) in
    c.ok.ensures.value ∙ decimal_read c.args.token.now c.parse.result yes c.parse.ensures.value.0

pub returns-else-is_decimal : goal.returns-else-is_decimal
returns-else-is_decimal c =
    let no = subst (λ (l : List ℕ). is_decimal l ≡ false) c.as_bytes.ensures.value (sym c.is_decimal.ensures ∙ c.if-is_decimal.false) in
    none_said c.args.token.now no
