use Rattle.std.proofs.Common.{◌≡◌, ◌+◌, ◌∙◌, ap, sym, arith, Some, Err, ℕ, List}
use Rattle.std.specs.Prelude.{slice_get}
use Rattle.news_pair.specs.Damage.{no_entry, on_log}
use Rattle.news_pair.specs.declared.fault.PairFault.TheVariants.{Damaged}
use Rattle.news_pair.proofs.Rows.{copied_is}
use Rattle.news_pair.proofs.checking.check_entry.Goals as goal

pub overflow_add-result-in-Err-At : goal.overflow_add-result-in-Err-At
overflow_add-result-in-Err-At c = let f = c.in-Err-At.ensures.fault c.in-Err-At.at (ap (λ x. Err x) c.in-Err-At.field-0-is) in omega (arith, f.0, c.requires)

pub returns-in-Ok-clause-judged : goal.returns-in-Ok-clause-judged
returns-in-Ok-clause-judged c = ap on_log (ap (λ (l : List ℕ). no_entry (c.args.kept.now.at, l)) (sym c.as_slice-payload.ensures) ∙ c.in-Ok.ensures.whole c.args.kept.now.at)

pub returns-in-Err-At-clause-judged : goal.returns-in-Err-At-clause-judged
returns-in-Err-At-clause-judged c =
    let f = c.in-Err-At.ensures.fault c.in-Err-At.at (ap (λ x. Err x) c.in-Err-At.field-0-is) in
    let found : slice_get c.as_slice-payload.result.now c.in-Err-At.at ≡ c.copied.result =
    copied_is c.as_slice-payload.result.now c.in-Err-At.at c.get.result c.get.ensures.lookup.0 (c.get.ensures.lookup.4 (omega arith)) ∙ sym c.copied.ensures in
    ap on_log (ap (λ (l : List ℕ). no_entry (c.args.kept.now.at, l)) (sym c.as_slice-payload.ensures) ∙ f.1 c.args.kept.now.at)
    ∙ ap (λ o. Some (Damaged (c.args.kept.now.at + 5 + c.in-Err-At.at) o)) found
