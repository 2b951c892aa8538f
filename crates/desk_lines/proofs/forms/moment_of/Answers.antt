use Rattle.std.proofs.Common.{◌≡◌, ℕ, arith, refl, IfSome, Option, Some, None}
use Rattle.news_types.specs.Fits.{IsMoment}
use Rattle.release_rules.specs.Texts.{IsTextOf}
use Rattle.desk_lines.proofs.forms.moment_of.Goals as goal

pub returns-in-Some-as_str-clause-bound : goal.returns-in-Some-as_str-clause-bound
returns-in-Some-as_str-clause-bound c =
    elim c.moment_of_text.result as (λ (r : Option ℕ). ((m : ℕ) → r ≡ Some m → IsTextOf c.in-Some-as_str.text.now m) → IfSome r IsMoment) [
      | None ↦ λ text. tt
      | Some m ↦ λ text. let most = (text m refl).in_range in omega (arith, most)
    ] (λ m. (c.moment_of_text.ensures.exact m).0)
