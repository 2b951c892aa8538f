use Rattle.std.proofs.Common.{rules, tests, ap, sym, refl, ◌∙◌, ◌≡◌, ℕ, Option, Some, None}
use Rattle.std.specs.Prelude.{nat_lt, unwrap_or}
use Rattle.std.specs.Option.{option_map}
use Rattle.std.proofs.lemmas.Iterator.Consumers.{YieldsList-from_copied}
use Rattle.std.proofs.lemmas.Iterator.Adapters.{YieldsList-from_rev_slice}
use Rattle.std.proofs.lemmas.Iterator.Search.{find_from_yields_List}
use Rattle.publications.proofs.numbers.last_below.Goals as goal

as_it_is : (o : Option ℕ) → option_map (λ (n : ℕ). n) o ≡ o
as_it_is None = refl
as_it_is (Some n) = refl

pub returns : goal.returns
returns c =
    let found = find_from_yields_List (λ (n : ℕ). nat_lt n c.args.below) _ _ c.find-last.result c.find-last.ensures.ran (YieldsList-from_copied (YieldsList-from_rev_slice c.args.numbers.now (cc))) (λ x b q k. search (rules, tests)) in
    c.unwrap_or.ensures ∙ ap (λ (o : Option ℕ). unwrap_or o 0) (sym (as_it_is c.find-last.result) ∙ found)
