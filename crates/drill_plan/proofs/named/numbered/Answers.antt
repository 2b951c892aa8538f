use Rattle.std.proofs.Common.{◌≡◌, ◌++◌, List, ℕ, IsTrue, sym, subst, rules}
use Rattle.std.specs.Prelude.{decimal}
use Rattle.news_types.specs.Names.{is_name}
use Rattle.drill_plan.proofs.Digits.{is_name-numbered}
use Rattle.drill_plan.proofs.named.numbered.Goals as goal

pub named-requires : goal.named-requires
named-requires c =
    let P : List ℕ → Type 0 = λ word. IsTrue (is_name word) in
    let spelled : c.as_str.result.now ≡ c.args.letter.now ++ decimal c.args.digit = search rules in
    subst P (sym spelled) (is_name-numbered c.args.letter.now c.args.digit c.requires.letter c.requires.small c.requires.digit)
