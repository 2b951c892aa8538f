use Rattle.std.proofs.Common.{◌≡◌, ◌+◌, ◌<◌, ℕ, None, Some, length, sym, ap, ◌∙◌, arith}
use Rattle.std.specs.Option.{option_map}
use Rattle.news_types.specs.Filters.{filters}
use Rattle.content_filters.specs.Kept.{age}
use Rattle.content_filters.proofs.Ages.{age_below, counted}
use Rattle.content_filters.proofs.table.Filters.filter_age.Goals as goal

pub returns-in_err-place : goal.returns-in_err-place
returns-in_err-place c h keeps =
    let name = c.args.name.now in
    let none : age (filters h) name ≡ None = sym (keeps.ages name) ∙ sym c.in_err-place.ensures in
    c.from_residual.ensures ∙ ap (option_map (λ (n : ℕ). n + 1)) (sym none) ∙ sym (counted (filters h) name)

pub returns : goal.returns
returns c h keeps =
    let name = c.args.name.now in
    let place = c.in_ok-place.place in
    let at : age (filters h) name ≡ Some place = sym (keeps.ages name) ∙ sym c.in_ok-place.ensures in
    let below : place < length (filters h) = age_below (filters h) name place at in
    c.number_at.ensures (omega (arith, below, keeps.few))
    ∙ ap (option_map (λ (n : ℕ). n + 1)) (sym at) ∙ sym (counted (filters h) name)
