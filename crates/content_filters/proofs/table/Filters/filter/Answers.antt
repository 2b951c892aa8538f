use Rattle.std.proofs.Common.{◌≡◌, None, Some, sym, ap, ◌∙◌}
use Rattle.std.specs.Option.{option_copied}
use Rattle.news_types.specs.Filters.{filters}
use Rattle.content_filters.specs.Kept.{age}
use Rattle.content_filters.proofs.Ages.{kept_at}
use Rattle.content_filters.proofs.table.Filters.filter.Goals as goal

pub returns-in_err-place : goal.returns-in_err-place
returns-in_err-place c h keeps =
    let name = c.args.name.now in
    let none : age (filters h) name ≡ None = sym (keeps.ages name) ∙ sym c.in_err-place.ensures in
    ap option_copied c.from_residual.ensures ∙ rw none at (kept_at (filters h) name)

pub returns : goal.returns
returns c h keeps =
    let name = c.args.name.now in
    let place = c.in_ok-place.place in
    let at : age (filters h) name ≡ Some place = sym (keeps.ages name) ∙ sym c.in_ok-place.ensures in
    c.filter_at.ensures ∙ rw (c.as_slice.ensures.value, keeps.filters) (rw at at (kept_at (filters h) name))
