use Rattle.std.proofs.Common.{◌≡◌, drop}
use Rattle.std.specs.List.{list_all}
use Rattle.news_types.specs.History.{History}
use Rattle.news_types.specs.Filters.{is_filter}
use Rattle.content_filters.specs.Reasons.{KeepsFacts as KeepsFilters}
use Rattle.products.proofs.judge.has_filters.Given as goal

abbrev pub invariant-loop-name : goal.invariant-loop-name
invariant-loop-name l = (h : History) → KeepsFilters l.fn.filters h → list_all (is_filter h) (drop l.name-index l.names) ≡ list_all (is_filter h) l.names
