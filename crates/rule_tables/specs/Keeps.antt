-- Which list's facts the tables keep.
use Rattle.news_types.specs.History.{History}
use Rattle.desk_rules.specs.Keeps.{KeepsFacts as KeepsDesks}
use Rattle.content_filters.specs.Reasons.{KeepsFacts as KeepsFilters}
use Rattle.products.specs.Keeps.{KeepsFacts as KeepsProducts}
use Rattle.name_rolls.specs.Keeps.{KeepsRolls}
use Rattle.rule_tables.specs.Sources.{KeepsFacts as KeepsSources}
use Rattle.rule_tables.specs.declared.rules.Rules.{Rules}

pub record KeepsRules (r : Rules) (h : History) : Type 0 where
  pub desks : KeepsDesks r.desks h
  pub filters : KeepsFilters r.filters h
  pub products : KeepsProducts r.products h
  pub sources : KeepsSources r.sources h
  pub rolls : KeepsRolls r.rolls h
