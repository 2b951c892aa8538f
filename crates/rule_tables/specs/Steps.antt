-- Changes of the tables.
use Rattle.news_types.specs.Names.{Bytes}
use Rattle.news_types.specs.History.{History}
use Rattle.news_types.specs.Routing.{scheme, provider}
use Rattle.news_types.specs.declared.command.Command.{Command}
use Rattle.desk_rules.specs.Steps.{HasRoom as HasDeskRoom, IsFor as IsForDesks}
use Rattle.content_filters.specs.Changes.{HasRoom as HasFilterRoom, IsFor as IsForFilters}
use Rattle.products.specs.Steps.{HasRoom as HasProductRoom, IsFor as IsForProducts}
use Rattle.name_rolls.specs.Steps.{HasRoom as HasRollRoom, IsFor as IsForRolls}
use Rattle.rule_tables.specs.Sources.{HasRoom as HasSourceRoom, IsFor as IsForSources}
use Rattle.rule_tables.specs.declared.rules.Rules.{Rules}
use Rattle.rule_tables.specs.declared.rules.RuleChange.{RuleChange}

-- the tables have the memory for the change
pub record HasRoom (r : Rules) (c : RuleChange) : Type 0 where
  pub desks : HasDeskRoom r.desks c.desks
  pub filters : HasFilterRoom r.filters c.filters
  pub products : HasProductRoom r.products c.products
  pub sources : HasSourceRoom r.sources c.sources
  pub rolls : HasRollRoom r.rolls c.rolls

-- the change is that of the caller's command, which the list allows
pub record IsFor (c : RuleChange) (caller : Bytes) (command : Command) (h : History) : Type 0 where
  pub desks : IsForDesks c.desks caller command h
  pub filters : IsForFilters c.filters command h
  pub products : IsForProducts c.products command h
  pub sources : IsForSources c.sources command (scheme h) (provider h)
  pub rolls : IsForRolls c.rolls command h
