use Rattle.std.proofs.Common.{refl}
use Rattle.news_types.specs.declared.entry.Act.TheVariants.{Ingest}
use Rattle.news_types.specs.Outcome.{entry_of}
use Rattle.rule_tables.proofs.rules.Rules.commit_item.Goals as goal

pub returns : goal.returns
returns c h m name come place published keeps is does = record {
  desks = c.commit.ensures.ingest h (entry_of m (Ingest name come)) name come place published keeps.desks is refl does;
  filters = keeps.filters;
  products = keeps.products;
  sources = keeps.sources;
  rolls = keeps.rolls;
}
