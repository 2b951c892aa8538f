use Rattle.std.proofs.Common.{refl}
use Rattle.news_types.specs.declared.entry.Act.TheVariants.{Request}
use Rattle.rule_tables.proofs.rules.Rules.commit.Goals as goal

pub returns : goal.returns
returns c h m caller number command keeps is = record {
  desks = c.commit.ensures.request h (record { moment = m; act = Request caller number command }) caller number command keeps.desks is.desks refl;
  filters = c.commit-2.ensures h (record { moment = m; act = Request caller number command }) caller number command keeps.filters is.filters refl;
  products = c.commit-3.ensures h (record { moment = m; act = Request caller number command }) caller number command keeps.products is.products refl;
  sources = c.commit-4.ensures command _ _ _ _ keeps.sources is.sources;
  rolls = c.commit-5.ensures h (record { moment = m; act = Request caller number command }) caller number command keeps.rolls is.rolls refl;
}
