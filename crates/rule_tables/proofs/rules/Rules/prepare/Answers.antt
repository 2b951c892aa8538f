use Rattle.rule_tables.proofs.Reasons.{knows_allowed, filters_allowed, products_allowed, sources_new, rolls_find}
use Rattle.rule_tables.proofs.SameSources.{kept_alike}
use Rattle.rule_tables.proofs.rules.Rules.prepare.Goals as goal

pub returns-in_err-desks-clause-stays : goal.returns-in_err-desks-clause-stays
returns-in_err-desks-clause-stays c h keeps = record { desks = c.prepare.ensures.stays h keeps.desks; filters = keeps.filters; products = keeps.products; sources = keeps.sources; rolls = keeps.rolls }

pub returns-in_err-filters-clause-stays : goal.returns-in_err-filters-clause-stays
returns-in_err-filters-clause-stays c h keeps = record { desks = c.prepare.ensures.stays h keeps.desks; filters = c.prepare-2.ensures.stays h keeps.filters; products = keeps.products; sources = keeps.sources; rolls = keeps.rolls }

pub returns-in_err-products-clause-stays : goal.returns-in_err-products-clause-stays
returns-in_err-products-clause-stays c h keeps = record {
  desks = c.prepare.ensures.stays h keeps.desks;
  filters = c.prepare-2.ensures.stays h keeps.filters;
  products = c.prepare-3.ensures.stays h keeps.products;
  sources = keeps.sources;
  rolls = keeps.rolls;
}

pub returns-in_err-sources-clause-stays : goal.returns-in_err-sources-clause-stays
returns-in_err-sources-clause-stays c h keeps = record {
  desks = c.prepare.ensures.stays h keeps.desks;
  filters = c.prepare-2.ensures.stays h keeps.filters;
  products = c.prepare-3.ensures.stays h keeps.products;
  sources = kept_alike _ _ _ _ _ _ c.prepare-4.ensures.alike keeps.sources;
  rolls = keeps.rolls;
}

pub returns-in_err-rolls-clause-stays : goal.returns-in_err-rolls-clause-stays
returns-in_err-rolls-clause-stays c h keeps = record {
  desks = c.prepare.ensures.stays h keeps.desks;
  filters = c.prepare-2.ensures.stays h keeps.filters;
  products = c.prepare-3.ensures.stays h keeps.products;
  sources = kept_alike _ _ _ _ _ _ c.prepare-4.ensures.alike keeps.sources;
  rolls = c.prepare-5.ensures.stays h keeps.rolls;
}

pub returns-clause-stays : goal.returns-clause-stays
returns-clause-stays c h keeps = record {
  desks = c.prepare.ensures.stays h keeps.desks;
  filters = c.prepare-2.ensures.stays h keeps.filters;
  products = c.prepare-3.ensures.stays h keeps.products;
  sources = kept_alike _ _ _ _ _ _ c.prepare-4.ensures.alike keeps.sources;
  rolls = c.prepare-5.ensures.stays h keeps.rolls;
}

pub returns-clause-change : goal.returns-clause-change
returns-clause-change c h keeps allowed =
    let command = c.args.command.now in
    record {
      desks = c.in_ok-desks.ensures.change h (knows_allowed h command allowed);
      filters = c.in_ok-filters.ensures.change h (filters_allowed h command allowed);
      products = c.in_ok-products.ensures.change h keeps.products (products_allowed h command allowed);
      sources = record { step = c.in_ok-sources.ensures.step; new = sources_new h command allowed };
      rolls = c.in_ok-rolls.ensures.change h (rolls_find h command allowed);
    }
