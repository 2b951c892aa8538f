use Rattle.std.proofs.Common.{◌∙◌, inl, inr, refl, sym, ap}
use Rattle.news_types.specs.Names.{is_in}
use Rattle.newsdesk_cli.proofs.standby.ship_by.Goals as goal

pub returns-then-not-is_among : goal.returns-then-not-is_among
returns-then-not-is_among g c = inl (record {
  none = ap (is_in c.args.name.now) (sym c.names.ensures) ∙ sym c.is_among.ensures ∙ c.if-not-is_among.true;
  same_link = refl;
  refused = record { same = refl; same_side = refl; refused = c.tell_usage.ensures };
})

pub ship_store-requires : goal.ship_store-requires
ship_store-requires g c = record { served = ap (is_in c.args.name.now) (sym c.names.ensures) ∙ sym c.is_among.ensures ∙ c.if-not-is_among.false }

pub returns : goal.returns
returns g c = inr c.ship_store.ensures.ships
