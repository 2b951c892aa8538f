use Rattle.std.proofs.Common.{Option, subst}
use Rattle.news_types.specs.Publications.{effect}
use Rattle.rule_tables.specs.declared.ingest.PlaceChange.{PlaceChange}
use Rattle.newsroom.specs.Changes.{IsForPlace}
use Rattle.newsroom.proofs.Making.{making_by, none_made}
use Rattle.newsroom.proofs.incoming.keep_place.Goals as goal

pub returns-in-Some : goal.returns-in-Some
returns-in-Some c h m name come keeps is =
    let made = making_by c.in-Some.change h (effect h name come m) (subst (λ (o : Option PlaceChange). IsForPlace o h (effect h name come m)) c.in-Some.is is) in
    c.commit_item.ensures h m name come made.0 made.1 keeps made.2 made.3

pub returns-in_default : goal.returns-in_default
returns-in_default c h m name come keeps is =
    none_made c.args.rules.now h m name come (subst (λ (o : Option PlaceChange). IsForPlace o h (effect h name come m)) c.in_default.is is) keeps
