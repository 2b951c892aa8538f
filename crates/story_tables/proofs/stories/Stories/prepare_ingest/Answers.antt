use Rattle.std.proofs.Common.{refl}
use Rattle.story_tables.proofs.Ingested.{ingest_reply, ingest_publications, ingest_feeds}
use Rattle.story_tables.proofs.stories.Stories.prepare_ingest.Goals as goal

pub returns-clause-change : goal.returns-clause-change
returns-clause-change c h keeps counted does plain =
    let m = c.args.moment in
    let name = c.args.provider in
    let come = c.args.come.now in
    let e = c.args.effect.now in
    record {
      at = refl;
      reply = ingest_reply h m name come e c.args.entries c.item_of_effect-item.result does plain counted (c.item_of_effect-item.ensures h keeps);
      items = c.in_ok-items.ensures.change h m keeps does;
      publications = ingest_publications h m name come e c.nothing.result does plain c.nothing.ensures;
      feeds = ingest_feeds h m name come e does plain;
    }
