use Rattle.std.proofs.Common.{◌∙◌, arith}
use Rattle.news_types.proofs.Limits.{items_limited}
use Rattle.news_types.specs.declared.entry.Act.TheVariants.{Ingest}
use Rattle.newsroom.proofs.newsroom.Newsroom.keep_ingest.Goals as goal

pub returns-clause-stands : goal.returns-clause-stands
returns-clause-stands c h m name come stands is = record {
  legal = is.legal;
  entries = omega (arith, stands.entries);
  at = c.moment-self.ensures ∙ is.parts.at;
  stop = stands.stop;
  callers = record { asked = λ other. stands.callers.asked other; replied = λ other. stands.callers.replied other };
  rules = c.keep_place.ensures h m name come stands.rules is.place;
  stories = c.commit-3.ensures.keeps h m (Ingest name come) stands.stories is.legal.1 is.parts;
  dues = c.commit.ensures h _ stands.dues is.dues;
  wires = c.commit-2.ensures h _ stands.wires is.wires;
}

pub returns-clause-reply : goal.returns-clause-reply
returns-clause-reply c h m name come stands is = c.commit-3.ensures.reply ∙ is.parts.reply

pub commit-requires-3-clause-few : goal.commit-requires-3-clause-few
commit-requires-3-clause-few c =
    let given = c.requires.stands in
    let h = given.0 in
    let stands = given.4.0 in
    (h, (stands.stories, omega (arith, items_limited h stands.legal)))
