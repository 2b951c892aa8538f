use Rattle.std.proofs.Common.{◌∙◌, arith}
use Rattle.news_types.proofs.Limits.{items_limited}
use Rattle.newsroom.proofs.Kept.{remembered, stopped}
use Rattle.newsroom.proofs.Recorded.{wires_behind}
use Rattle.news_types.specs.declared.entry.Act.TheVariants.{Request}
use Rattle.newsroom.proofs.newsroom.Newsroom.keep_request.Goals as goal

pub returns-clause-stands : goal.returns-clause-stands
returns-clause-stands c h m caller number command stands is = record {
  legal = is.legal;
  entries = omega (arith, stands.entries);
  at = c.moment-self.ensures ∙ is.parts.at;
  stop = c.stop_behind-self.ensures ∙ stopped h command c.args.change.stops _ _ is.stops (omega (arith, stands.entries)) stands.stop;
  callers = remembered _ h m caller _ number command c.args.change.last is.who is.last (c.remember.ensures _ _ stands.callers);
  rules = c.commit.ensures h m caller number command stands.rules is.rules;
  stories = c.commit-3.ensures.keeps h m (Request caller number command) stands.stories is.legal.1 is.parts;
  dues = c.commit-2.ensures h _ stands.dues is.dues;
  wires = wires_behind _ h m caller number command stands.wires;
}

pub returns-clause-reply : goal.returns-clause-reply
returns-clause-reply c h m caller number command stands is = c.commit-3.ensures.reply ∙ is.parts.reply

pub commit-requires-3-clause-few : goal.commit-requires-3-clause-few
commit-requires-3-clause-few c =
    let given = c.requires.stands in
    let h = given.0 in
    let stands = given.5.0 in
    (h, (stands.stories, omega (arith, items_limited h stands.legal)))
