-- What a rough link means: it tells nothing of what passes over it.
use Rattle.std.specs.Prelude.{[]}
use Rattle.news_io.specs.Link.{LinkMeaning}
use Rattle.rough_feeds.specs.declared.link.RoughLink.{RoughLink}

abbrev pub rough_link : LinkMeaning RoughLink
rough_link = record {
  faults = λ l. l.faults;
  serves = λ l. l.names;
  tells = λ l. ⊥;
  sent = λ l. [];
  said = λ l. [];
  step = λ old new p. ⊥;
}
