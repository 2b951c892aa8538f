-- What a link to a standby in memory means: it tells nothing of what passes over it.
use Rattle.std.specs.Prelude.{[]}
use Rattle.news_io.specs.Link.{LinkMeaning}
use Rattle.desk_sessions.specs.declared.standby.StandbyLink.{StandbyLink}

abbrev pub standby_link : LinkMeaning StandbyLink
standby_link = record {
  faults = λ l. l.faults;
  serves = λ l. l.names;
  tells = λ l. ⊥;
  sent = λ l. [];
  said = λ l. [];
  step = λ old new p. ⊥;
}
