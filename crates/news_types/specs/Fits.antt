-- The limits on what a story holds.
use Rattle.std.specs.Prelude.{ℕ, ◌<◌, ◌≤◌, length}
use Rattle.news_types.specs.declared.story.Story.{Story}
use Rattle.news_types.specs.declared.story.Incoming.{Incoming}

-- before the year 10000
abbrev pub IsMoment : ℕ → Type 0
IsMoment m = m < 253402300800

-- seconds of a week at most
abbrev pub FitsLag : ℕ → Type 0
FitsLag lag = lag ≤ 604800

pub record FitsStory (s : Story) : Type 0 where
  pub urgency : s.urgency ≤ 9
  pub slugline : length s.slugline ≤ 500
  pub headline : length s.headline ≤ 500
  pub byline : length s.byline ≤ 500
  pub language : length s.language ≤ 35
  pub category : length s.category ≤ 3
  pub body : length s.body ≤ 524288
  pub copyright : length s.copyright ≤ 500

-- a story that comes in
pub record FitsIncoming (i : Incoming) : Type 0 where
  pub identity : length i.identity ≤ 256
  pub created : IsMoment i.created
  pub embargo : IsMoment i.embargo
  pub story : FitsStory i.story
