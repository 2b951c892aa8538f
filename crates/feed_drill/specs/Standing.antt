-- What a clock means that shows one moment.
use Rattle.news_io.specs.Clock.{ClockMeaning}
use Rattle.feed_drill.specs.declared.standing.Standing.{Standing}

-- it tells its readings, each of which is the moment
abbrev pub standing : ClockMeaning Standing
standing = record {
  tells = λ s. Unit {0};
  ahead = λ s k. s.moment;
}
