-- What is watched means what it is made of.
use Rattle.news_io.specs.Clock.{ClockMeaning}
use Rattle.news_io.specs.Disk.{DiskMeaning}
use Rattle.news_io.specs.Source.{SourceMeaning}
use Rattle.progress.specs.declared.watched.Watched.{Watched}

abbrev pub watched_source : {S R : Type 0} → SourceMeaning S → SourceMeaning (Watched S R)
watched_source source = record {
  faults = λ w. source.faults w.inner;
  tells = λ w. source.tells w.inner;
  ahead = λ w. source.ahead w.inner;
}

abbrev pub watched_disk : {D R : Type 0} → DiskMeaning D → DiskMeaning (Watched D R)
watched_disk disk = record {
  faults = λ w. disk.faults w.inner;
  calls = λ w. disk.calls w.inner;
  tells = λ w. disk.tells w.inner;
  seen = λ w. disk.seen w.inner;
  may_leave = λ w c. disk.may_leave w.inner c;
  moment = λ w. disk.moment w.inner;
  left_since = λ w t c. disk.left_since w.inner t c;
  counts_now = λ w t c le now. disk.counts_now w.inner t c le now;
  leaves_seen = λ w tells. disk.leaves_seen w.inner tells;
  no_longer = λ w c tells left. disk.no_longer w.inner c tells left;
  only_now = λ w c left. disk.only_now w.inner c left;
}

abbrev pub watched_clock : {C R : Type 0} → ClockMeaning C → ClockMeaning (Watched C R)
watched_clock clock = record {
  tells = λ w. clock.tells w.inner;
  ahead = λ w. clock.ahead w.inner;
}
