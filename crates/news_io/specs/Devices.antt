-- What each device means: those in memory tell all that they do, and those of the system nothing.
use Rattle.std.specs.Prelude.{◌≡◌, ℕ, List, [], length, take, drop}
use Rattle.std.proofs.Common.{sym}
use Rattle.std.proofs.lemmas.List.{take-append-drop}
use Rattle.news_io.specs.Clock.{ClockMeaning, shown}
use Rattle.news_io.specs.Disk.{DiskMeaning}
use Rattle.news_io.specs.Keeper.{KeeperMeaning}
use Rattle.news_io.specs.Kept.{kept_from, only_kept}
use Rattle.news_io.specs.Link.{Nothing, LinkMeaning}
use Rattle.news_io.specs.Replay.{may_hold, left_from, only_last, counts_last, Tells}
use Rattle.news_io.specs.Sink.{SinkMeaning}
use Rattle.news_io.specs.Source.{SourceMeaning}
use Rattle.news_io.specs.declared.memory_disk.MemoryDisk.{MemoryDisk}
use Rattle.news_io.specs.declared.memory_keeper.MemoryKeeper.{MemoryKeeper}
use Rattle.news_io.specs.declared.memory_source.MemorySource.{MemorySource}
use Rattle.news_io.specs.declared.memory_sink.MemorySink.{MemorySink}
use Rattle.news_io.specs.declared.memory_clock.MemoryClock.{MemoryClock}
use Rattle.news_io.specs.declared.unreachable_link.UnreachableLink.{UnreachableLink}
use Rattle.news_io.specs.declared.file_disk.FileDisk.{FileDisk}
use Rattle.news_io.specs.declared.std_sink.StdSink.{StdSink}
use Rattle.news_io.specs.declared.std_source.StdSource.{StdSource}
use Rattle.news_io.specs.declared.std_clock.StdClock.{StdClock}

-- a disk in memory
abbrev pub memory_disk : DiskMeaning MemoryDisk
memory_disk = record {
  faults = λ m. m.script.faults;
  calls = λ m. m.script.calls;
  tells = λ m. Tells m.first.items m.events.items m.bytes.items;
  seen = λ m. m.bytes.items;
  may_leave = λ m c. may_hold (λ (d : List ℕ). d ≡ m.first.items) m.events.items c;
  moment = λ m. length m.events.items;
  left_since = λ m t c. left_from m.first.items m.events.items t c;
  counts_now = λ m t c le now. counts_last m.first.items m.events.items t c le now;
  leaves_seen = λ m tells. tells.holds;
  no_longer = λ m c tells left. tells.no_longer c left;
  only_now = λ m c left. only_last m.first.items m.events.items c left;
}

-- a keeper in memory
abbrev pub memory_keeper : KeeperMeaning MemoryKeeper
memory_keeper = record {
  label = λ k. [];
  faults = λ k. k.script.faults;
  calls = λ k. k.script.calls;
  most_calls = λ k. 1;
  used = λ k. k.used;
  tells = λ k. Unit {0};
  list = λ k. k.records.items;
  doubts = λ k x. ⊥;
  moment = λ k. length k.records.items;
  left_since = λ k t found. kept_from k.records.items t found;
  leaves_now = λ k found tells left. only_kept k.records.items found left;
}

-- a source in memory
abbrev pub memory_source : SourceMeaning MemorySource
memory_source = record {
  faults = λ m. m.script.faults;
  tells = λ m. Unit {0};
  ahead = λ m. drop m.at m.bytes.items;
}

-- a sink in memory
abbrev pub memory_sink : SinkMeaning MemorySink
memory_sink = record {
  faults = λ m. m.script.faults;
  tells = λ m. Unit {0};
  taken = λ m. m.bytes.items;
  passed = λ m. take m.mark m.bytes.items;
  in_order = λ m tells. (drop m.mark m.bytes.items, sym (take-append-drop m.mark m.bytes.items));
}

-- a clock in memory
abbrev pub memory_clock : ClockMeaning MemoryClock
memory_clock = record {
  tells = λ m. Unit {0};
  ahead = λ m k. shown m.readings.items m.at k;
}

-- a link that reaches nobody
abbrev pub unreachable_link : LinkMeaning UnreachableLink
unreachable_link = record {
  faults = λ l. l.faults;
  serves = λ l. l.names;
  tells = λ l. Unit {0};
  sent = λ l. [];
  said = λ l. [];
  step = λ old new p. p ≡ Nothing;
}

-- a file of the system: it tells nothing
abbrev pub file_disk : {R : Type 0} → DiskMeaning (FileDisk R)
file_disk = record {
  faults = λ d. d.faults;
  calls = λ d. 0;
  tells = λ d. ⊥;
  seen = λ d. [];
  may_leave = λ d c. Unit {0};
  moment = λ d. 0;
  left_since = λ d t c. Unit {0};
  counts_now = λ d t c le now. tt;
  leaves_seen = λ d tells. tt;
  no_longer = λ d c tells left. absurd tells;
  only_now = λ d c left. tt;
}

-- standard output: it tells nothing
abbrev pub std_sink : {W : Type 0} → SinkMeaning (StdSink W)
std_sink = record {
  faults = λ s. s.faults;
  tells = λ s. ⊥;
  taken = λ s. [];
  passed = λ s. [];
  in_order = λ s tells. absurd tells;
}

-- standard input: it tells nothing
abbrev pub std_source : {R : Type 0} → SourceMeaning (StdSource R)
std_source = record {
  faults = λ s. s.faults;
  tells = λ s. ⊥;
  ahead = λ s. [];
}

-- the system's clock: it tells nothing
abbrev pub std_clock : {R : Type 0} → ClockMeaning (StdClock R)
std_clock = record {
  tells = λ c. ⊥;
  ahead = λ c k. 0;
}
