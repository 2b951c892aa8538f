-- All that a command has of the outside, in one order: what its parts mean, and what they are at one moment.
use Rattle.std.specs.Prelude.{◌≡◌, ◌⊎◌, ℕ, ◌+◌, List}
use Rattle.news_io.specs.Clock.{ClockMeaning}
use Rattle.news_io.specs.Disk.{DiskMeaning}
use Rattle.news_io.specs.Link.{LinkMeaning}
use Rattle.news_io.specs.Sink.{SinkMeaning}
use Rattle.news_io.specs.Source.{SourceMeaning}

-- what its parts mean
pub record Meanings (D S O C L : Type 0) : Type 1 where
  pub disk : DiskMeaning D
  pub source : SourceMeaning S
  pub sink : SinkMeaning O
  pub clock : ClockMeaning C
  pub link : LinkMeaning L

-- its parts at one moment
pub record Outside (D S O C L : Type 0) : Type 0 where
  pub log : D
  pub side : D
  pub input : S
  pub output : O
  pub clock : C
  pub links : List L

-- the bytes of a log and of its side
abbrev pub Files : Type 0
Files = List ℕ × List ℕ

module _ {D S O C L : Type 0} (m : Meanings D S O C L) where
  -- both files tell what they hold
  pub record FilesTell (at : Outside D S O C L) : Type 0 where
    pub log : m.disk.tells at.log
    pub side : m.disk.tells at.side

  -- what a read gives of both
  abbrev pub read : Outside D S O C L → Files
  read at = (m.disk.seen at.log, m.disk.seen at.side)

  -- how often either has failed
  abbrev pub store_faults : Outside D S O C L → ℕ
  store_faults at = m.disk.faults at.log + m.disk.faults at.side

  -- what a crash may leave of both now
  abbrev pub MayLeave : Outside D S O C L → Files → Type 0
  MayLeave at files = m.disk.may_leave at.log files.0 × m.disk.may_leave at.side files.1

  -- what a read gives of both now, or a crash may leave
  abbrev pub MayBe : Outside D S O C L → Files → Type 0
  MayBe at files = ((files.0 ≡ m.disk.seen at.log) ⊎ m.disk.may_leave at.log files.0) × ((files.1 ≡ m.disk.seen at.side) ⊎ m.disk.may_leave at.side files.1)

  -- what a crash may have left at some moment from `before` on
  abbrev pub LeftSince : Outside D S O C L → Outside D S O C L → Files → Type 0
  LeftSince before after files = m.disk.left_since after.log (m.disk.moment before.log) files.0 × m.disk.may_leave after.side files.1
