-- A run of calls on a pair, each of which writes to one of its disks only.
use Rattle.std.specs.Prelude.{List}
use Rattle.news_types.specs.Names.{Bytes}
use Rattle.news_io.specs.Disk.{DiskMeaning}
use Rattle.news_pair.specs.Stands.{LogStays, SideStays}

-- From these disks to those, one call behind the other; at each moment of each call the pair opens to this list.
-- Two disks have no clock in common, so the order of their writes is told by the calls, one by one.
pub data Stays {D : Type 0} (disk : DiskMeaning D) (store : Bytes) (h : List Bytes) (log side : D) : D → D → Type 0 where
  as_they_are : Stays disk store h log side log side
  side_written : {log' side' next : D} → Stays disk store h log side log' side' → SideStays disk store h log' side' next → Stays disk store h log side log' next
  log_written : {log' side' next : D} → Stays disk store h log side log' side' → LogStays disk store h side' log' next → Stays disk store h log side next side'
