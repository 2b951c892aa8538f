-- A pair that was packed.
use Rattle.std.specs.Prelude.{◌≡◌, List, []}
use Rattle.news_types.specs.Names.{Bytes}
use Rattle.news_io.specs.Disk.{DiskMeaning}
use Rattle.news_journal.specs.Stands.{list_of}
use Rattle.news_pair.specs.Pair.{packed_in}
use Rattle.news_pair.specs.declared.pair.Pair.{Pair}

-- the side holds the whole list, and the log no record of it
pub record IsPacked {D : Type 0} (disk : DiskMeaning D) (p : Pair D) (h : List Bytes) : Type 0 where
  pub log : list_of disk p.log ≡ []
  pub side : packed_in p.store (disk.seen p.side) ≡ h
