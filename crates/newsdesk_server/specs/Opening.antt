-- Why a store is not opened.
use Rattle.std.specs.Prelude.{◌≡◌}
use Rattle.news_io.specs.Disk.{DiskMeaning}
use Rattle.run_status.specs.declared.status.Status.{Status}
use Rattle.store_files.specs.Store.{IsRefused}
use Rattle.store_files.specs.Trouble.{status_of}
use Rattle.store_files.specs.declared.trouble.Trouble.{Trouble}

-- the files do not serve, and the status tells why
pub record IsNotOpened {D : Type 0} (disk : DiskMeaning D) (log side log' side' : D) (status : Status) : Type 0 where
  pub trouble : Trouble
  pub status_is : status ≡ status_of trouble
  pub refused : IsRefused disk log side log' side' trouble
