-- What a command leaves that looks at its store by its records.
use Rattle.std.proofs.Common.{◌≡◌, ◌∙◌, List, length, sym, ap, subst}
use Rattle.std.proofs.lemmas.List.{length-map}
use Rattle.news_types.specs.History.{History}
use Rattle.news_io.specs.Disk.{DiskMeaning}
use Rattle.news_io.specs.declared.record.Record.{Record}
use Rattle.news_pair.specs.Stands.{log_disk, side_disk}
use Rattle.news_pair.specs.declared.pair.Pair.{Pair}
use Rattle.news_room.specs.Opening.{bytes_of}
use Rattle.news_room.specs.declared.room.Room.{Room}
use Rattle.news_room.proofs.Lists.{counted}
use Rattle.list_runs.specs.Lists.{AreOf}
use Rattle.store_files.specs.Files.{FilesHold}
use Rattle.store_files.specs.Store.{IsOpenRoom}
use Rattle.store_files.proofs.Holding.{room_holds}

module _ {D : Type 0} (disk : DiskMeaning D) (log side : D) (room : Room (Pair D)) (opened : IsOpenRoom disk log side room) (log' side' : D) (same : log' ≡ log_disk room.keeper) (same_side : side' ≡ side_disk room.keeper) where
  -- the disks of its room hold the list as before
  pub files_held : disk.tells log → disk.tells side → FilesHold disk log' side' opened.store opened.history
  files_held told told' =
      subst (λ (x : D). FilesHold disk x side' opened.store opened.history) (sym same)
      (subst (λ (x : D). FilesHold disk (log_disk room.keeper) x opened.store opened.history) (sym same_side) (room_holds disk log side room opened told told'))

-- as many records as entries
pub as_many : (rs : List Record) (h : History) → AreOf rs h → length rs ≡ length h
as_many rs h are = sym (length-map rs bytes_of) ∙ ap length are.is ∙ counted h
