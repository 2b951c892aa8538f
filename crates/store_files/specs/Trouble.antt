-- Why a log and its side do not serve, with its status.
use Rattle.run_status.specs.declared.status.Status.{Status}
use Rattle.run_status.specs.declared.status.Status.TheVariants as status
use Rattle.news_journal.specs.declared.log.OpenFault.{OpenFault}
use Rattle.news_journal.specs.declared.log.OpenFault.TheVariants as file
use Rattle.news_pair.specs.declared.fault.PairFault.{PairFault}
use Rattle.news_pair.specs.declared.fault.PairFault.TheVariants as pair
use Rattle.news_pair.specs.declared.pack_fault.PackFault.{PackFault}
use Rattle.news_pair.specs.declared.pack_fault.PackFault.TheVariants as pack
use Rattle.news_room.specs.declared.answers.RoomFault.{RoomFault}
use Rattle.news_room.specs.declared.answers.RoomFault.TheVariants as room
use Rattle.store_files.specs.declared.trouble.Trouble.{Trouble}
use Rattle.store_files.specs.declared.trouble.Trouble.TheVariants as trouble

-- the status that tells it
abbrev pub status_of : Trouble → Status
status_of trouble.WrongStore = status.WrongStore
status_of trouble.Store = status.Store
status_of (trouble.Damaged at found) = status.Damaged at found
status_of (trouble.DamagedSide at found) = status.DamagedSide at found
status_of trouble.Full = status.Full
status_of trouble.Memory = status.Memory

-- ---- what it comes from: a file that could not be read, two files that are no pair, entries that may not follow, a pair that is not packed

abbrev pub trouble_of_file : OpenFault → Trouble
trouble_of_file file.DiskFault = trouble.Store
trouble_of_file (file.Damaged at found) = trouble.Damaged at found
trouble_of_file file.Memory = trouble.Memory

abbrev pub trouble_of_pair : PairFault → Trouble
trouble_of_pair pair.DiskFault = trouble.Store
trouble_of_pair (pair.Damaged at found) = trouble.Damaged at found
trouble_of_pair (pair.DamagedSide at found) = trouble.DamagedSide at found
trouble_of_pair pair.Memory = trouble.Memory

abbrev pub trouble_of_room : RoomFault → Trouble
trouble_of_room (room.Damaged at found) = trouble.Damaged at found
trouble_of_room (room.DamagedSide at found) = trouble.DamagedSide at found
trouble_of_room room.Memory = trouble.Memory

abbrev pub trouble_of_pack : PackFault → Trouble
trouble_of_pack pack.DiskFault = trouble.Store
trouble_of_pack (pack.Full size count) = trouble.Full
trouble_of_pack (pack.Damaged at found) = trouble.Damaged at found
trouble_of_pack pack.Memory = trouble.Memory
