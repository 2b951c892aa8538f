-- Why a file is no log of a receiver, with its status.
use Rattle.std.specs.Prelude.{Some}
use Rattle.run_status.specs.declared.status.Status.{Status}
use Rattle.run_status.specs.declared.status.Status.TheVariants as status
use Rattle.news_journal.specs.declared.log.OpenFault.{OpenFault}
use Rattle.news_journal.specs.declared.log.OpenFault.TheVariants as file
use Rattle.feed_receiver.specs.declared.receiver.ReceiverFault.{ReceiverFault}
use Rattle.feed_receiver.specs.declared.receiver.ReceiverFault.TheVariants as records
use Rattle.receiver_files.specs.declared.refusal.Refusal.{Refusal}
use Rattle.receiver_files.specs.declared.refusal.Refusal.TheVariants as refusal

-- the status that tells it
abbrev pub status_of : Refusal → Status
status_of refusal.WrongStore = status.WrongStore
status_of refusal.Store = status.Store
status_of (refusal.Damaged at found) = status.Damaged at found
status_of refusal.Memory = status.Memory

-- ---- what it comes from: a file that could not be read, and records that are not the feed

abbrev pub refusal_of_file : OpenFault → Refusal
refusal_of_file file.DiskFault = refusal.Store
refusal_of_file (file.Damaged at found) = refusal.Damaged at found
refusal_of_file file.Memory = refusal.Memory

abbrev pub refusal_of_records : ReceiverFault → Refusal
refusal_of_records (records.Damaged at) = refusal.Damaged at (Some 1)
refusal_of_records records.Memory = refusal.Memory
