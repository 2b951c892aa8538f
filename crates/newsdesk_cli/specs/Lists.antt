-- What the commands do that tell a list, or ask at a place of it: to the log, its side, the input and the output, and with which status they end.
use Rattle.std.specs.Prelude.{◌≡◌, ◌⊎◌, ◌<◌, ◌≤◌, ℕ, ◌+◌, length}
use Rattle.news_types.specs.Names.{Bytes}
use Rattle.news_types.specs.History.{History}
use Rattle.news_io.specs.Disk.{DiskMeaning}
use Rattle.news_io.specs.Faults.{Rose}
use Rattle.news_io.specs.Keeper.{KeeperMeaning}
use Rattle.news_io.specs.Sink.{SinkMeaning}
use Rattle.news_io.specs.Source.{SourceMeaning}
use Rattle.news_pair.specs.Keeper.{pair_of}
use Rattle.line_run.specs.Status.{IsComplete}
use Rattle.room_reports.specs.Written.{IsWrittenOut}
use Rattle.room_runs.specs.Lines.{LONGEST_INPUT}
use Rattle.store_files.specs.declared.trouble.Trouble.TheVariants as trouble
use Rattle.told_entries.specs.Entries.{audit}
use Rattle.list_runs.specs.Life.{PastAnswered}
use Rattle.list_runs.specs.Lists.{first_entries}
use Rattle.list_runs.specs.Why.{why_line}
use Rattle.list_marks.specs.Digest as marks
use Rattle.list_marks.specs.Limits.{limits_lines}
use Rattle.news_room.specs.Log.{sizes}
use Rattle.newsdesk_cli.specs.Opened.{NotOpened, IsLook, HasLooked}
use Rattle.newsdesk_cli.specs.Telling.{IsStopped}

module _ {D O : Type 0} (disk : DiskMeaning D) (sink : SinkMeaning O) where
  -- a line for each entry of the list of the files behind the first so many was written, as far as the output and the memory allowed it
  abbrev pub IsAudit : ℕ → D → D → D → D → O → O → ℕ → Type 0
  IsAudit after log log' side side' o o' status = IsLook disk sink log log' side side' o o' status (λ store h. IsWrittenOut sink (audit after h) o o' status)

  -- so it is with the digest of its first entries, so many; or it has not so many
  abbrev pub IsDigest : ℕ → D → D → D → D → O → O → ℕ → Type 0
  IsDigest entries log log' side side' o o' status = IsLook disk sink log log' side side' o o' status (λ store h. marks.IsDigest sink entries h o o' status)

  -- so it is with a line for each limit of the store
  abbrev pub IsLimits : D → D → D → D → O → O → ℕ → Type 0
  IsLimits log log' side side' o o' status = IsLook disk sink log log' side side' o o' status (λ store h. IsWrittenOut sink (limits_lines h (65 + sizes h)) o o' status)

  -- so it is with the line that says why a publication on it is due to a subscriber or not
  abbrev pub IsWhy : ℕ → Bytes → D → D → D → D → O → O → ℕ → Type 0
  IsWhy publication subscriber log log' side side' o o' status = IsLook disk sink log log' side side' o o' status (λ store h. IsWrittenOut sink (why_line h publication subscriber) o o' status)

module _ {K S O : Type 0} (keeper : KeeperMeaning K) (source : SourceMeaning S) (sink : SinkMeaning O) (entries : ℕ) (i i' : S) (o o' : O) (status : ℕ) (h : History) where
  -- the list has not so many entries, and no line was read
  pub record HasFewer : Type 0 where
    pub fewer : length h < entries
    pub input_same : i' ≡ i
    pub stopped : IsStopped sink trouble.WrongStore o o' status

  -- it has them, and the lines of the input were answered at the first so many
  pub record HasAsked : Type 0 where
    pub enough : entries ≤ length h
    pub answered : PastAnswered keeper source sink (first_entries entries h) i i' o o' status
    pub complete : source.tells i → length (source.ahead i) ≤ LONGEST_INPUT → (Rose (source.faults i) (source.faults i') → ⊥) → (Rose (sink.faults o) (sink.faults o') → ⊥) → IsComplete status

  abbrev pub AsksAt : Type 0
  AsksAt = HasFewer ⊎ HasAsked

module _ {D S O : Type 0} (disk : DiskMeaning D) (source : SourceMeaning S) (sink : SinkMeaning O) (entries : ℕ) (log log' side side' : D) (i i' : S) (o o' : O) (status : ℕ) where
  -- the files do not serve, and nothing was read
  pub record NotAsked : Type 0 where
    pub why : NotOpened disk sink log log' side side' o o' status
    pub input_same : i' ≡ i

  -- the lines of the input are questions, which are asked at the first entries of the list of the files, so many
  abbrev pub IsAsk : Type 0
  IsAsk = NotAsked ⊎ HasLooked disk sink log log' side side' o o' status (λ store h. AsksAt (pair_of disk) source sink entries i i' o o' status h)
