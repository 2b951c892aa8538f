-- What `ship` does to the log, its side, the link and the output, and with which status it ends.
use Rattle.std.specs.Prelude.{◌≡◌, ◌⊎◌, ◌<◌, ℕ, ◌+◌, List, [], ◌∷◌, ◌++◌, length, codes, decimal}
use Rattle.news_types.specs.Names.{Bytes}
use Rattle.news_io.specs.Disk.{DiskMeaning, DiskGains}
use Rattle.news_io.specs.Link.{LinkMeaning}
use Rattle.news_io.specs.Sink.{SinkMeaning}
use Rattle.news_io.specs.declared.record.Record.{Record}
use Rattle.news_journal.specs.Opened.{Still}
use Rattle.news_pair.specs.declared.pair.Pair.{Pair}
use Rattle.news_room.specs.declared.room.Room.{Room}
use Rattle.run_status.specs.declared.status.Status.TheVariants as status
use Rattle.room_standby.specs.Holds.{AreOf}
use Rattle.room_standby.specs.Ships.{Ships, ShipCounts, IsOfNumber}
use Rattle.room_standby.specs.declared.outcome.Ship.{Ship}
use Rattle.room_standby.specs.declared.outcome.Ship.TheVariants.{Level, LinkFault, NoKept, Memory}
use Rattle.store_files.specs.Files.{FilesHold}
use Rattle.store_files.specs.Store.{IsRefused, IsOpenRoom, Opens}
use Rattle.store_files.specs.declared.trouble.Trouble.{Trouble}
use Rattle.store_files.specs.declared.trouble.Trouble.TheVariants as trouble
use Rattle.standby_files.specs.Telling.{IsStopped, IsTold}

-- ---- what is told

-- a word and a number
abbrev pub word_line : List ℕ → ℕ → Bytes
word_line word n = word ++ decimal n ++ 10 ∷ []

-- by what shipping came to: how many records the standby has, or the record at which it stopped
abbrev pub TellsShip : {O : Type 0} → SinkMeaning O → Ship → O → O → ℕ → Type 0
TellsShip sink (Level count) o o' s = IsTold sink (word_line (codes "level ") count) status.Done o o' s
TellsShip sink (LinkFault n) o o' s = IsTold sink (word_line (codes "link-fault ") n) status.Link o o' s
TellsShip sink (NoKept n reply) o o' s = IsTold sink (word_line (codes "no-kept ") n) status.NoReceipt o o' s
TellsShip sink Memory o o' s = IsStopped sink trouble.Memory o o' s

-- ---- the command

module _ {D O L : Type 0} (disk : DiskMeaning D) (sink : SinkMeaning O) (link : LinkMeaning L) (name : Bytes) (log log' side side' : D) (o o' : O) (l l' : L) (status : ℕ) where
  -- the files do not serve, and nothing was sent
  pub record NotShipped : Type 0 where
    pub why : Trouble
    pub refused : IsRefused disk log side log' side' why
    pub stopped : IsStopped sink why o o' status
    pub link_same : l' ≡ l

  -- the records of the files' list were shipped to the standby of this name, and what that came to was told; the files hold the list as before
  pub record HasShipped : Type 0 where
    pub room : Room (Pair D)
    pub opened : IsOpenRoom disk log side room
    pub files : disk.tells log → disk.tells side → FilesHold disk log' side' opened.store opened.history
    -- so does what a crash has left meanwhile, beside whatever the side then is, if it is not what a crash could leave before
    pub crash : disk.tells log → disk.tells side → DiskGains disk log log' (λ c. disk.may_leave log c ⊎ ((s : List ℕ) → disk.may_leave side' s → Opens c s opened.store opened.history))
    pub still : disk.tells side → Still disk side side'
    pub calm : disk.faults log' + disk.faults side' ≡ disk.faults log + disk.faults side
    pub records : List Record
    pub are : disk.tells log → disk.tells side → AreOf records opened.history
    pub answer : Ship
    pub ships : Ships link l l' records name 0 answer
    -- each line that is sent is that of the list's entry of its number
    pub lines : disk.tells log → disk.tells side → (from : ℕ) → from < length records → IsOfNumber opened.history records from
    pub counts : ShipCounts (link.faults l) (link.faults l') answer
    pub told : TellsShip sink answer o o' status

  abbrev pub IsShip : Type 0
  IsShip = NotShipped ⊎ HasShipped
