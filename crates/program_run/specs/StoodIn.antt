-- What `stand-in` does to the two files of a standby's store.
use Rattle.std.specs.Prelude.{◌≡◌, ◌⊎◌, ◌<◌, ◌≤◌, ℕ, ◌+◌, Bool, true, List, [], ◌∷◌, ◌++◌, length, take, Option, Some, None, Result, Ok, Err}
use Rattle.news_types.specs.Names.{Bytes}
use Rattle.news_types.specs.History.{History}
use Rattle.news_types.specs.Members.{Each}
use Rattle.entry_codec.specs.Formed.{IsEntry}
use Rattle.news_io.specs.Disk.{LeavesOnly}
use Rattle.news_io.specs.Faults.{Rose}
use Rattle.news_io.specs.Outside.{Meanings, Outside, Files, FilesTell, read, MayBe, LeftSince, store_faults}
use Rattle.news_io.specs.Sink.{AreFirst}
use Rattle.news_journal.specs.Created.{IsInTheMaking}
use Rattle.news_journal.specs.Log.{records}
use Rattle.news_journal.specs.Opened.{Still}
use Rattle.news_journal.specs.declared.header.Header.TheVariants as header
use Rattle.frame_run.specs.Input.{IsLookedAt}
use Rattle.frame_run.specs.declared.ending.Ending.{Ending}
use Rattle.frame_run.specs.declared.ending.Ending.TheVariants as end
use Rattle.record_lines.specs.Spelling.{Numbered, record_bytes, IsRecord, kept_bytes}
use Rattle.standby_laws.specs.Standby.{Reaction, Next, reaction}
use Rattle.room_standby.specs.Holds.{IsOfEntry}
use Rattle.standby_files.specs.Input.{AreRecords, AreAll, IsBadAt, IsNoEntryAt}
use Rattle.store_files.specs.Kinds.{IsOfStore, IsOther}
use Rattle.program_run.specs.Damage.{Finders}
use Rattle.program_run.specs.Opens.{OpenTo, OpenAlike, AreBytes, Holds, payloads}
use Rattle.program_run.specs.Received.{LONGEST_INPUT, LONGEST_LOG, ByLog, status_of, Causes}
use Rattle.program_run.specs.Refused as refused
use Rattle.program_run.specs.Telling.{StoreCounts}
use Rattle.room_reports.specs.Written.{IsStopped}
use Rattle.run_status.specs.Output.{Wrote, AllPassed, Told}
use Rattle.run_status.specs.Status.{number_of, line_of}
use Rattle.run_status.specs.declared.status.Status.{Status}
use Rattle.run_status.specs.declared.status.Status.TheVariants as status

-- ---- what a standby answers to record lines

-- a payload is kept where its record is the next one
abbrev pub kept_by : Reaction → List Bytes → Bytes → List Bytes
kept_by Next held payload = held ++ payload ∷ []
kept_by _ held payload = held

-- the payloads that are held behind a record line, where it has the next one kept
unfoldable pub behind : List Bytes → Numbered → List Bytes
behind held r = kept_by (reaction (length held) r.number) held r.payload

abbrev pub behind_all : List Bytes → List Numbered → List Bytes
behind_all held [] = held
behind_all held (r ∷ lines) = behind_all (behind held r) lines

-- the reply to a record line: how many records are then held
abbrev pub reply : List Bytes → Numbered → Bytes
reply held r = kept_bytes (length (behind held r))

-- those to these, in order
abbrev pub replies : List Bytes → List Numbered → Bytes
replies held [] = []
replies held (r ∷ lines) = reply held r ++ replies (behind held r) lines

-- they are the payloads of these entries, each within the limits
pub record AreOfEntries (held : List Bytes) : Type 0 where
  pub list : History
  pub entries : Each IsEntry list
  pub are : held ≡ payloads list

-- ---- what of an input was answered

-- the record that was begun, where the log failed at it
abbrev pub WasTried : Result (Unit {0}) Ending → Option Numbered → Bytes → Type 0
WasTried ended None x = ⊥
WasTried ended (Some r) x = (ended ≡ Err end.Store) × (x ≡ r.payload)

-- what is held behind the record line at which it ended: a reply that is cut short is that to a record that was kept if it
-- is the next one
abbrev pub held_at : Ending → List Bytes → List Bytes → List Bytes
held_at end.Write before after = after
held_at why before after = before

module _ (held : List Bytes) (rest : Bytes) (why : Ending) (now : List Bytes) (said : Bytes) where
  -- Behind these held ones the rest begins with this record line, of the reply to which so much was written, and these are
  -- held then. Only the output cuts a reply short, and the log leaves out only a record that is the next one, and of an
  -- entry: as full, where it would take the log past its most bytes.
  pub record Begun (r : Numbered) : Type 0 where
    pub form : IsRecord r
    pub first : AreFirst (record_bytes r) rest
    pub list : now ≡ held_at why held (behind held r)
    pub begun : AreFirst said (reply held r)
    pub unkept : ByLog why → (behind held r ≡ held ++ r.payload ∷ []) × IsOfEntry r.payload
    pub full : why ≡ end.Full → LONGEST_LOG < 65 + length (records now) + length r.payload + 5

  -- so, or no record line was begun
  abbrev pub NextIs : Option Numbered → Type 0
  NextIs None = (now ≡ held) × (said ≡ []) × (ByLog why → ⊥)
  NextIs (Some r) = Begun r

-- Behind these record lines, when so many records are held, the bytes do not go on with a record line, or go on with the next
-- one, and no entry in it: the place that shows it.
abbrev pub IsStrayAt : Bytes → List Numbered → ℕ → ℕ → Type 0
IsStrayAt bytes lines count at =
    (IsLookedAt bytes at LONGEST_INPUT × IsBadAt bytes lines at) ⊎ ((at ≤ LONGEST_INPUT) × IsNoEntryAt bytes lines count at)

-- of bytes that were read, and more that were to come, these record lines were answered, one after the other
module _ (held : List Bytes) (read more : Bytes) (lines : List Numbered) where
  -- and none was begun
  abbrev pub NoneBegun : List Bytes → Bytes → Option Numbered → Type 0
  NoneBegun now said next = (now ≡ behind_all held lines) × (said ≡ []) × (next ≡ None)

  -- by what ended it: all of them; those that were read; those of the first bytes of an input that is too long; those before
  -- bytes that are no record line of an entry; or those before one that was begun
  abbrev pub Answers : List Bytes → Bytes → Option Numbered → Result (Unit {0}) Ending → Type 0
  Answers now said next (Ok u) = (more ≡ []) × (length read ≤ LONGEST_INPUT) × AreRecords read lines [] × NoneBegun now said next
  Answers now said next (Err end.Read) = (length read ≤ LONGEST_INPUT) × AreAll read lines × NoneBegun now said next
  Answers now said next (Err end.TooLong) =
      (LONGEST_INPUT < length read) × AreAll (take LONGEST_INPUT read) lines × NoneBegun now said next
  Answers now said next (Err (end.BadFrame at)) =
      IsStrayAt (read ++ more) lines (length (behind_all held lines)) at × NoneBegun now said next
  Answers now said next (Err why) =
      (rest : Bytes) × AreRecords (read ++ more) lines rest × NextIs (behind_all held lines) rest why now said next

-- ---- the files

-- the log is another store's, by its header alone
pub record IsOtherStore (store : Bytes) (log : List ℕ) : Type 0 where
  pub owner : Bytes
  pub of : IsOfStore owner log
  pub other : owner ≡ store → ⊥

-- so; or it is empty, and its side is not; or it is not empty, and they are no newsroom's
abbrev pub IsNotMine : Bytes → Files → Type 0
IsNotMine store files = IsOtherStore store files.0
    ⊎ (((files.0 ≡ []) × (files.1 ≡ [] → ⊥)) ⊎ ((files.0 ≡ [] → ⊥) × IsOther files.0 files.1))

-- what they say to each status; damage is that of any newsroom's files
abbrev pub Cause : Finders → Bytes → Files → Status → Type 0
Cause find store files status.WrongStore = IsNotMine store files
Cause find store files status.Store = Unit {0}
Cause find store files status.Memory = Unit {0}
Cause find store files why = (files.0 ≡ [] → ⊥) × (IsOtherStore store files.0 → ⊥) × refused.Cause find files why

module _ (store : Bytes) where
  -- what the standby of this store finds in them, as payloads, oldest first: two empty files hold none
  abbrev pub Gives : Files → List Bytes → Type 0
  Gives files held = ((files.0 ≡ []) × (files.1 ≡ []) × (held ≡ []))
      ⊎ ((list : History) × OpenTo store files list × (held ≡ payloads list))

  -- they are this store's, and hold these payloads
  abbrev pub HoldAll : List Bytes → Files → Type 0
  HoldAll held files = Holds files.0 files.1 store held

  -- these payloads, or these and one that was tried
  abbrev pub IsLeft : List Bytes → (Bytes → Type 0) → Files → Type 0
  IsLeft held Tried files = HoldAll held files ⊎ ((x : Bytes) × Tried x × HoldAll (held ++ x ∷ []) files)

  -- the held ones and the first few of those behind them, or all and one that was tried
  pub record Between (held now : List Bytes) (Tried : Bytes → Type 0) (files : Files) : Type 0 where
    pub part : List Bytes
    pub beyond : (more : List Bytes) × (part ≡ held ++ more)
    pub within : (more : List Bytes) × (now ≡ part ++ more)
    pub left : IsLeft part (λ x. (part ≡ now) × Tried x) files

-- ---- the command

module _ {D S O C L : Type 0} (m : Meanings D S O C L) (before after : Outside D S O C L) (number : ℕ)
    (store : Bytes) where
  -- what a crash may have left of the log before, or, of an empty one, a log in the making
  abbrev pub LogMayBe : List ℕ → Type 0
  LogMayBe file = m.disk.may_leave before.log file ⊎ ((m.disk.seen before.log ≡ []) × IsInTheMaking (header.Room store) file)

  -- and of both
  abbrev pub MayBeMade : Files → Type 0
  MayBeMade files = LogMayBe files.0 × m.disk.may_leave before.side files.1

  -- beside whatever a crash leaves of the side, this log holds what both gave before
  abbrev pub GivesStill : List ℕ → Type 0
  GivesStill log = length store ≡ 16 → (held : List Bytes) → Gives store (read m before) held
      → (side : List ℕ) → m.disk.may_leave after.side side → AreBytes (log, side) → HoldAll store held (log, side)

  -- the files do not serve, and nothing was read from the input; the side is as it was, and so is the log where it is not
  -- this store's
  pub record NotBegun (find : Finders) : Type 0 where
    pub why : Status
    pub cause : FilesTell m before → Cause find store (read m before) why
    pub counts : StoreCounts (store_faults m before) (store_faults m after) why
    pub other : why ≡ status.WrongStore → FilesTell m before → Still m.disk before.log after.log
    pub log : FilesTell m before → LeavesOnly m.disk before.log after.log (λ file. LogMayBe file ⊎ GivesStill file)
    pub side : m.disk.tells before.side → Still m.disk before.side after.side
    pub told : IsStopped m.sink why before.output after.output number
    pub input : after.input ≡ before.input

  -- The files had these payloads, and are left with those: as a read gives them, and as a crash leaves them. One at any moment
  -- of the call leaves the first few of them behind those that they had, or all and one that was tried; or files that open as
  -- those do that it could leave before.
  pub record FilesLeft (held now : List Bytes) (Tried : Bytes → Type 0) : Type 0 where
    pub long : length store ≡ 16
    pub gives : AreBytes (read m before) → Gives store (read m before) held
    pub left : (files : Files) → MayBe m after files → AreBytes files → IsLeft store now Tried files
    pub later : m.disk.moment before.log ≤ m.disk.moment after.log
    pub since : (files : Files) → LeftSince m before after files → AreBytes files
        → Between store held now Tried files ⊎ ((was : Files) × MayBeMade was × OpenAlike store was files)

  -- From the held payloads on, the record lines of the input were answered, one after the other. Told, the files held these at
  -- first, and are left with all that are held at last.
  pub record StoodIn (told : Bool) : Type 0 where
    pub held : List Bytes
    pub held_are : AreOfEntries held
    -- the input
    pub read_bytes : Bytes
    pub more : Bytes
    pub source_tells : m.source.tells before.input → m.source.tells after.input
    pub was_read : m.source.tells before.input
        → (m.source.ahead before.input ≡ read_bytes ++ more) × (m.source.ahead after.input ≡ more)
    pub few : length read_bytes ≤ LONGEST_INPUT + 1
    pub ended : Result (Unit {0}) Ending
    pub lines : List Numbered
    pub now : List Bytes
    pub now_are : AreOfEntries now
    pub goes_on : (more : List Bytes) × (now ≡ held ++ more)
    pub said : Bytes
    pub next : Option Numbered
    pub answers : Answers held read_bytes more lines now said next ended
    -- the output: the replies, of the next one its first bytes, and the status line
    pub mid : O
    pub half : 0 < length said → ended ≡ Err end.Write
    pub wrote : Wrote m.sink before.output mid (replies held lines ++ said)
    pub passed_first : m.sink.tells before.output → AllPassed m.sink before.output
        → AreFirst (m.sink.taken before.output ++ replies held lines) (m.sink.passed mid)
    pub number_is : number ≡ number_of (status_of ended)
    pub line : Told m.sink mid after.output (line_of (status_of ended))
    pub passed : m.sink.tells before.output
        → AllPassed m.sink after.output ⊎ Rose (m.sink.faults before.output) (m.sink.faults after.output)
    pub done : number ≡ 0 → m.sink.tells before.output → AllPassed m.sink after.output
    pub causes : Causes (m.source.faults before.input) (m.source.faults after.input) (store_faults m before)
        (store_faults m after) (m.sink.faults before.output) (m.sink.faults mid) ended
    pub files : told ≡ true → FilesLeft held now (WasTried ended next)

  -- where nothing failed, and the input is record lines of entries and not too long, everything was answered, or the log was
  -- full, or memory was wanting
  abbrev pub Complete : Type 0
  Complete = m.source.tells before.input → length (m.source.ahead before.input) ≤ LONGEST_INPUT
      → (lines : List Numbered) → AreRecords (m.source.ahead before.input) lines [] → Each (λ r. IsOfEntry r.payload) lines
      → (Rose (m.source.faults before.input) (m.source.faults after.input) → ⊥)
      → (Rose (m.sink.faults before.output) (m.sink.faults after.output) → ⊥)
      → (Rose (store_faults m before) (store_faults m after) → ⊥) → (number ≡ 0) ⊎ ((number ≡ 8) ⊎ (number ≡ 9))

  -- the files do not serve; or, whether they tell what they hold or not, the input was answered
  abbrev pub IsStoodIn : Finders → Type 0
  IsStoodIn find = (after.clock ≡ before.clock) × (after.links ≡ before.links)
      × (NotBegun find ⊎ (((told : Bool) → (told ≡ true → FilesTell m before) → StoodIn told) × Complete))
