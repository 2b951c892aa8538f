-- What the run of a package does.
use Rattle.std.specs.Prelude.{◌≡◌, ◌⊎◌, ℕ, List, [], ◌∷◌, ◌++◌, true, false, Result, Ok, Err}
use Rattle.news_types.specs.declared.text.Memory.{Memory}
use Rattle.news_types.specs.Names.{Bytes}
use Rattle.news_io.specs.Clock.{ClockMeaning, Gave}
use Rattle.news_io.specs.Keeper.{KeeperMeaning}
use Rattle.news_io.specs.Sink.{SinkMeaning}
use Rattle.news_io.specs.Source.{SourceMeaning}
use Rattle.line_run.specs.Status.{status_by}
use Rattle.line_run.specs.declared.ending.Ending.{Ending}
use Rattle.wire_run.specs.Reading.{IsReadThrough}
use Rattle.run_status.specs.declared.status.Status.{Status}
use Rattle.room_reports.specs.Written.{IsStopped}
use Rattle.news_room.specs.declared.room.Room.{Room}
use Rattle.desk_lines.specs.declared.lines.Described.{Described}
use Rattle.desk_lines.specs.declared.property.LineFault.{LineFault}
use Rattle.desk_lines.specs.declared.property.LineFault.TheVariants as fault
use Rattle.desk_lines.specs.declared.property.LineProperty.{LineProperty}
use Rattle.desk_lines.specs.Reading.{then_read}
use Rattle.desk_lines.specs.Lines.{package_object}
use Rattle.desk_answers.specs.Answers.{reply_bytes, denial_bytes, bad_bytes}
use Rattle.package_rules.specs.declared.publish.Packaged.{Packaged}
use Rattle.package_rules.specs.Composed.{Composed, composite}
use Rattle.package_rules.specs.Report.{no_readers_text}
use Rattle.package_rules.specs.Publishing.{IsPublished, IfDone}
use Rattle.whole_runs.specs.Output.{IsTextTold}

-- ---- what an object describes

-- a story with its members is a package
abbrev pub package_of : Described → Composed
package_of d = record { story = composite d.story d.members; members = d.members }

-- the package that an object describes, or its first bad property
abbrev pub package_read : Bytes → Result Composed LineProperty
package_read bytes = then_read (package_object bytes) (λ d. Ok (package_of d))

-- ---- how it is told

abbrev pub end_line : Bytes → Bytes
end_line text = text ++ 10 ∷ []

-- the text with its line end, where there was memory for both
abbrev pub IsLine : Result Bytes Memory → Result Bytes Memory → Type 0
IsLine (Ok text) (Ok line) = line ≡ end_line text
IsLine (Ok text) (Err why) = Unit {0}
IsLine (Err why) (Ok line) = ⊥
IsLine (Err why) (Err other) = Unit {0}

module _ {O : Type 0} (sink : SinkMeaning O) where
  -- a text as a line; or that there was no memory for it
  abbrev pub IsLineTold : Result Bytes Memory → O → O → ℕ → Type 0
  IsLineTold (Ok text) o o' status = IsTextTold sink (end_line text) o o' status
  IsLineTold (Err why) o o' status = IsStopped sink Status.Memory o o' status

  -- the first bad property as a line; or that there was no memory
  abbrev pub IsFaultTold : LineFault → O → O → ℕ → Type 0
  IsFaultTold (fault.Bad property) o o' status = IsTextTold sink (end_line (bad_bytes property)) o o' status
  IsFaultTold fault.Memory o o' status = IsStopped sink Status.Memory o o' status

  -- the line of an answer; or the status alone
  abbrev pub IsPackagedTold : Packaged → O → O → ℕ → Type 0
  IsPackagedTold (Packaged.Done reply) o o' status = IsTextTold sink (end_line (reply_bytes reply false)) o o' status
  IsPackagedTold (Packaged.Repeat reply) o o' status = IsTextTold sink (end_line (reply_bytes reply true)) o o' status
  IsPackagedTold (Packaged.Denied denial) o o' status = IsTextTold sink (end_line (denial_bytes denial)) o o' status
  IsPackagedTold (Packaged.NoReaders front) o o' status = IsTextTold sink (end_line (no_readers_text front)) o o' status
  IsPackagedTold Packaged.Fault o o' status = IsStopped sink Status.Store o o' status
  IsPackagedTold (Packaged.Full size count) o o' status = IsStopped sink Status.Full o o' status
  IsPackagedTold Packaged.Memory o o' status = IsStopped sink Status.Memory o o' status

-- ---- the run

-- the most bytes of an input
abbrev pub LONGEST_INPUT : ℕ
LONGEST_INPUT = 4294967296

module _ {K C S O : Type 0} (keeper : KeeperMeaning K) (clock : ClockMeaning C) (source : SourceMeaning S) (sink : SinkMeaning O) (caller : Bytes) (number : ℕ) (old new : Room K) (c c' : C) (i i' : S) (o o' : O) (status : ℕ) where
  -- the input was read to its end, and describes a package, which was published at one reading of the clock
  pub record HasPublished : Type 0 where
    pub object : Bytes
    pub part : IsReadThrough source LONGEST_INPUT i i' object (Ok tt)
    pub package_is : Composed
    pub described : package_read object ≡ Ok package_is
    pub now : ℕ
    pub read : clock.tells c → clock.tells c' × Gave (clock.ahead c) (now ∷ []) (clock.ahead c')
    pub packaged : Packaged
    pub published : IsPublished keeper old new now caller number package_is packaged
    pub done : IfDone keeper old new package_is packaged
    pub told : IsPackagedTold sink packaged o o' status

  -- it was read to its end, and describes none, or there was no memory to say: nothing is asked of the room
  pub record HasBadObject : Type 0 where
    pub object : Bytes
    pub part : IsReadThrough source LONGEST_INPUT i i' object (Ok tt)
    pub same : new ≡ old
    pub same_clock : c' ≡ c
    pub told : ((property : LineProperty) × (package_read object ≡ Err property) × IsTextTold sink (end_line (bad_bytes property)) o o' status) ⊎ IsStopped sink Status.Memory o o' status

  -- it was not read to its end
  pub record HasNotRead : Type 0 where
    pub why : Ending
    pub part : IsReadThrough source LONGEST_INPUT i i' [] (Err why)
    pub same : new ≡ old
    pub same_clock : c' ≡ c
    pub stopped : IsStopped sink (status_by why) o o' status

  abbrev pub IsPackageRun : Type 0
  IsPackageRun = HasPublished ⊎ (HasBadObject ⊎ HasNotRead)
