-- What a run over the record lines of a whole input does.
use Rattle.std.specs.Prelude.{◌≡◌, ◌⊎◌, ◌<◌, ◌≤◌, ℕ, ◌+◌, List, [], ◌∷◌, ◌++◌, length, take, Result, Ok, Err}
use Rattle.news_types.specs.Names.{Bytes}
use Rattle.news_io.specs.Keeper.{KeeperMeaning}
use Rattle.news_io.specs.Source.{SourceMeaning}
use Rattle.news_io.specs.Sink.{SinkMeaning}
use Rattle.byte_formats.specs.Lawful.{Begins}
use Rattle.line_run.specs.Run.{WasRead}
use Rattle.record_lines.specs.Spelling.{Numbered, record_bytes, IsRecord}
use Rattle.record_lines.specs.Reads.{AreRecord}
use Rattle.record_lines.specs.declared.record.FirstRecord.{FirstRecord}
use Rattle.record_lines.specs.declared.record.FirstRecord.TheVariants.{Whole, Bad, Cut}
use Rattle.room_standby.specs.declared.standby.Standby.{Standby}
use Rattle.frame_run.specs.Input.{IsLookedAt}
use Rattle.frame_run.specs.declared.ending.Ending.{Ending}
use Rattle.frame_run.specs.declared.ending.Ending.TheVariants as end
use Rattle.standby_files.specs.Input.{AreRecords, NoneIsWhole, HasBegun, AreAll, IsBadAt, HasNoEntry, IsNoEntryAt}
use Rattle.standby_files.specs.Answers.{Copied, behind_all, AnsweredAll, AnsweredSome}

-- behind these record lines, of which the standby has made this, the input does not go on with a record line, or with the next one and no entry in it; the
-- place that shows it lies in so many first bytes, or there are no more
abbrev pub IsStrayAt : List Bytes → Bytes → List Numbered → ℕ → ℕ → Type 0
IsStrayAt held bytes records at most = (IsLookedAt bytes at most × IsBadAt bytes records at) ⊎ ((at ≤ most) × IsNoEntryAt bytes records (length held) at)

-- what of the input was answered, by what ended the run
abbrev pub IsEnd : {K O : Type 0} → KeeperMeaning K → SinkMeaning O → ℕ → Standby K → Standby K → O → O → Copied → Bytes → Bytes → Result (Unit {0}) Ending → Type 0
IsEnd keeper sink most old new o o' b read more (Ok u) =
    (more ≡ []) × (length read ≤ most) × ((records : List Numbered) × AreRecords read records [] × AnsweredAll keeper sink old new o o' b records)
IsEnd keeper sink most old new o o' b read more (Err end.Read) =
    (length read ≤ most) × ((records : List Numbered) × AreAll read records × AnsweredAll keeper sink old new o o' b records)
IsEnd keeper sink most old new o o' b read more (Err end.TooLong) =
    (most < length read) × ((records : List Numbered) × AreAll (take most read) records × AnsweredAll keeper sink old new o o' b records)
IsEnd keeper sink most old new o o' b read more (Err (end.BadFrame at)) =
    (records : List Numbered) × IsStrayAt (behind_all b.held records) (read ++ more) records at most × AnsweredAll keeper sink old new o o' b records
IsEnd keeper sink most old new o o' b read more (Err why) =
    (records : List Numbered) × (rest : Bytes) × AreRecords (read ++ more) records rest × AnsweredSome keeper sink old new o o' b records rest why

pub record Ran {K S O : Type 0} (keeper : KeeperMeaning K) (source : SourceMeaning S) (sink : SinkMeaning O) (most : ℕ) (i i' : S) (old new : Standby K) (o o' : O) (b : Copied) (r : Result (Unit {0}) Ending) : Type 0 where
  pub read : Bytes
  pub more : Bytes
  pub was_read : WasRead source i i' read more
  pub few : length read ≤ most + 1
  pub did : IsEnd keeper sink most old new o o' b read more r

-- ---- the bytes at hand

-- a byte of them shows that no record line stands first
pub record IsBadByte (bytes : Bytes) (at : ℕ) : Type 0 where
  pub within : at < length bytes
  pub before : Begins record_bytes IsRecord (take at bytes)
  pub here : Begins record_bytes IsRecord (take (at + 1) bytes) → ⊥
  pub none : NoneIsWhole bytes

-- the rest of the bytes at hand, which begin at a place of the input, begins with no record line, by a byte of it
pub record IsBadHere (bytes : Bytes) (begun : ℕ) (rest : Bytes) (at : ℕ) : Type 0 where
  pub within : ℕ
  pub byte : IsBadByte rest within
  pub place : at + length rest ≡ begun + length bytes + within

-- or with the next one to a list of so many, and no entry in it
pub record IsNoEntryHere (bytes : Bytes) (begun : ℕ) (rest : Bytes) (count at : ℕ) : Type 0 where
  pub line : Numbered
  pub later : Bytes
  pub are : AreRecords rest (line ∷ []) later
  pub end : ℕ
  pub ends : end + length later ≡ begun + length bytes
  pub bad : HasNoEntry count line end at

-- what of the bytes at hand was answered, by what ended the run; they begin at a place of the input
abbrev pub FoundEnd : {K O : Type 0} → KeeperMeaning K → SinkMeaning O → Standby K → Standby K → O → O → Copied → Bytes → ℕ → Ending → Type 0
FoundEnd keeper sink old new o o' b bytes begun (end.BadFrame at) =
    (records : List Numbered) × (rest : Bytes) × AreRecords bytes records rest
    × (IsBadHere bytes begun rest at ⊎ IsNoEntryHere bytes begun rest (length (behind_all b.held records)) at)
    × AnsweredAll keeper sink old new o o' b records
FoundEnd keeper sink old new o o' b bytes begun why =
    (records : List Numbered) × (rest : Bytes) × AreRecords bytes records rest × AnsweredSome keeper sink old new o o' b records rest why

-- the whole record lines at their front were answered, and this is left of them
abbrev pub FoundAll : {K O : Type 0} → KeeperMeaning K → SinkMeaning O → Standby K → Standby K → O → O → Copied → Bytes → Bytes → Type 0
FoundAll keeper sink old new o o' b bytes left = HasBegun left × ((records : List Numbered) × AreRecords bytes records left × AnsweredAll keeper sink old new o o' b records)

abbrev pub Found : {A K O : Type 0} → KeeperMeaning K → SinkMeaning O → Standby K → Standby K → O → O → Copied → Bytes → ℕ → (A → Bytes) → Result A Ending → Type 0
Found keeper sink old new o o' b bytes begun left (Ok x) = FoundAll keeper sink old new o o' b bytes (left x)
Found keeper sink old new o o' b bytes begun left (Err why) = FoundEnd keeper sink old new o o' b bytes begun why

-- what stands first in the bytes: a whole record line of so many of them; a byte with which none goes on; or what has come of one
abbrev pub IsNext : Bytes → FirstRecord → Type 0
IsNext bytes (Whole size) = (size ≤ length bytes) × ((r : Numbered) × AreRecord r (take size bytes))
IsNext bytes (Bad at) = IsBadByte bytes at
IsNext bytes Cut = HasBegun bytes
