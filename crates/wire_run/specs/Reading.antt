-- How far an input was read.
use Rattle.std.specs.Prelude.{◌≡◌, ◌<◌, ◌≤◌, ℕ, ◌+◌, false, List, [], ◌++◌, length, take, Result, Ok, Err}
use Rattle.news_io.specs.Faults.{Rose}
use Rattle.news_io.specs.Source.{SourceMeaning}
use Rattle.line_run.specs.Run.{WasRead}
use Rattle.line_run.specs.declared.ending.Ending.{Ending}
use Rattle.line_run.specs.declared.ending.Ending.TheVariants as end
use Rattle.text7901.specs.declared.found.Found.{Found}
use Rattle.text7901.specs.Gives.{Pending, gives}
use Rattle.text7901.specs.Wire.{wire}
use Rattle.wire_run.specs.Decided.{decided}

-- a reader of a wire has taken these bytes, and what they decide was taken from it
pub record HasTaken (r : Pending) (read : List ℕ) : Type 0 where
  pub going : r.ended ≡ false
  pub place : r.at ≡ length read
  pub none : r.ready ≡ []
  pub rest : (more : List ℕ) → decided read ++ gives r more ≡ wire (read ++ more)

-- ---- an input that is read as a whole

-- a byte more than an item may have: what follows changes nothing
abbrev pub ENOUGH : ℕ
ENOUGH = 4194305

pub record Part {S : Type 0} (source : SourceMeaning S) (most : ℕ) (i i' : S) : Type 0 where
  pub read : List ℕ
  pub more : List ℕ
  pub was_read : WasRead source i i' read more
  pub few : length read ≤ most + 1

-- the same up to here, with so many bytes to go
pub record PartSoFar {S : Type 0} (source : SourceMeaning S) (most : ℕ) (i i' : S) (kept : List ℕ) (left : ℕ) : Type 0 where
  pub read : List ℕ
  pub was_read : WasRead source i i' read (source.ahead i')
  pub count : length read + left ≡ most
  pub kept_is : kept ≡ take ENOUGH read

-- by what ended it
abbrev pub IsReadThrough : {S : Type 0} → SourceMeaning S → ℕ → S → S → List ℕ → Result (Unit {0}) Ending → Type 0
IsReadThrough source most i i' kept (Ok u) = (part : Part source most i i') × (part.more ≡ []) × (length part.read ≤ most) × (kept ≡ take ENOUGH part.read) × (source.faults i' ≡ source.faults i)
IsReadThrough source most i i' kept (Err end.Read) = (part : Part source most i i') × (length part.read ≤ most) × Rose (source.faults i) (source.faults i')
IsReadThrough source most i i' kept (Err end.TooLong) = (part : Part source most i i') × (most < length part.read) × (source.faults i' ≡ source.faults i)
IsReadThrough source most i i' kept (Err end.Memory) = Part source most i i' × (source.faults i' ≡ source.faults i)
IsReadThrough source most i i' kept (Err why) = ⊥
