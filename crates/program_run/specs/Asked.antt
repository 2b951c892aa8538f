-- Questions of an input, at a place of the list to which the files open: no clock is read, nothing happens or is kept.
use Rattle.std.specs.Prelude.{◌≡◌, ◌⊎◌, ◌<◌, ◌≤◌, ℕ, nat_lt, List, [], ◌∷◌, ◌++◌, length, if◌then◌else◌, Result, Err}
use Rattle.news_types.specs.Names.{Bytes}
use Rattle.news_types.specs.History.{History}
use Rattle.news_io.specs.Faults.{Rose}
use Rattle.news_io.specs.Outside.{Meanings, Outside}
use Rattle.news_io.specs.Sink.{AreFirst}
use Rattle.line_run.specs.declared.ending.Ending.{Ending}
use Rattle.line_run.specs.declared.ending.Ending.TheVariants as end
use Rattle.run_status.specs.Output.{Wrote, AllPassed, Told}
use Rattle.run_status.specs.Status.{number_of, line_of}
use Rattle.run_status.specs.declared.status.Status.TheVariants as status
use Rattle.program_run.specs.Formats.{Formats}
use Rattle.program_run.specs.Looked.{HasLooked}
use Rattle.program_run.specs.Members.{Input, WasRead, ReadTo, MembersOf, LONGEST_INPUT, Causes, AnswersAll, status_of}
use Rattle.program_run.specs.Refused.{NotOpened}
use Rattle.program_run.specs.Reported.{IsStopped}

-- the list as it was behind its first entries, so many; all of it, where it has fewer
abbrev pub first_entries : ℕ → History → History
first_entries n [] = []
first_entries n (e ∷ list) = if nat_lt (length list) n then e ∷ list else first_entries n list

module _ {X : Type 0} (answer : X → Bytes) where
  -- what these lines are answered, each with a line feed
  abbrev pub answers : List X → Bytes
  answers [] = []
  answers (x ∷ xs) = answer x ++ 10 ∷ answers xs

  -- of the answer to the first of these lines so much was written: nothing but by an output that has failed since
  abbrev pub IsHalf : Ending → List X → Bytes → Type 0
  IsHalf why [] half = half ≡ []
  IsHalf why (x ∷ later) half = AreFirst half (answer x ++ 10 ∷ []) × (0 < length half → why ≡ end.Write)

  -- These lines were not answered, by what ended the run: the output or want of memory. The end of the input, a
  -- failure of it and too many bytes come behind them all, and the files end no such run.
  abbrev pub NotAnswered : Result (Unit {0}) Ending → List X → Bytes → Type 0
  NotAnswered (Err end.Write) later half = IsHalf end.Write later half
  NotAnswered (Err end.Memory) later half = IsHalf end.Memory later half
  NotAnswered (Err end.Store) later half = ⊥
  NotAnswered (Err end.Full) later half = ⊥
  NotAnswered ended later half = (later ≡ []) × (half ≡ [])

-- the lines of the input were answered so, and the status and its line tell how that ended
module _ {D S O C L X : Type 0} (input : Input X) (answer : X → Bytes) (m : Meanings D S O C L)
    (before after : Outside D S O C L) where
  pub record LinesAnswered (number : ℕ) : Type 0 where
    pub ended : Result (Unit {0}) Ending
    pub number_is : number ≡ number_of (status_of ended)
    pub read : List ℕ
    pub more : List ℕ
    pub was_read : WasRead m before after read more
    pub read_to : ReadTo LONGEST_INPUT read more ended
    -- the first of them, and of the next what was written of its answer
    pub first : List X
    pub later : List X
    pub lines_are : MembersOf input read more ended ≡ first ++ later
    pub half : Bytes
    pub next : NotAnswered answer ended later half
    -- this output stands before the status line
    pub mid : O
    pub wrote : Wrote m.sink before.output mid (answers answer first ++ half)
    -- the answers of the first have passed on
    pub passed : m.sink.tells before.output → AllPassed m.sink before.output
        → AreFirst (m.sink.taken before.output ++ answers answer first) (m.sink.passed mid)
    pub causes : Causes (m.source.faults before.input) (m.source.faults after.input) 0 0 (m.sink.faults before.output)
        (m.sink.faults mid) ended
    pub line : Told m.sink mid after.output (line_of (status_of ended))
    -- all that was written has passed on, unless the output has failed
    pub all_passed : m.sink.tells before.output
        → AllPassed m.sink after.output ⊎ Rose (m.sink.faults before.output) (m.sink.faults after.output)
    pub done : number ≡ 0 → m.sink.tells before.output → AllPassed m.sink after.output

module _ {D S O C L : Type 0} (f : Formats) (m : Meanings D S O C L) (before after : Outside D S O C L)
    (number entries : ℕ) where
  -- the list has not so many entries, and no line was read
  pub record HasFewer (list : History) : Type 0 where
    pub fewer : length list < entries
    pub input : after.input ≡ before.input
    pub stopped : IsStopped m before after number status.WrongStore

  -- there was no memory for the list, and no line was read
  pub record IsStarved : Type 0 where
    pub input : after.input ≡ before.input
    pub stopped : IsStopped m before after number status.Memory

  -- it has them, and the lines were answered at the first so many
  pub record HasAsked (list : History) : Type 0 where
    pub enough : entries ≤ length list
    pub answered : LinesAnswered f.lines.input (f.question_answer (first_entries entries list)) m before after number
        ⊎ IsStarved
    pub all : AnswersAll m before after number

  -- the files do not serve, or the lines were asked at their list
  abbrev pub Asked : Type 0
  Asked = NotOpened f.finders m before after number
      ⊎ ((after.clock ≡ before.clock) × (after.links ≡ before.links)
      × HasLooked m before after number (λ store list. HasFewer list ⊎ HasAsked list))
