-- An answer is written with a line feed, and passed on.
use Rattle.std.specs.Prelude.{◌≡◌, ℕ, List, [], ◌∷◌, ◌++◌, take, Result, Ok, Err, Vec}
use Rattle.std.specs.declared.alloc.Global.{Global}
use Rattle.news_io.specs.Faults.{Rose}
use Rattle.news_io.specs.Sink.{AreFirst, SinkMeaning}
use Rattle.run_status.specs.Output.{Wrote, AllPassed}
use Rattle.line_run.specs.Turns.{ending_of}
use Rattle.line_run.specs.declared.answering.Stopped.{Stopped}
use Rattle.line_run.specs.declared.ending.Ending.{Ending}
use Rattle.line_run.specs.declared.ending.Ending.TheVariants as end

-- the first bytes of an answer were written
pub record IsCut {O : Type 0} (sink : SinkMeaning O) (o o' : O) (line : List ℕ) : Type 0 where
  pub count : ℕ
  pub wrote : Wrote sink o o' (take count line)
  pub kept : sink.tells o → AreFirst (sink.passed o) (sink.passed o')

-- the text, by what its passing was answered
abbrev pub IsPassed : {O : Type 0} → SinkMeaning O → O → O → List ℕ → Result (Unit {0}) Ending → Type 0
IsPassed sink o o' text (Ok u) = Wrote sink o o' (text ++ 10 ∷ []) × (sink.tells o → AllPassed sink o') × (sink.faults o' ≡ sink.faults o)
IsPassed sink o o' text (Err end.Memory) = o' ≡ o
IsPassed sink o o' text (Err end.Write) = IsCut sink o o' (text ++ 10 ∷ []) × Rose (sink.faults o) (sink.faults o')
IsPassed sink o o' text (Err why) = ⊥

-- without an answer nothing is written
abbrev pub IsPassedOn : {O : Type 0} → SinkMeaning O → O → O → Result (Vec ℕ Global) Stopped → Result (Unit {0}) Ending → Type 0
IsPassedOn sink o o' (Ok text) r = IsPassed sink o o' text.items r
IsPassedOn sink o o' (Err why) r = (r ≡ Err (ending_of why)) × (o' ≡ o)
