-- What a run over a whole input does.
use Rattle.std.specs.Prelude.{◌≡◌, ◌<◌, ◌≤◌, ℕ, ◌+◌, List, [], ◌++◌, length, take, Result, Ok, Err}
use Rattle.news_io.specs.Faults.{Rose}
use Rattle.line_run.specs.Life.{Meaning, Life}
use Rattle.line_run.specs.Turns.{AnsweredAll, AnsweredSome, Causes}
use Rattle.line_run.specs.declared.ending.Ending.{Ending}
use Rattle.line_run.specs.declared.ending.Ending.TheVariants as end
use Rattle.news_io.specs.Source.{SourceMeaning}
use Rattle.news_io.specs.Sink.{SinkMeaning}

-- what was read, and what is still to come, where the source tells it
pub record WasRead {S : Type 0} (source : SourceMeaning S) (old new : S) (read more : List ℕ) : Type 0 where
  pub told : source.tells old → source.tells new
  pub input : source.tells old → source.ahead old ≡ read ++ more
  pub rest : source.tells old → source.ahead new ≡ more

-- what of the input was answered, by what ended the run: `decided` are the members that some first bytes decide, `all` those of a whole input
abbrev pub IsEnd : {T C A O X : Type 0} → Meaning T X → Life T C A → SinkMeaning O → (List ℕ → List X) → (List ℕ → List X) → ℕ → A → A → O → O → List T → List ℕ → List ℕ → Result (Unit {0}) Ending → Type 0
IsEnd M L sink decided all most old new o o' h read more (Ok u) =
    (more ≡ []) × (length read ≤ most) × AnsweredAll M L sink old new o o' h (all read)
IsEnd M L sink decided all most old new o o' h read more (Err end.Read) =
    (length read ≤ most) × AnsweredAll M L sink old new o o' h (decided read)
IsEnd M L sink decided all most old new o o' h read more (Err end.TooLong) =
    (most < length read) × AnsweredAll M L sink old new o o' h (decided (take most read))
IsEnd M L sink decided all most old new o o' h read more (Err why) =
    AnsweredSome M L sink old new o o' h (all (read ++ more)) why

pub record Ran {T C S A O X : Type 0} (M : Meaning T X) (L : Life T C A) (source : SourceMeaning S) (sink : SinkMeaning O) (decided all : List ℕ → List X) (most : ℕ) (i i' : S) (old new : A) (o o' : O) (h : List T) (r : Result (Unit {0}) Ending) : Type 0 where
  pub read : List ℕ
  pub more : List ℕ
  pub was_read : WasRead source i i' read more
  pub few : length read ≤ most + 1
  pub did : IsEnd M L sink decided all most old new o o' h read more r

-- the output did not end it
abbrev pub NotByOutput : Result (Unit {0}) Ending → Type 0
NotByOutput (Err end.Write) = ⊥
NotByOutput r = Unit {0}

-- each ending has its cause: a fault is answered only where the count rose, and else it is as it was
abbrev pub Ends : ℕ → ℕ → ℕ → ℕ → ℕ → ℕ → Result (Unit {0}) Ending → Type 0
Ends i i' m m' o o' (Err end.Read) = Rose i i' × (m' ≡ m) × (o' ≡ o)
Ends i i' m m' o o' (Err end.TooLong) = (i' ≡ i) × (m' ≡ m) × (o' ≡ o)
Ends i i' m m' o o' r = (i' ≡ i) × Causes m m' o o' r

-- all members that the bytes read decide were answered, and the reader agrees with these bytes
pub record ReadSoFar {T C S A O X : Type 0} (M : Meaning T X) (L : Life T C A) (source : SourceMeaning S) (sink : SinkMeaning O) (decided : List ℕ → List X) (most : ℕ) (agrees : List ℕ → Type 0) (i i' : S) (old new : A) (o o' : O) (h : List T) (left : ℕ) : Type 0 where
  pub read : List ℕ
  pub was_read : WasRead source i i' read (source.ahead i')
  pub count : length read + left ≡ most
  pub reader : agrees read
  pub done : AnsweredAll M L sink old new o o' h (decided read)

-- the same at the input's end
pub record ReadAll {T C S A O X : Type 0} (M : Meaning T X) (L : Life T C A) (source : SourceMeaning S) (sink : SinkMeaning O) (decided : List ℕ → List X) (most : ℕ) (agrees : List ℕ → Type 0) (i i' : S) (old new : A) (o o' : O) (h : List T) : Type 0 where
  pub read : List ℕ
  pub was_read : WasRead source i i' read []
  pub few : length read ≤ most
  pub reader : agrees read
  pub done : AnsweredAll M L sink old new o o' h (decided read)

abbrev pub ReadsTo : {T C S A O X : Type 0} → Meaning T X → Life T C A → SourceMeaning S → SinkMeaning O → (List ℕ → List X) → (List ℕ → List X) → ℕ → (List ℕ → Type 0) → S → S → A → A → O → O → List T → Result (Unit {0}) Ending → Type 0
ReadsTo M L source sink decided all most agrees i i' old new o o' h (Ok u) = ReadAll M L source sink decided most agrees i i' old new o o' h
ReadsTo M L source sink decided all most agrees i i' old new o o' h (Err why) = Ran M L source sink decided all most i i' old new o o' h (Err why)
