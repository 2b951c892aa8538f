-- What a run over a whole input does.
use Rattle.std.specs.Prelude.{◌≡◌, ◌<◌, ◌≤◌, ℕ, ◌+◌, List, [], ◌++◌, length, take, Result, Ok, Err}
use Rattle.news_types.specs.Names.{Bytes}
use Rattle.news_types.specs.Frames.{Frame}
use Rattle.news_io.specs.Faults.{Rose}
use Rattle.news_io.specs.Keeper.{KeeperMeaning}
use Rattle.news_io.specs.Source.{SourceMeaning}
use Rattle.news_io.specs.Sink.{SinkMeaning}
use Rattle.byte_formats.specs.Lawful.{Begins}
use Rattle.line_run.specs.Run.{WasRead}
use Rattle.feed_receiver.specs.declared.receiver.Receiver.{Receiver}
use Rattle.feed_receiver.specs.Spelling.{frame_bytes, IsFrame}
use Rattle.feed_receiver.specs.Holds.{Received}
use Rattle.feed_receiver.specs.Takes.{AreFrame}
use Rattle.feed_receiver.specs.declared.frame.FirstFrame.{FirstFrame}
use Rattle.feed_receiver.specs.declared.frame.FirstFrame.TheVariants.{Whole, Bad, Cut}
use Rattle.frame_run.specs.declared.ending.Ending.{Ending}
use Rattle.frame_run.specs.declared.ending.Ending.TheVariants as end
use Rattle.frame_run.specs.Input.{AreFrames, NoneIsWhole, HasBegun, AreAll, IsBadAt, IsLookedAt}
use Rattle.frame_run.specs.Answers.{AnsweredAll, AnsweredSome, CausedBy}

-- what of the input was answered, by what ended the run
abbrev pub IsEnd : {K O : Type 0} → KeeperMeaning K → SinkMeaning O → ℕ → Receiver K → Receiver K → O → O → Received → Bytes → Bytes → Result (Unit {0}) Ending → Type 0
IsEnd keeper sink most old new o o' b read more (Ok u) =
    (more ≡ []) × (length read ≤ most) × ((frames : List Frame) × AreFrames read frames [] × AnsweredAll keeper sink old new o o' b frames)
IsEnd keeper sink most old new o o' b read more (Err end.Read) =
    (length read ≤ most) × ((frames : List Frame) × AreAll read frames × AnsweredAll keeper sink old new o o' b frames)
IsEnd keeper sink most old new o o' b read more (Err end.TooLong) =
    (most < length read) × ((frames : List Frame) × AreAll (take most read) frames × AnsweredAll keeper sink old new o o' b frames)
IsEnd keeper sink most old new o o' b read more (Err (end.BadFrame at)) =
    IsLookedAt (read ++ more) at most × ((frames : List Frame) × IsBadAt (read ++ more) frames at × AnsweredAll keeper sink old new o o' b frames)
IsEnd keeper sink most old new o o' b read more (Err why) =
    (frames : List Frame) × (rest : Bytes) × AreFrames (read ++ more) frames rest × AnsweredSome keeper sink old new o o' b frames rest why

pub record Ran {K S O : Type 0} (keeper : KeeperMeaning K) (source : SourceMeaning S) (sink : SinkMeaning O) (most : ℕ) (i i' : S) (old new : Receiver K) (o o' : O) (b : Received) (r : Result (Unit {0}) Ending) : Type 0 where
  pub read : Bytes
  pub more : Bytes
  pub was_read : WasRead source i i' read more
  pub few : length read ≤ most + 1
  pub did : IsEnd keeper sink most old new o o' b read more r

-- the output did not end it
abbrev pub NotByOutput : Result (Unit {0}) Ending → Type 0
NotByOutput (Err end.Write) = ⊥
NotByOutput r = Unit {0}

-- each ending has its cause: a fault is answered only where the count rose, and else it is as it was
abbrev pub Ends : ℕ → ℕ → ℕ → ℕ → ℕ → ℕ → Result (Unit {0}) Ending → Type 0
Ends i i' k k' o o' (Err end.Read) = Rose i i' × (k' ≡ k) × (o' ≡ o)
Ends i i' k k' o o' (Err end.TooLong) = (i' ≡ i) × (k' ≡ k) × (o' ≡ o)
Ends i i' k k' o o' (Err why) = (i' ≡ i) × CausedBy k k' o o' why
Ends i i' k k' o o' (Ok u) = (i' ≡ i) × (k' ≡ k) × (o' ≡ o)

-- ---- the bytes at hand

-- a byte of them shows that no frame stands first
pub record IsBadByte (bytes : Bytes) (at : ℕ) : Type 0 where
  pub within : at < length bytes
  pub before : Begins frame_bytes IsFrame (take at bytes)
  pub here : Begins frame_bytes IsFrame (take (at + 1) bytes) → ⊥
  pub none : NoneIsWhole bytes

-- what of the bytes at hand was answered, by what ended the run; they begin at a place of the input
abbrev pub FoundEnd : {K O : Type 0} → KeeperMeaning K → SinkMeaning O → Receiver K → Receiver K → O → O → Received → Bytes → ℕ → Ending → Type 0
FoundEnd keeper sink old new o o' b bytes begun (end.BadFrame at) =
    (frames : List Frame) × (rest : Bytes) × (within : ℕ) × AreFrames bytes frames rest × IsBadByte rest within × (at + length rest ≡ begun + length bytes + within) × AnsweredAll keeper sink old new o o' b frames
FoundEnd keeper sink old new o o' b bytes begun why =
    (frames : List Frame) × (rest : Bytes) × AreFrames bytes frames rest × AnsweredSome keeper sink old new o o' b frames rest why

-- the whole frames at their front were answered, and this is left of them
abbrev pub FoundAll : {K O : Type 0} → KeeperMeaning K → SinkMeaning O → Receiver K → Receiver K → O → O → Received → Bytes → Bytes → Type 0
FoundAll keeper sink old new o o' b bytes left = HasBegun left × ((frames : List Frame) × AreFrames bytes frames left × AnsweredAll keeper sink old new o o' b frames)

abbrev pub Found : {A K O : Type 0} → KeeperMeaning K → SinkMeaning O → Receiver K → Receiver K → O → O → Received → Bytes → ℕ → (A → Bytes) → Result A Ending → Type 0
Found keeper sink old new o o' b bytes begun left (Ok x) = FoundAll keeper sink old new o o' b bytes (left x)
Found keeper sink old new o o' b bytes begun left (Err why) = FoundEnd keeper sink old new o o' b bytes begun why

-- what stands first in the bytes: a whole frame of so many of them; a byte with which no frame goes on; or what has come of a frame
abbrev pub IsNext : Bytes → FirstFrame → Type 0
IsNext bytes (Whole size) = (size ≤ length bytes) × ((f : Frame) × AreFrame f (take size bytes))
IsNext bytes (Bad at) = IsBadByte bytes at
IsNext bytes Cut = HasBegun bytes
