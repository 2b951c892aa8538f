-- A run over the lines of an input, by a room that is only asked.
use Rattle.std.specs.Prelude.{◌≡◌, ◌⊎◌, ℕ, false}
use Rattle.news_types.specs.declared.entry.Entry.{Entry}
use Rattle.news_types.specs.Names.{Bytes}
use Rattle.news_types.specs.Books.{Book}
use Rattle.news_types.specs.History.{History}
use Rattle.news_io.specs.Keeper.{KeeperMeaning}
use Rattle.news_io.specs.Source.{SourceMeaning}
use Rattle.news_io.specs.Sink.{SinkMeaning}
use Rattle.input_lines.specs.Lines.{ended, lines}
use Rattle.line_run.specs.Life.{Life}
use Rattle.line_run.specs.Status.{IsRun}
use Rattle.news_room.specs.Stands.{Stands}
use Rattle.run_status.specs.declared.status.Status.{Status}
use Rattle.room_reports.specs.Written.{IsStopped}
use Rattle.room_runs.specs.Lines.{LONGEST_LINE, LONGEST_INPUT}
use Rattle.list_runs.specs.declared.past.PastDesk.{PastDesk}
use Rattle.list_runs.specs.Past.{of_past}

-- a list of a store, whatever the keeper has
abbrev pub untold : Bytes → History → Book
untold store h = record { store = store; told = false; list = h }

-- the room stands for the list
abbrev pub StandsAtPast : {K : Type 0} → KeeperMeaning K → PastDesk K → History → Type 0
StandsAtPast keeper d h = (store : Bytes) × Stands keeper d.room.now (untold store h)

-- nothing is kept: nothing is in doubt, and what a crash leaves is none of its concern; it has no clock
abbrev pub past_life : {K : Type 0} → KeeperMeaning K → Life Entry (Unit {0}) (PastDesk K)
past_life keeper = record {
  stands = StandsAtPast keeper;
  doubts = λ d e. ⊥;
  moment = λ d. 0;
  left_since = λ d t found. ⊥;
  opens = λ found h. Unit {0};
  tells = λ d. ⊥;
  ahead = λ d k. 0;
  leaves_now = λ d h found stands left. absurd left;
}

module _ {K S O : Type 0} (keeper : KeeperMeaning K) (source : SourceMeaning S) (sink : SinkMeaning O) (h : History) (i i' : S) (o o' : O) (status : ℕ) where
  -- the lines of the input were answered at the list, as far as the status tells
  pub record PastRun : Type 0 where
    pub old : PastDesk K
    pub new : PastDesk K
    pub run : IsRun of_past (past_life keeper) (λ d. 0) source sink (ended LONGEST_LINE) (lines LONGEST_LINE) LONGEST_INPUT i i' old new o o' h status

  -- there was no memory for the list, and nothing was read
  pub record PastStarved : Type 0 where
    pub input_same : i' ≡ i
    pub stopped : IsStopped sink Status.Memory o o' status

  abbrev pub PastAnswered : Type 0
  PastAnswered = PastRun ⊎ PastStarved
