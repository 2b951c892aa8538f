-- A run over the lines of an input, by a room and a clock.
use Rattle.std.specs.Prelude.{ℕ}
use Rattle.news_types.specs.Books.{Book}
use Rattle.input_lines.specs.Lines.{ended, lines}
use Rattle.news_room.specs.declared.room.Room.{Room}
use Rattle.room_runs.specs.Lines.{LONGEST_LINE, of_line}
use Rattle.room_runs.specs.Desk.{line_hand}
use Rattle.room_runs.specs.Members.{MembersAnswered}
use Rattle.news_io.specs.Keeper.{KeeperMeaning}
use Rattle.news_io.specs.Clock.{ClockMeaning}
use Rattle.news_io.specs.Source.{SourceMeaning}
use Rattle.news_io.specs.Sink.{SinkMeaning}

-- the lines of the input were answered from the list on, as far as the status tells, and a crash leaves a list between
abbrev pub InputAnswered : {K C S O : Type 0} → KeeperMeaning K → ClockMeaning C → SourceMeaning S → SinkMeaning O → Room K → Room K → C → C → S → S → O → O → Book → ℕ → ℕ → Type 0
InputAnswered keeper clock source sink = MembersAnswered keeper clock source sink line_hand of_line (ended LONGEST_LINE) (lines LONGEST_LINE)
