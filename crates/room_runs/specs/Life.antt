-- How a desk stands for lists, and what a crash may leave of its list.
use Rattle.std.specs.Prelude.{◌≡◌, true, List, Option}
use Rattle.news_types.specs.declared.entry.Entry.{Entry}
use Rattle.news_types.specs.Names.{Bytes}
use Rattle.news_io.specs.Clock.{ClockMeaning}
use Rattle.news_io.specs.Keeper.{KeeperMeaning}
use Rattle.line_run.specs.Life.{Life}
use Rattle.news_room.specs.Log.{Opens}
use Rattle.news_room.specs.Stands.{in_doubt}
use Rattle.room_runs.specs.Desk.{Hand, Shelf, StandsAt, moment_of}
use Rattle.room_runs.specs.Leaving.{leaves_now}

-- the desks of a type, each with what it has at hand
abbrev pub life : {K C A : Type 0} → KeeperMeaning K → ClockMeaning C → (A → Hand K C) → Shelf → Life Entry (Option (List Bytes)) A
life keeper clock hand s = record {
  stands = λ d h. StandsAt keeper s (hand d) h;
  doubts = λ d e. (s.told ≡ true) × in_doubt keeper (hand d).room.now e;
  moment = λ d. moment_of s.told (keeper.moment (hand d).room.now.keeper);
  left_since = λ d t opened. (s.told ≡ true) × keeper.left_since (hand d).room.now.keeper t opened;
  opens = Opens;
  tells = λ d. clock.tells (hand d).clock.now;
  ahead = λ d. clock.ahead (hand d).clock.now;
  leaves_now = λ d h opened stands left. leaves_now keeper s (hand d) h opened stands left;
}
