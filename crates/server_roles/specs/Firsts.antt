-- What the role that serves connections did.
use Rattle.std.specs.Prelude.{◌≡◌, ℕ, List, [], ◌++◌}
use Rattle.news_types.specs.declared.entry.Entry.{Entry}
use Rattle.news_types.specs.Books.{Book}
use Rattle.news_types.specs.Members.{Each}
use Rattle.news_io.specs.Clock.{ClockMeaning, Gave}
use Rattle.room_lock.specs.Going.{Went}
use Rattle.room_lock.specs.declared.view.Call.{Call}
use Rattle.shared_connections.specs.Connections.{answered_calls, answered_holds}
use Rattle.shared_workers.specs.Tallies.{gather}
use Rattle.server_doors.specs.Doors.{DoorMeaning}
use Rattle.server_roles.specs.Conns.{Conn, answered_in, readings_in, IsServed, PassedBy, EndsWith}
use Rattle.server_roles.specs.Halts.{Halted, halted_calls, halted_holds, halt_readings, LastKept}
use Rattle.server_roles.specs.declared.first.Ending.{Ending}

-- it halts only behind a door that failed, and the last of the halts is kept
abbrev pub HaltsFor : Ending → List Halted → Type 0
HaltsFor (Ending.Stopped place) halts = halts ≡ []
HaltsFor Ending.DoorFault halts = LastKept halts

-- Connections of the door, one after another, and behind them the halts. The readings are those of a clock whose kind tells them.
pub record First {G C : Type 0} (door : DoorMeaning G) (clock : ClockMeaning C) (stands : Book → Type 0) (old new : G) (c : C) (seen : List Entry) (calls : List Call) (seen' : List Entry) (calls' : List Call) (ending : Ending) : Type 0 where
  pub conns : List Conn
  pub halts : List Halted
  -- what it had seen and done behind the connections
  pub mid : List Entry
  pub mid_calls : List Call
  pub went : Went answered_calls answered_holds stands seen calls mid mid_calls (gather answered_in conns)
  pub halted : Went halted_calls halted_holds stands mid mid_calls seen' calls' halts
  pub served : Each (IsServed (door.tells old)) conns
  pub passed : door.tells old → PassedBy door old new conns
  pub ends : EndsWith ending conns
  pub halts_for : HaltsFor ending halts
  pub gave : ((k : C) → clock.tells k) → (later : ℕ → ℕ) × Gave (clock.ahead c) (gather readings_in conns ++ halt_readings halts) later
