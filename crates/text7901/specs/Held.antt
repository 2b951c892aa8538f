-- What a reader stands for.
use Rattle.text7901.specs.declared.reader.Reader.TheInside.{Inside}
use Rattle.std.specs.Prelude.{All}
use Rattle.text7901.specs.Gives.{Pending}
use Rattle.text7901.specs.Limits.{FitsFound}
use Rattle.text7901.specs.State.{IsOpen}

abbrev pub pending : Inside → Pending
pending r = record {
  ready = r.state.ready.items;
  at = r.state.at;
  phase = r.state.phase;
  held = r.state.held.items;
  ended = r.ended;
}

-- what has come of a message leads to its phase, and what is ready is within the limits
pub record IsReading (r : Inside) : Type 0 where
  pub state : IsOpen r.state.at r.state.phase r.state.held.items
  pub ready : All FitsFound r.state.ready.items
