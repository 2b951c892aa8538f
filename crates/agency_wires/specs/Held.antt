-- What a reader stands for.
use Rattle.agency_wires.specs.declared.reader.Reader.TheInside.{Inside}
use Rattle.agency_wires.specs.Gives.{Pending}
use Rattle.agency_wires.specs.State.{IsOpen}

abbrev pub pending : Inside → Pending
pending r = record {
  ready = r.state.ready.items;
  at = r.state.at;
  phase = r.state.phase;
  held = r.state.held.items;
  ended = r.ended;
}

-- what has come of a message leads to its phase
pub record IsReading (r : Inside) : Type 0 where
  pub state : IsOpen r.state.at r.state.phase r.state.held.items
