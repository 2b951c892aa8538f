use Rattle.std.proofs.Common.{◌≡◌, ◌≤◌, ◌+◌, ◌++◌, map, length, false}
use Rattle.agency_wires.specs.Gives.{gives}
use Rattle.agency_wires.specs.Messages.{messages}
use Rattle.wire_bodies.specs.Bodies.{agency_member}
use Rattle.wire_bodies.proofs.agency_wire.read_agency_wire.Given as goal

abbrev pub invariant-loop-rest : goal.invariant-loop-rest
invariant-loop-rest l = record {
  open_yet : l.reader.ended ≡ false;
  place : l.reader.at + length l.rest ≡ length l.fn.body;
  kept : l.members.items ++ map agency_member (gives l.reader l.rest) ≡ map agency_member (messages l.fn.body);
  few : length l.members.items ≤ 4096;
}

abbrev pub decreases-loop-rest : goal.decreases-loop-rest
decreases-loop-rest l = length l.rest
