use Rattle.std.proofs.Common.{◌≡◌, ◌≤◌, ◌+◌, ◌++◌, map, length, All, false}
use Rattle.text7901.specs.Gives.{gives}
use Rattle.text7901.specs.Wire.{wire}
use Rattle.wire_bodies.specs.Bodies.{text_member, FitsMember}
use Rattle.wire_bodies.proofs.wire.read_wire.Given as goal

abbrev pub invariant-loop-rest : goal.invariant-loop-rest
invariant-loop-rest l = record {
  open_yet : l.reader.ended ≡ false;
  place : l.reader.at + length l.rest ≡ length l.fn.body;
  kept : l.members.items ++ map text_member (gives l.reader l.rest) ≡ map text_member (wire l.fn.body);
  few : length l.members.items ≤ 4096;
  fits : All FitsMember l.members.items;
}

abbrev pub decreases-loop-rest : goal.decreases-loop-rest
decreases-loop-rest l = length l.rest
