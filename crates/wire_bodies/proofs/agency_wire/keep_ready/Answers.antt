use Rattle.std.proofs.Common.{List, ◌++◌, map, ap, sym, ◌∙◌}
use Rattle.agency_wires.specs.Gives.{Pending}
use Rattle.wire_bodies.specs.declared.member.BodyMember.{BodyMember}
use Rattle.wire_bodies.specs.Bodies.{agency_member}
use Rattle.wire_bodies.proofs.Counted.{kept_next, fault_next, kept_last}
use Rattle.wire_bodies.proofs.agency_wire.keep_ready.Goals as goal

pub returns-in-Err-clause-fault : goal.returns-in-Err-clause-fault
returns-in-Err-clause-fault c = fault_next agency_member _ _ _ _ _ _ (ap (λ (r : Pending). r.ready) c.in-Some.ensures.found) c.loop-found.invariant.kept c.in-Err.ensures.fault

pub loop-found-preserved : goal.loop-found-preserved
loop-found-preserved c = record {
  kept =
      ap (λ (l : List BodyMember). l ++ map agency_member c.next.new.self.ready) c.in_default-keep_found.ensures.kept
      ∙ kept_next agency_member _ _ _ _ _ (ap (λ (r : Pending). r.ready) c.in-Some.ensures.found) c.loop-found.invariant.kept;
  few = c.in_default-keep_found.ensures.few;
  rest = sym (ap (λ (r : Pending). record r { ready = c.args.reader.now.ready }) c.in-Some.ensures.found) ∙ c.loop-found.invariant.rest;
}

pub returns-clause-kept : goal.returns-clause-kept
returns-clause-kept c = kept_last agency_member _ _ _ c.in_default.ensures.none c.loop-found.invariant.kept
