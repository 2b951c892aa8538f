use Rattle.std.proofs.Common.{[], ◌++◌, ap, ◌∙◌}
use Rattle.agency_wires.specs.Gives.{Pending, gives}
use Rattle.wire_bodies.specs.Bodies.{agency_member}
use Rattle.wire_bodies.proofs.Counted.{kept_ready, fault_ready}
use Rattle.wire_bodies.proofs.agency_wire.keep_piece.Goals as goal

pub returns-in-Err-clause-fault : goal.returns-in-Err-clause-fault
returns-in-Err-clause-fault c = λ more.
    let fed = c.feed.new.self in
    fault_ready agency_member c.args.members.now.items fed.ready (gives (record fed { ready = [] }) more) _ _ (c.in_ok-feed.ensures.members more) c.in-Err.ensures.fault

pub returns-clause-kept : goal.returns-clause-kept
returns-clause-kept c = λ more.
    let fed = c.feed.new.self in
    kept_ready agency_member c.args.members.now.items _ fed.ready (gives c.keep_ready.new.reader more) _
    (ap (λ (r : Pending). fed.ready ++ gives r more) c.in_default.ensures.rest ∙ c.in_ok-feed.ensures.members more) c.in_default.ensures.kept
