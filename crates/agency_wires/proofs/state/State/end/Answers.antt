use Rattle.std.proofs.Common.{refl}
use Rattle.agency_wires.specs.State.{closing}
use Rattle.agency_wires.specs.declared.reach.End.TheVariants.{Whole}
use Rattle.agency_wires.proofs.Ahead.{last_in}
use Rattle.agency_wires.proofs.state.State.end.Goals as goal

pub returns-clause-members : goal.returns-clause-members
returns-clause-members c =
    let s = c.args.self.now in
    last_in s.at s.phase c.in-Some.field-0 s.held.items c.as_slice-message.result.now s.ready.items c.put_member.new.made.items (closing s.at c.as_slice-message.result.now Whole) c.in-Some.is c.requires.state c.as_slice-message.ensures.value refl c.in_ok-put_member.ensures.members
