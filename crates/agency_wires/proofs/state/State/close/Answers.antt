use Rattle.std.proofs.Common.{◌+◌, ◌∙◌, refl}
use Rattle.agency_wires.specs.State.{closing}
use Rattle.agency_wires.proofs.Ahead.{closes_on}
use Rattle.agency_wires.proofs.state.State.close.Goals as goal

pub returns-clause-members : goal.returns-clause-members
returns-clause-members c = λ more.
    let s = c.args.self.now in
    closes_on s.at c.args.len s.held.items c.as_slice.result.now c.split_at.result.0.now c.args.piece.now c.split_at.result.1.now more c.new-made.result.items c.put_member.new.made.items s.ready.items _ (closing (s.at + c.args.len) c.as_slice.result.now c.args.end) c.args.end
    (c.as_slice.ensures.value ∙ c.in_ok-extend_from_slice.ensures.items) c.split_at.ensures.front c.split_at.ensures.back refl c.new-made.ensures.items c.in_ok-put_member.ensures.members (c.in_ok-go_on.ensures.members more)
