use Rattle.std.proofs.Common.{◌≡◌, ◌+◌, ◌≤◌, ◌∙◌, length, arith, subst}
use Rattle.agency_wires.specs.Machine.{EndsIn}
use Rattle.agency_wires.proofs.Ahead.{went_in, open_in, closed_in}
use Rattle.agency_wires.proofs.state.State.take_in.Goals as goal

pub returns-in_ok-extend_from_slice-in-Open-clause-state : goal.returns-in_ok-extend_from_slice-in-Open-clause-state
returns-in_ok-extend_from_slice-in-Open-clause-state c =
    let s = c.args.self.now in
    let size : c.len.result ≡ length s.held.items = omega (arith, s.held.ok, c.len.ensures) in
    let r = c.in-Open.ensures in
    let few : length s.held.items + length c.args.piece.now ≤ 1_048_576 = omega (arith, size, r.0) in
    open_in s.at s.phase c.in-Some.phase c.in-Open.phase s.held.items c.extend_from_slice.new.self.items c.args.piece.now c.in-Some.is c.requires.state c.in_ok-extend_from_slice-in-Open.ensures.items (few, r.1)

pub returns-in_ok-extend_from_slice-in-Open-clause-members : goal.returns-in_ok-extend_from_slice-in-Open-clause-members
returns-in_ok-extend_from_slice-in-Open-clause-members c = λ more.
    let s = c.args.self.now in
    went_in s.at s.phase c.in-Some.phase c.in-Open.phase s.held.items c.extend_from_slice.new.self.items c.args.piece.now more s.ready.items c.in-Some.is c.requires.state c.in_ok-extend_from_slice-in-Open.ensures.items

pub returns-in-Ok-clause-members : goal.returns-in-Ok-clause-members
returns-in-Ok-clause-members c = λ more.
    let s = c.args.self.now in
    let size : c.len.result ≡ length s.held.items = omega (arith, s.held.ok, c.len.ensures) in
    c.in-Ok.ensures.members more
    ∙ closed_in s.at c.in-Ended.len s.phase c.in-Some.phase s.held.items c.args.piece.now more c.in-Ended.end s.ready.items c.in-Some.is c.requires.state
    (subst (λ n. EndsIn c.in-Some.phase n c.args.piece.now c.in-Ended.len c.in-Ended.end) size c.in-Ended.ensures)
