use Rattle.std.proofs.Common.{refl}
use Rattle.text7901.specs.State.{closing}
use Rattle.text7901.proofs.Ahead.{last_in}
use Rattle.text7901.proofs.state.State.end.Goals as goal

pub returns-clause-members : goal.returns-clause-members
returns-clause-members c =
    let s = c.args.self.now in
    last_in s.at s.phase c.in-Some.phase s.held.items c.as_slice-message.result.now c.at_end.result s.ready.items c.put_member.new.made.items (closing s.at c.as_slice-message.result.now c.at_end.result) c.in-Some.is c.requires.state c.as_slice-message.ensures.value c.at_end.ensures refl c.in_ok-put_member.ensures.members
