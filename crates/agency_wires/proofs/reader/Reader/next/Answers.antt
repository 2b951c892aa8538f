use Rattle.std.proofs.Common.{◌≡◌, [], subst, rules}
use Rattle.std.specs.Option.{IfNone}
use Rattle.agency_wires.specs.State.{IsOpen}
use Rattle.agency_wires.specs.Gives.{IsUndecided}
use Rattle.agency_wires.proofs.Undecided.{undecided, if_none}
use Rattle.agency_wires.proofs.reader.Reader.next.Goals as goal

pub returns-clause-undecided : goal.returns-clause-undecided
returns-clause-undecided c =
    let r = c.args.self.now in
    let none : IfNone c.pop_front.result (r.ready ≡ []) = search rules in
    let open_yet = subst (λ z. IsOpen z.at z.phase z.held) c.self.view_is c.self.invariant.state in
    if_none c.pop_front.result (r.ready ≡ []) (IsUndecided r) (λ e. undecided r e open_yet) none
