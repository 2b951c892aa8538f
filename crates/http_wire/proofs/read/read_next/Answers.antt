use Rattle.std.proofs.Common.{◌++◌, List, ℕ, subst}
use Rattle.http_wire.specs.Wires.{IsWire, given}
use Rattle.http_wire.proofs.read.read_next.Goals as goal

pub returns-clause-wire : goal.returns-clause-wire
returns-clause-wire g c tells =
    subst (λ (input : List ℕ). IsWire input (c.read_rest.new.bytes.items ++ g.S.Source.source.ahead c.read_rest.new.source) (given c.read_rest.result))
    (c.in_ok-head.ensures.input tells) (c.read_rest.ensures.wire (c.in_ok-head.ensures.told tells))
