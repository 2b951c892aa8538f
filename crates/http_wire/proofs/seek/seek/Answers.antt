use Rattle.std.proofs.Common.{ℕ, List, ◌++◌, refl, subst, arith}
use Rattle.std.proofs.lemmas.Result.{err_from_is_err_and}
use Rattle.http_wire.specs.Wires.{IsWire, stop_wire}
use Rattle.http_wire.specs.Steps.{IsNoHead}
use Rattle.http_wire.proofs.Open.{begins_none}
use Rattle.http_wire.proofs.Stops.{no_head_wire, no_head_at_hand}
use Rattle.http_wire.proofs.seek.seek.Goals as goal

pub loop-head-init : goal.loop-head-init
loop-head-init g c = record { told = λ t. t; input = λ t. refl; within = omega arith; begun = begins_none; held = λ h. h; calm = refl }

pub returns-in_err-head-clause-wire : goal.returns-in_err-head-clause-wire
returns-in_err-head-clause-wire g c tells =
    let p = err_from_is_err_and c.from_residual.result c.from_residual.ensures.1 in
    let why = c.in_err-head.field-0.0 in
    let bytes = c.loop-head.bytes.items in
    let ahead = g.S.Source.source.ahead c.loop-head.source in
    let is = subst (λ (b : List ℕ). IsNoHead b why) c.deref.ensures.value c.in_err-head.ensures in
    rw (p.1, p.2) (subst (λ (input : List ℕ). IsWire input (bytes ++ ahead) (stop_wire why)) (c.loop-head.invariant.input tells) (no_head_wire bytes ahead why is))

pub returns-in_err-head-clause-at_hand : goal.returns-in_err-head-clause-at_hand
returns-in_err-head-clause-at_hand g c =
    let p = err_from_is_err_and c.from_residual.result c.from_residual.ensures.1 in
    let why = c.in_err-head.field-0.0 in
    let is = subst (λ (b : List ℕ). IsNoHead b why) c.deref.ensures.value c.in_err-head.ensures in
    rw (p.1, p.2) (no_head_at_hand c.loop-head.bytes.items why is)
