use Rattle.std.proofs.Common.{◌∷◌, [], ap, sym, subst}
use Rattle.wire_bodies.specs.declared.member.BodyMember.{BodyMember}
use Rattle.wire_bodies.specs.Bodies.{item_member, IsBody}
use Rattle.wire_bodies.proofs.Said.{fault_member}
use Rattle.wire_bodies.proofs.item.read_item.Goals as goal

pub returns-in-Ok-clause-value : goal.returns-in-Ok-clause-value
returns-in-Ok-clause-value c =
    subst (λ (m : BodyMember). IsBody (m ∷ []) c.alone.result) (ap item_member (sym c.in-Ok.ensures.value)) c.alone.ensures.value

pub returns-in_ok-line-in-Err-clause-value : goal.returns-in_ok-line-in-Err-clause-value
returns-in_ok-line-in-Err-clause-value c =
    subst (λ (m : BodyMember). IsBody (m ∷ []) c.alone-in-Err.result) (fault_member _ _ _ c.in_ok-line-in-Err.ensures.memory c.in-Err.ensures.value c.in_ok-line-in-Err.ensures.line) c.alone-in-Err.ensures.value
