use Rattle.std.proofs.Common.{◌∙◌, ◌∷◌, List, Option, Bor, ℕ, ap, sym, subst, arith}
use Rattle.subscriber_import.specs.Reads.{parts_behind}
use Rattle.subscriber_import.proofs.Parts.{SoFar, one_part}
use Rattle.subscriber_import.proofs.wanted.read_parts.Goals as goal

pub parts-preserved : goal.parts-preserved
parts-preserved c =
    let part : List ℕ = c.first_part.result.0.now in
    let next : List ℕ = c.in-Some-behind.next.now in
    let parts = c.first_part.ensures.parts ∙ ap (λ (o : Option (Bor (List ℕ))). part ∷ parts_behind o) c.in-Some-behind.is in
    subst (λ (names : List (List ℕ)). SoFar c.args.field.now names next) (sym c.in_ok-push.ensures.items)
    (one_part c.args.field.now c.parts.names.items c.parts.rest.now part next c.in-Some.name c.parts.invariant parts c.in-Some.ensures
    (omega (arith, c.len.ensures, c.if-len-eq-MOST_PRODUCTS.false, c.parts.invariant.few)))
