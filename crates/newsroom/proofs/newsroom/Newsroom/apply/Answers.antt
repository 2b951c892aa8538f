use Rattle.std.proofs.Common.{refl, sym, subst, arith}
use Rattle.news_types.specs.declared.entry.Act.TheVariants.{Advance, Attempt, Receipt, Halt}
use Rattle.news_types.specs.History.{last}
use Rattle.news_types.specs.Outcome.{last_reply}
use Rattle.rule_tables.specs.Keeps.{KeepsRules}
use Rattle.desk_records.specs.Dues.{KeepsDues}
use Rattle.desk_records.specs.Wires.{KeepsWires}
use Rattle.newsroom.specs.Callers.{Remembers}
use Rattle.newsroom.proofs.SmallActs.{small_kept, receipt_known}
use Rattle.newsroom.proofs.newsroom.Newsroom.apply.Goals as goal

pub returns-in-Advance-clause-stands : goal.returns-in-Advance-clause-stands
returns-in-Advance-clause-stands c h stands legal =
    rw c.in-Advance.is (small_kept c.args.self.now _ h c.args.moment stands refl refl stands.callers stands.rules stands.dues stands.wires Advance tt (rw c.in-Advance.is at legal) stands.stop (c.advance.ensures h Advance stands.stories legal.1 tt))

pub returns-in-Attempt-clause-stands : goal.returns-in-Attempt-clause-stands
returns-in-Attempt-clause-stands c h stands legal =
    let s = c.in-Attempt.subscriber in
    let k = c.in-Attempt.k in
    let lawful = rw c.in-Attempt.is at legal in
    rw c.in-Attempt.is (small_kept c.args.self.now _ h c.args.moment stands refl refl stands.callers stands.rules stands.dues stands.wires (Attempt s k) tt lawful stands.stop (c.attempt.ensures h k stands.stories lawful.1 lawful.2.0))

pub returns-in-Receipt-clause-stands : goal.returns-in-Receipt-clause-stands
returns-in-Receipt-clause-stands c h stands legal =
    let s = c.in-Receipt.subscriber in
    let n = c.in-Receipt.n in
    let lawful = rw c.in-Receipt.is at legal in
    rw c.in-Receipt.is (small_kept c.args.self.now _ h c.args.moment stands refl refl stands.callers stands.rules stands.dues stands.wires (Receipt s n) tt lawful stands.stop
    (c.receipt.ensures h stands.stories lawful.1 lawful.2.0 (receipt_known h s n lawful.2.0 lawful.2.1)))

pub returns-in-Halt-clause-stands : goal.returns-in-Halt-clause-stands
returns-in-Halt-clause-stands c h stands legal =
    let lawful = rw c.in-Halt.is at legal in
    rw c.in-Halt.is (small_kept c.args.self.now c.halt.new.self h c.args.moment stands c.halt.ensures.entries c.halt.ensures.at
    (subst (λ t. Remembers t (last h) (last_reply h)) (sym c.halt.ensures.callers) stands.callers)
    (subst (λ r. KeepsRules r h) (sym c.halt.ensures.rules) stands.rules)
    (subst (λ d. KeepsDues d h) (sym c.halt.ensures.dues) stands.dues)
    (subst (λ w. KeepsWires w h) (sym c.halt.ensures.wires) stands.wires)
    Halt tt lawful (omega (arith, c.halt.ensures.stop, stands.entries)) (c.halt.ensures.stories h stands.stories lawful.1))
