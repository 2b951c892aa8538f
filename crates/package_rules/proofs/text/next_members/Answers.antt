use Rattle.std.proofs.Common.{◌≡◌, ◌≤◌, ◌<◌, ◌-◌, ℕ, List, [], ◌∷◌, ◌++◌, length, arith, sym, subst}
use Rattle.package_members.specs.declared.member.Member.{Member}
use Rattle.package_rules.proofs.Texts.{ReadSoFar, one_read, all_read, none_more, bad_line, fails_at}
use Rattle.package_rules.proofs.text.next_members.Goals as goal

pub returns-then-len-eq-MOST_MEMBERS : goal.returns-then-len-eq-MOST_MEMBERS
returns-then-len-eq-MOST_MEMBERS c =
    none_more c.lines.members.items c.lines.input c.args.input.now (omega (arith, c.left.ensures, c.lines-test.true)) (omega (arith, c.len.ensures, c.if-len-eq-MOST_MEMBERS.true)) c.lines.invariant

pub returns-in_default : goal.returns-in_default
returns-in_default c =
    let fault = fails_at c.in_default.field-0 _ c.in_default.ensures.calm c.in_default.ensures.gives in
    bad_line c.lines.members.items c.lines.input c.args.input.now fault.0 (omega (arith, c.left.ensures, c.lines-test.true))
    (omega (arith, c.len.ensures, c.if-len-eq-MOST_MEMBERS.false, c.lines.invariant.0)) fault.1 c.lines.invariant

pub lines-preserved : goal.lines-preserved
lines-preserved c =
    subst (λ (ms : List Member). ReadSoFar ms c.next_member.new.input c.args.input.now) (sym c.in_ok-push.ensures.items)
    (one_read c.lines.members.items c.lines.input c.args.input.now c.in-Ok.member c.next_member.new.input (omega (arith, c.left.ensures, c.lines-test.true))
    (omega (arith, c.len.ensures, c.if-len-eq-MOST_MEMBERS.false, c.lines.invariant.0)) c.in-Ok.ensures.gives c.lines.invariant)

pub returns : goal.returns
returns c = all_read c.lines.members.items c.lines.input c.args.input.now (omega (arith, c.left.ensures, c.lines-test.false)) c.lines.invariant
