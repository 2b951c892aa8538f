use Rattle.std.proofs.Common.{◌≡◌, sym, ap, ◌∙◌, arith, drop, get_or, ◌+◌, length-drop}
use Rattle.std.proofs.lemmas.List.{take_all}
use Rattle.std.specs.Prelude.{◌&&◌, true, false}
use Rattle.httparse.specs.Grammar.{is_token_byte}
use Rattle.http_wire.specs.Target.{in_method}
use Rattle.http_wire.proofs.Targets.{past_lf, at_other, at_end}
use Rattle.http_wire.proofs.target.scans_target.Goals as goal
use Rattle.http_wire.proofs.target.scans_target.Goals.{else-bytes-at-eq13-via-then-bytes-at-eq13+else-bytes-at-eq10-2, else-bytes-at-eq13-via-else-bytes-at-eq13}

pub loop-at-preserved-then-bytes-at-eq10 : goal.loop-at-preserved-then-bytes-at-eq10
loop-at-preserved-then-bytes-at-eq10 c =
    (past_lf c.args.bytes.now c.loop-at.at (omega (arith, c.loop-at-test.true)) c.if-bytes-at-eq10.true ∙ c.loop-at.invariant.0, omega (arith, c.loop-at-test.true))

pub returns-then-is_method_token : goal.returns-then-is_method_token
returns-then-is_method_token c =
    let crlf_not : get_or c.args.bytes.now c.loop-at.at 0 ≡ 13 → get_or c.args.bytes.now (c.loop-at.at + 1) 0 ≡ 10 → ⊥ =
    elim c.else-bytes-at-eq13.branch [
      | else-bytes-at-eq13-via-then-bytes-at-eq13+else-bytes-at-eq10-2 w ↦ λ a b. w.if-bytes-at-eq10-2.false b
      | else-bytes-at-eq13-via-else-bytes-at-eq13 w ↦ λ a b. w.if-bytes-at-eq13.false a
    ] in
    let whole = at_other c.args.bytes.now c.loop-at.at (omega (arith, c.loop-at-test.true)) c.if-bytes-at-eq10.false crlf_not in
    let token : is_token_byte (get_or c.args.bytes.now c.loop-at.at 0) ≡ true = sym c.is_method_token.ensures ∙ c.if-is_method_token.true in
    c.scans_method.ensures ∙ ap in_method (take_all _ (drop (c.loop-at.at + 1) c.args.bytes.now) (omega (arith, length-drop (c.loop-at.at + 1) c.args.bytes.now)))
    ∙ sym (ap (λ t. t && in_method (drop (c.loop-at.at + 1) c.args.bytes.now)) token) ∙ sym whole ∙ c.loop-at.invariant.0

pub returns-else-is_method_token : goal.returns-else-is_method_token
returns-else-is_method_token c =
    let crlf_not : get_or c.args.bytes.now c.loop-at.at 0 ≡ 13 → get_or c.args.bytes.now (c.loop-at.at + 1) 0 ≡ 10 → ⊥ =
    elim c.else-bytes-at-eq13.branch [
      | else-bytes-at-eq13-via-then-bytes-at-eq13+else-bytes-at-eq10-2 w ↦ λ a b. w.if-bytes-at-eq10-2.false b
      | else-bytes-at-eq13-via-else-bytes-at-eq13 w ↦ λ a b. w.if-bytes-at-eq13.false a
    ] in
    let whole = at_other c.args.bytes.now c.loop-at.at (omega (arith, c.loop-at-test.true)) c.if-bytes-at-eq10.false crlf_not in
    let token : is_token_byte (get_or c.args.bytes.now c.loop-at.at 0) ≡ false = sym c.is_method_token.ensures ∙ c.if-is_method_token.false in
    c.if-is_method_token.false ∙ sym (ap (λ t. t && in_method (drop (c.loop-at.at + 1) c.args.bytes.now)) token) ∙ sym whole ∙ c.loop-at.invariant.0

pub returns : goal.returns
returns c = sym (at_end c.args.bytes.now c.loop-at.at (omega (arith, c.loop-at-test.false))) ∙ c.loop-at.invariant.0
