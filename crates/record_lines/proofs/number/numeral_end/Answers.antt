use Rattle.std.proofs.Common.{arith, take, drop, Some, None, ap, sym, ◌∙◌, ◌≡◌, ◌+◌, ◌<◌, ℕ, List, Ok, length, get_or, subst, Result}
use Rattle.std.proofs.lemmas.List.{take_more}
use Rattle.byte_formats.specs.Format.{◌>>=◌}
use Rattle.byte_formats.specs.Until.{numeral_step, numeral_at, value_after, before_last}
use Rattle.byte_formats.proofs.Runs.{until_goes_on, until_ends, until_refuses, until_too_short, front_of, value_more, IsValue}
use Rattle.record_lines.proofs.number.numeral_end.Goals as goal

abbrev numbered : Result (List ℕ × List ℕ) ℕ → Result (ℕ × List ℕ) ℕ
numbered r = r >>= λ x. Ok (value_after 0 (before_last x.0), x.1)

pub returns-in-End-clause-number : goal.returns-in-End-clause-number
unfolding numeral_at
returns-in-End-clause-number c =
    let bytes = c.args.bytes.now in
    let i = c.loop-i.i in
    let is = c.in-End.ensures in
    let read = until_ends (numeral_step c.args.stop c.args.least c.args.most) None bytes i c.loop-i.value c.loop-i-test.true is.0 c.loop-i.invariant.seen in
    let found : value_after 0 (before_last (take (i + 1) bytes)) ≡ c.in-End.value =
    ap (value_after 0) (front_of bytes i c.loop-i-test.true) ∙ subst (λ s. IsValue s (take i bytes)) is.1 c.loop-i.invariant.value in
    ap numbered read ∙ ap (λ (v : ℕ). Ok (v, drop (i + 1) bytes)) found

pub returns-in-Refused-clause-number : goal.returns-in-Refused-clause-number
unfolding numeral_at
returns-in-Refused-clause-number c =
    ap numbered (until_refuses (numeral_step c.args.stop c.args.least c.args.most) None c.args.bytes.now c.loop-i.i c.loop-i.value c.loop-i-test.true c.in-Refused.ensures c.loop-i.invariant.seen)

pub loop-i-preserved : goal.loop-i-preserved
loop-i-preserved c =
    let bytes = c.args.bytes.now in
    let i = c.loop-i.i in
    let long : i < length bytes = omega arith in
    record {
      seen = until_goes_on (numeral_step c.args.stop c.args.least c.args.most) None bytes i c.loop-i.value (Some c.in-On.next) long c.in-On.ensures c.loop-i.invariant.seen;
      value =
          subst (IsValue (Some c.in-On.next)) (sym (take_more bytes i 0 long))
          (value_more c.args.stop c.args.least c.args.most c.requires.stop c.requires.least c.requires.some (omega arith) c.loop-i.value (take i bytes) (get_or bytes i 0) c.in-On.next c.loop-i.invariant.value c.in-On.ensures);
    }

pub returns-clause-number : goal.returns-clause-number
unfolding numeral_at
returns-clause-number c = ap numbered (until_too_short (numeral_step c.args.stop c.args.least c.args.most) None c.args.bytes.now c.loop-i.i c.loop-i.value (omega arith) c.loop-i.invariant.seen)
