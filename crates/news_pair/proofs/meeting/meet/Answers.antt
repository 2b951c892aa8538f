use Rattle.std.proofs.Common.{◌≡◌, ◌+◌, ◌-◌, ◌<◌, ◌∙◌, ℕ, [], false, Some, ap, sym, arith, length, get_or, take, drop, length-drop, get_or-drop}
use Rattle.std.proofs.lemmas.List.{nil_from_length, take_all}
use Rattle.news_types.specs.Names.{Bytes, same}
use Rattle.news_io.specs.declared.record.Record.{Record}
use Rattle.news_pair.specs.Damage.{on_log}
use Rattle.news_pair.specs.declared.fault.PairFault.TheVariants.{Damaged}
use Rattle.news_journal.specs.Opened.{payloads}
use Rattle.news_pair.proofs.Rows.{none_meets, apart_meets, meets_by, differs_at, differs_none, zero_from, some_from, is_other, alike_more, payload_at, length-payloads, same_bytes, not_other}
use Rattle.news_pair.proofs.meeting.meet.Goals as goal
use Rattle.news_pair.proofs.meeting.meet.Goals.{then-base-side-via-then-base-side, then-base-side-via-else-base-side+then-side-base}

pub loop-i-preserved : goal.loop-i-preserved
loop-i-preserved c =
    let k = c.loop-i.i - c.args.base in
    let p = payloads c.args.log.now in
    let g = payloads c.args.side.now in
    let next : c.loop-i.i + 1 - c.args.base ≡ k + 1 = omega arith in
    let place : c.args.base + k ≡ c.loop-i.i = omega arith in
    let in_log : k < length c.args.log.now = omega arith in
    let long : k < length p = omega (arith, length-payloads c.args.log.now, in_log) in
    let long_g : k < length (drop c.args.base g) = omega (arith, length-drop c.args.base g, length-payloads c.args.side.now) in
    let same = same_bytes _ _ (not_other _ (sym c.ne.ensures ∙ c.if-ne.false)) in
    let here : get_or p k [] ≡ get_or (drop c.args.base g) k [] =
    payload_at c.args.log.now k c.index-log-i.result in_log ∙ sym same ∙ sym (payload_at c.args.side.now c.loop-i.i c.index-side-i.result c.loop-i-test.true)
    ∙ sym (get_or-drop c.args.base g k [] ∙ ap (λ (n : ℕ). get_or g n []) place) in
    ap (λ (n : ℕ). take n p) next ∙ alike_more k p (drop c.args.base g) c.loop-i.invariant long long_g here ∙ ap (λ (n : ℕ). take n (drop c.args.base g)) (sym next)

pub returns-then-is_empty-clause-judged : goal.returns-then-is_empty-clause-judged
returns-then-is_empty-clause-judged c = none_meets c.args.base _ (payloads c.args.side.now) c.args.log.now (nil_from_length c.args.log.now (zero_from _ _ c.is_empty.ensures c.if-is_empty.true))

pub returns-then-base-side-clause-judged : goal.returns-then-base-side-clause-judged
returns-then-base-side-clause-judged c =
    let some = some_from _ _ c.is_empty.ensures c.if-is_empty.false in
    let size = length-payloads c.args.side.now in
    apart_meets c.args.base _ (payloads c.args.side.now) c.args.log.now some
    (λ a b. elim c.then-base-side.branch [
      | then-base-side-via-then-base-side w ↦ omega (arith, a, size, w.if-base-side.true)
      | then-base-side-via-else-base-side+then-side-base w ↦ omega (arith, b, size, w.if-side-base.true)
    ])

pub returns-then-ne-clause-judged : goal.returns-then-ne-clause-judged
returns-then-ne-clause-judged c =
    let base = c.args.base in
    let log = c.args.log.now in
    let k = c.loop-i.i - c.args.base in
    let p = payloads c.args.log.now in
    let g = payloads c.args.side.now in
    let size = length-payloads c.args.side.now in
    let r = c.index-log-i-then-ne.result in
    let place : c.args.base + k ≡ c.loop-i.i = omega arith in
    let in_log : k < length c.args.log.now = omega arith in
    let long_g : k < length (drop c.args.base g) = omega (arith, length-drop c.args.base g, size) in
    let side_is : get_or (drop c.args.base g) k [] ≡ (get_or c.args.side.now c.loop-i.i c.index-side-i.result).bytes =
    get_or-drop c.args.base g k [] ∙ ap (λ (n : ℕ). get_or g n []) place ∙ payload_at c.args.side.now c.loop-i.i c.index-side-i.result c.loop-i-test.true in
    let log_is : (get_or c.args.log.now k c.index-log-i.result).bytes ≡ r.bytes =
    sym (payload_at log k c.index-log-i.result in_log) ∙ payload_at log k r in_log ∙ ap (λ (x : Record). x.bytes) (sym c.index-log-i-then-ne.is) in
    let other : same (get_or (drop c.args.base g) k []) r.bytes ≡ false =
    ap (λ (x : Bytes). same x r.bytes) side_is ∙ ap (same (get_or c.args.side.now c.loop-i.i c.index-side-i.result).bytes) (sym log_is) ∙ is_other _ _ c.ne.ensures c.if-ne.true in
    meets_by base _ g log (omega (arith, size, c.if-base-side.false)) (omega (arith, size, c.if-side-base.false))
    ∙ ap on_log (differs_at (drop base g) log k r c.loop-i.invariant long_g in_log c.index-log-i-then-ne.is other)
    ∙ ap (λ (x : Record). Some (Damaged x.at (Some 1))) c.index-log-i-then-ne.is

pub returns-clause-judged : goal.returns-clause-judged
returns-clause-judged c =
    let base = c.args.base in
    let log = c.args.log.now in
    let g = payloads c.args.side.now in
    let size = length-payloads c.args.side.now in
    let k : c.loop-i.i - c.args.base ≡ length (drop c.args.base g) = omega (arith, size, length-drop c.args.base g) in
    let alike = ap (λ (n : ℕ). take n (payloads log)) (sym k) ∙ c.loop-i.invariant ∙ ap (λ (n : ℕ). take n (drop base g)) k ∙ take_all (length (drop base g)) (drop base g) (omega arith) in
    meets_by base _ g log (omega (arith, size, c.if-base-side.false)) (omega (arith, size, c.if-side-base.false)) ∙ ap on_log (differs_none (drop base g) log alike)
