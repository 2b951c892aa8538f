use Rattle.std.proofs.Common.{◌≡◌, ◌+◌, ◌-◌, drop, sym, ◌∙◌, ap, arith, ℕ}
use Rattle.news_journal.specs.Damage.{misfit, header_damage}
use Rattle.news_journal.proofs.Headings.{begun, missing, stops, goes_on, none_left}
use Rattle.news_journal.proofs.heading.damage_of_header.Goals as goal

pub loop-place-init : goal.loop-place-init
loop-place-init c = begun _ c.args.bytes.now c.byte_at-kind.ensures

pub returns-then-place-bytes : goal.returns-then-place-bytes
returns-then-place-bytes c =
    let left : header_damage c.args.bytes.now ≡ misfit c.byte_at-kind.result c.loop-place.place c.loop-place.before (64 - c.loop-place.place) (drop c.loop-place.place c.args.bytes.now) = c.loop-place.invariant in
    sym (left ∙ missing _ _ _ _ c.args.bytes.now (omega arith) c.if-place-bytes.true)

pub returns-then-not-is_in_form : goal.returns-then-not-is_in_form
returns-then-not-is_in_form c =
    let left : header_damage c.args.bytes.now ≡ misfit c.byte_at-kind.result c.loop-place.place c.loop-place.before (64 - c.loop-place.place) (drop c.loop-place.place c.args.bytes.now) = c.loop-place.invariant in
    sym (left ∙ stops _ _ _ _ c.args.bytes.now (omega arith) c.if-place-bytes.false (sym c.is_in_form.ensures ∙ c.if-not-is_in_form.true))

pub loop-place-preserved : goal.loop-place-preserved
loop-place-preserved c =
    let left : header_damage c.args.bytes.now ≡ misfit c.byte_at-kind.result c.loop-place.place c.loop-place.before (64 - c.loop-place.place) (drop c.loop-place.place c.args.bytes.now) = c.loop-place.invariant in
    left ∙ goes_on _ _ _ _ (64 - (c.loop-place.place + 1)) c.args.bytes.now (omega arith) c.if-place-bytes.false (sym c.is_in_form.ensures ∙ c.if-not-is_in_form.false)

pub returns : goal.returns
returns c =
    let left : header_damage c.args.bytes.now ≡ misfit c.byte_at-kind.result c.loop-place.place c.loop-place.before (64 - c.loop-place.place) (drop c.loop-place.place c.args.bytes.now) = c.loop-place.invariant in
    let over : 64 - c.loop-place.place ≡ 0 = omega arith in
    sym (left ∙ ap (λ (n : ℕ). misfit c.byte_at-kind.result c.loop-place.place c.loop-place.before n (drop c.loop-place.place c.args.bytes.now)) over ∙ none_left _ _ _ _)
