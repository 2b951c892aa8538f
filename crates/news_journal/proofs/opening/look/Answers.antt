use Rattle.std.proofs.Common.{◌≡◌, ◌<◌, ◌+◌, inl, inr, ℕ, length, Option, slice_get, ◌∙◌, ap, arith, rules}
use Rattle.std.specs.Int.{w32, from_be_bytes}
use Rattle.news_journal.specs.Log.{Broken}
use Rattle.news_journal.proofs.Looks.{nothing, cut, far, record_head, length_field}
use Rattle.news_journal.proofs.opening.look.Goals as goal

pub returns-then-is_empty-clause-looks : goal.returns-then-is_empty-clause-looks
returns-then-is_empty-clause-looks c = λ bytes is n.
    let none : length c.args.head.now ≡ 0 = search rules in
    nothing n c.args.gate c.args.head.now bytes none is

pub returns-then-head-lt5-clause-looks : goal.returns-then-head-lt5-clause-looks
returns-then-head-lt5-clause-looks c = λ bytes is n.
    let some : 0 < length c.args.head.now = search rules in
    let found : slice_get c.args.head.now 1 ≡ c.copied.result = search rules in
    cut n c.args.gate c.args.head.now bytes some (omega arith) (search rules) is ∙ ap (λ (f : Option ℕ). Broken (c.args.gate + 1) f) found

pub returns-then-length-gt-MOST-clause-looks : goal.returns-then-length-gt-MOST-clause-looks
returns-then-length-gt-MOST-clause-looks c = λ bytes is n.
    let whole : length c.args.head.now ≡ 5 = omega arith in
    let size : c.from_be_bytes-length.result ≡ from_be_bytes w32 (length_field c.args.head.now) = c.from_be_bytes-length.ensures in
    far n c.args.gate c.args.head.now bytes whole (search rules) (inl (omega (arith, size))) is

pub returns-then-gate-length-ge-END-clause-looks : goal.returns-then-gate-length-ge-END-clause-looks
returns-then-gate-length-ge-END-clause-looks c = λ bytes is n.
    let whole : length c.args.head.now ≡ 5 = omega arith in
    let size : c.from_be_bytes-length.result ≡ from_be_bytes w32 (length_field c.args.head.now) = c.from_be_bytes-length.ensures in
    far n c.args.gate c.args.head.now bytes whole (search rules) (inr (omega (arith, size))) is

pub returns-clause-looks : goal.returns-clause-looks
returns-clause-looks c =
    let whole : length c.args.head.now ≡ 5 = omega arith in
    (record_head c.args.head.now _ whole (search rules) (λ i. search (rules, c.type_inv.head i)) c.from_be_bytes-length.ensures, omega arith, omega arith)
