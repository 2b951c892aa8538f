use Rattle.std.proofs.Common.{◌≡◌, ◌-◌, ◌+◌, ◌++◌, ℕ, take, length, min, ◌∙◌, ap, arith}
use Rattle.input_lines.proofs.Pieces.{room_for}
use Rattle.input_lines.proofs.extend_line.Goals as goal

pub returns-clause-kept : goal.returns-clause-kept
returns-clause-kept c =
    let len : c.len.result ≡ length c.args.line.now.items = omega arith in
    c.in_ok-extend_from_slice.ensures.items
    ∙ ap (λ (n : ℕ). c.args.line.now.items ++ take n c.args.bytes.now) (c.min-count.ensures ∙ ap (λ (n : ℕ). min (c.args.longest + 2 - n) (length c.args.bytes.now)) len)
    ∙ room_for (c.args.longest + 2) c.args.line.now.items c.args.bytes.now (omega arith)
