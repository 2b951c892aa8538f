use Rattle.std.proofs.Common.{◌≤◌, ◌*◌, ap, arith, length}
use Rattle.text7901.proofs.Sizes.{if_ok, behind_length}
use Rattle.text7901.proofs.fields.body_text.Goals as goal

pub returns-then-is_short-clause-size : goal.returns-then-is_short-clause-size
returns-then-is_short-clause-size c =
    let lines = c.args.lines.now in
    if_ok c.utf8_text.result (λ t. length t ≤ 2 * length c.split_around.result.1.now) (λ t. length t ≤ 2 * length lines)
    (λ t h. omega (arith, h, behind_length 10 lines, ap length c.split_around.ensures.back)) c.utf8_text.ensures.size
