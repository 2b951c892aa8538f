use Rattle.std.proofs.Common.{◌≡◌, ◌∙◌, ap, arith, length}
use Rattle.record_lines.specs.Spelling.{kept_bytes}
use Rattle.room_standby.proofs.Standing.{count_is}
use Rattle.room_standby.proofs.standby.Standby.kept.Goals as goal

pub returns : goal.returns
returns g c = λ b h.
    let count : c.len.result ≡ length b.standby.list = omega (arith, c.len.ensures, count_is g.K.Keeper.keeper c.args.self.now b h) in
    c.kept_line.ensures ∙ ap kept_bytes count
