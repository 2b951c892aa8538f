use Rattle.std.proofs.Common.{◌<◌, length, arith}
use Rattle.run_status.proofs.Tellings.{told_of}
use Rattle.run_status.proofs.telling.write_line.Goals as goal

pub returns : goal.returns
returns g c =
    let some : 0 < length c.args.line.now = omega arith in
    told_of _ _ _ _ c.write_through.result some (λ t. c.write_through.ensures.ok t) (λ t. c.write_through.ensures.passed t) c.write_through.ensures.err c.write_through.ensures.told c.write_through.ensures.count
