use Rattle.std.proofs.Common.{◌≡◌, length, arith, ap, rules}
use Rattle.text7901.specs.Written.{written}
use Rattle.text7901.proofs.Messages.{written_most}
use Rattle.text7901.proofs.writing.write.Goals as goal

pub returns-clause-size : goal.returns-clause-size
returns-clause-size c fits =
    let p = c.args.publication.now in
    let value : c.of.result ≡ written p = search rules in
    omega (arith, ap length value, written_most p fits c.in_ok-put_head.ensures.number)
