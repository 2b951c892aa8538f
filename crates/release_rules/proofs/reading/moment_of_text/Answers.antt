use Rattle.std.proofs.Common.{◌≡◌, rules}
use Rattle.release_rules.specs.Reader.{moment_of}
use Rattle.release_rules.proofs.Readings.{reads_as}
use Rattle.release_rules.proofs.reading.moment_of_text.Goals as goal

pub returns-clause-exact : goal.returns-clause-exact
returns-clause-exact c =
    let value : c.moment_of_bytes.result ≡ moment_of c.args.text.now = search rules in
    reads_as c.args.text.now c.moment_of_bytes.result value
