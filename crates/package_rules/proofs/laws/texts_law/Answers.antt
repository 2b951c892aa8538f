use Rattle.package_rules.proofs.Texts.{read_again}
use Rattle.package_rules.proofs.laws.texts_law.Goals as goal

pub returns : goal.returns
returns c = read_again
