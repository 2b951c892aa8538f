use Rattle.subscriber_import.proofs.Parts.{no_name}
use Rattle.subscriber_import.proofs.wanted.read_name.Goals as goal

pub returns-in-Err : goal.returns-in-Err
returns-in-Err c = no_name c.args.field.now c.in-Err.ensures.cases.0
