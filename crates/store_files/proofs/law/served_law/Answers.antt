use Rattle.store_files.proofs.Serving.{served}
use Rattle.store_files.proofs.law.served_law.Goals as goal

pub returns : goal.returns
returns c = served
