use Rattle.publish_queue.proofs.ByName.{searched}
use Rattle.publish_queue.proofs.search.find.Goals as goal

pub returns-clause-found : goal.returns-clause-found
returns-clause-found c up = rw c.ok.ensures.value (searched _ _ _ c.binary_search.ensures.bound c.binary_search.ensures.position up)
