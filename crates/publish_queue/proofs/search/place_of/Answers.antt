use Rattle.publish_queue.proofs.ByName.{names_order}
use Rattle.publish_queue.proofs.Ascending.{places}
use Rattle.publish_queue.proofs.search.place_of.Goals as goal

pub returns-clause-place : goal.returns-clause-place
returns-clause-place c up = rw c.err.ensures.value (places names_order _ _ c.binary_search.result c.binary_search.ensures.bound c.binary_search.ensures.position up)
