use Rattle.world_laws.proofs.WrongWorlds as laws
use Rattle.world_laws.proofs.wrong_feeds.Goals as goal

pub returns-clause-order : goal.returns-clause-order
returns-clause-order c = laws.by_number

pub returns-clause-kill : goal.returns-clause-kill
returns-clause-kill c = laws.permitted_now

pub returns-clause-waiting : goal.returns-clause-waiting
returns-clause-waiting c = laws.despite
