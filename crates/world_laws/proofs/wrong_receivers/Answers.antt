use Rattle.world_laws.proofs.WrongWorlds as laws
use Rattle.world_laws.proofs.wrong_receivers.Goals as goal

pub returns-clause-skip : goal.returns-clause-skip
returns-clause-skip c = laws.skips

pub returns-clause-anyone : goal.returns-clause-anyone
returns-clause-anyone c = laws.anothers

pub returns-clause-doubt : goal.returns-clause-doubt
returns-clause-doubt c = laws.receiver_doubts

pub returns-clause-receipt : goal.returns-clause-receipt
returns-clause-receipt c = laws.receipts_first

pub returns-clause-forged : goal.returns-clause-forged
returns-clause-forged c = laws.forged
