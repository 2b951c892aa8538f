use Rattle.world_laws.proofs.WrongWorlds as laws
use Rattle.world_laws.proofs.wrong_servers.Goals as goal

pub returns-clause-forgets : goal.returns-clause-forgets
returns-clause-forgets c = laws.forgets

pub returns-clause-nothing : goal.returns-clause-nothing
returns-clause-nothing c = laws.keeps_none

pub returns-clause-doubt : goal.returns-clause-doubt
returns-clause-doubt c = laws.doubts

pub returns-clause-repeat : goal.returns-clause-repeat
returns-clause-repeat c = laws.repeats

pub returns-clause-claim : goal.returns-clause-claim
returns-clause-claim c = laws.no_tick

pub returns-clause-receipt : goal.returns-clause-receipt
returns-clause-receipt c = laws.any_receipt

pub returns-clause-invented : goal.returns-clause-invented
returns-clause-invented c = laws.invents

pub returns-clause-twice : goal.returns-clause-twice
returns-clause-twice c = laws.twice

pub returns-clause-moment : goal.returns-clause-moment
returns-clause-moment c = laws.ahead

pub returns-clause-refused : goal.returns-clause-refused
returns-clause-refused c = laws.refused

pub returns-clause-answer : goal.returns-clause-answer
returns-clause-answer c = laws.answers_first

pub returns-clause-reply : goal.returns-clause-reply
returns-clause-reply c = laws.anew

pub returns-clause-old : goal.returns-clause-old
returns-clause-old c = laws.from_before

pub returns-clause-early : goal.returns-clause-early
returns-clause-early c = laws.early
