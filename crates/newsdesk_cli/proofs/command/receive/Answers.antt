use Rattle.std.proofs.Common.{refl}
use Rattle.newsdesk_cli.proofs.command.receive.Goals as goal

pub returns-clause-received : goal.returns-clause-received
returns-clause-received g c = c.receive_frames-status.ensures.received

pub returns-clause-side : goal.returns-clause-side
returns-clause-side g c = refl

pub returns-clause-serves : goal.returns-clause-serves
returns-clause-serves g c told frames gives = c.receive_frames-status.ensures.serves told frames gives
