use Rattle.program_events.proofs.Turns as turns
use Rattle.program_events.proofs.lines_are_events.Goals as goal

pub returns : goal.returns
returns c = turns.turns_are_events
