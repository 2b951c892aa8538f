-- What a room answers, as the world has it.
use Rattle.std.specs.Prelude.{Bool, true, false, Result, Ok, Err}
use Rattle.news_types.specs.declared.query.Answer.{Answer as Told}
use Rattle.news_types.specs.Outcome.{Done, Repeat, Denied}
use Rattle.news_types.specs.Calls.{Answer, Replied, Kept, Still, Tells, Full, Fault, Memory}
use Rattle.news_room.specs.declared.answers.Handled.{Handled}
use Rattle.news_room.specs.declared.answers.Kept as kept
use Rattle.news_room.specs.declared.answers.Ticked.{Ticked}

-- to a request or an ingest
abbrev pub said : Handled → Answer
said (Handled.Done reply) = Replied (Done reply)
said (Handled.Repeat reply) = Replied (Repeat reply)
said (Handled.Denied denial) = Replied (Denied denial)
said Handled.Fault = Fault
said (Handled.Full size count) = Full
said Handled.Memory = Memory

-- to a receipt
abbrev pub said_kept : kept.Kept → Answer
said_kept (kept.Kept.Done reply) = Replied (Done reply)
said_kept (kept.Kept.Denied denial) = Replied (Denied denial)
said_kept kept.Kept.Fault = Fault
said_kept (kept.Kept.Full size count) = Full

-- to a tick or a halt
abbrev pub said_tick : Ticked → Answer
said_tick (Ticked.Kept place) = Kept place
said_tick Ticked.Still = Still
said_tick Ticked.Fault = Fault
said_tick (Ticked.Full size count) = Full

-- to a question, of which the one error is want of memory
abbrev pub said_told : {E : Type 0} → Result Told E → Answer
said_told (Ok told) = Tells told
said_told (Err why) = Memory

-- the keeper has failed
abbrev pub is_failure : Answer → Bool
is_failure Fault = true
is_failure _ = false
