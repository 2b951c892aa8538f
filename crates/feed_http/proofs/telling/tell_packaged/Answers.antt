use Rattle.std.specs.Prelude.{true, false}
use Rattle.desk_routes.specs.Responses.{reply_response, denial_response}
use Rattle.feed_http.specs.Outcome.{no_readers_response}
use Rattle.feed_http.proofs.telling.tell_packaged.Goals as goal

pub returns-in-Done : goal.returns-in-Done
returns-in-Done c = rw c.in-Done.is (c.or_no_memory.ensures (reply_response c.in-Done.reply false) c.respond_reply.ensures)

pub returns-in-Repeat : goal.returns-in-Repeat
returns-in-Repeat c = rw c.in-Repeat.is (c.or_no_memory-in-Repeat.ensures (reply_response c.in-Repeat.reply true) c.respond_reply-in-Repeat.ensures)

pub returns-in-Denied : goal.returns-in-Denied
returns-in-Denied c = rw c.in-Denied.is (c.or_no_memory-in-Denied.ensures (denial_response c.in-Denied.denial) c.respond_denial.ensures)

pub returns-in-NoReaders : goal.returns-in-NoReaders
returns-in-NoReaders c = rw c.in-NoReaders.is (c.or_no_memory-in-NoReaders.ensures (no_readers_response c.in-NoReaders.front) c.respond_no_readers.ensures)
