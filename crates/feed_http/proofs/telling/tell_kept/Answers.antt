use Rattle.std.specs.Prelude.{false}
use Rattle.desk_routes.specs.Responses.{reply_response, denial_response}
use Rattle.feed_http.proofs.telling.tell_kept.Goals as goal

pub returns-in-Done : goal.returns-in-Done
returns-in-Done c = rw c.in-Done.is (c.or_no_memory.ensures (reply_response c.in-Done.reply false) c.respond_reply.ensures)

pub returns-in-Denied : goal.returns-in-Denied
returns-in-Denied c = rw c.in-Denied.is (c.or_no_memory-in-Denied.ensures (denial_response c.in-Denied.denial) c.respond_denial.ensures)
