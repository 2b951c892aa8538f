use Rattle.desk_routes.specs.Responses.{answer_response}
use Rattle.feed_http.proofs.telling.tell_answer.Goals as goal

pub returns-in-Ok : goal.returns-in-Ok
returns-in-Ok c = rw c.in-Ok.is (c.or_no_memory.ensures (answer_response c.in-Ok.answer) c.respond_answer.ensures)
