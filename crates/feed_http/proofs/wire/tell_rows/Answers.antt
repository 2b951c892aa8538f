use Rattle.std.proofs.Common.{map}
use Rattle.feed_http.specs.Wires.{rows_response}
use Rattle.feed_http.proofs.wire.tell_rows.Goals as goal

pub returns : goal.returns
returns c = c.or_no_memory.ensures (rows_response 200 (map (λ row. row.items) c.args.rows.now)) c.respond_rows.ensures
