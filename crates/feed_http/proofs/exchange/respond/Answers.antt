use Rattle.std.specs.Prelude.{List, ℕ}
use Rattle.std.proofs.Common.{subst}
use Rattle.http_wire.specs.Writing.{WroteSome, response}
use Rattle.feed_http.proofs.exchange.respond.Goals as goal

pub returns-in-Err-clause-wrote : goal.returns-in-Err-clause-wrote
returns-in-Err-clause-wrote g c told =
    let sink = g.O.Sink.sink in
    subst (λ (m : List ℕ). WroteSome sink c.args.sink.now c.write_response.new.sink (response c.args.response.now.status m c.args.response.now.body)) c.text.ensures
    (subst (λ (b : List ℕ). WroteSome sink c.args.sink.now c.write_response.new.sink (response c.args.response.now.status c.text.result.now b)) c.as_slice-body.ensures (c.in-Err.ensures.wrote told))
