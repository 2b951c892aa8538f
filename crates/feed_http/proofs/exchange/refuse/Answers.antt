use Rattle.std.proofs.Common.{refl, inr, subst}
use Rattle.http_wire.specs.Writing.{WroteSome}
use Rattle.desk_routes.specs.declared.response.Response.{Response}
use Rattle.feed_http.specs.Exchanges.{response_bytes}
use Rattle.feed_http.proofs.exchange.refuse.Goals as goal

pub returns-clause-refused : goal.returns-clause-refused
returns-clause-refused g c =
    inr (
      refl,
      record {
        rose = c.in-Err.ensures.count.failed;
        some = λ told. subst (λ (r : Response). WroteSome g.O.Sink.sink c.args.sink.now c.respond.new.sink (response_bytes r)) c.notify-response.ensures (c.in-Err.ensures.wrote told);
      },
    )
