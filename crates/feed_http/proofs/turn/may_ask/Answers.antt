use Rattle.std.specs.Prelude.{◌≡◌, []}
use Rattle.std.proofs.Common.{subst}
use Rattle.std.proofs.lemmas.Result.{err_from_is_err_and}
use Rattle.news_types.specs.Frames.{frame_bytes_at}
use Rattle.feed_frames.specs.Writer.{the_writer}
use Rattle.desk_routes.specs.Rights.{right_of, may_ask}
use Rattle.feed_http.proofs.Callers.{asked_right}
use Rattle.feed_http.proofs.turn.may_ask.Goals as goal

pub returns-in-Known : goal.returns-in-Known
returns-in-Known g c b stands = subst (λ r. c.in-Known.allowed ≡ may_ask b.list c.args.asking.now.caller r) c.right_of.ensures (c.in-Known.ensures (λ s k. []) b.list)

pub ask-requires : goal.ask-requires
ask-requires g c = record { stands = c.requires }

pub returns-in_err-ask-in-Asks : goal.returns-in_err-ask-in-Asks
returns-in_err-ask-in-Asks g c b stands =
    let p = err_from_is_err_and c.from_residual.result c.from_residual.ensures.1 in
    rw p.1 tt

pub returns-in_ok-ask-in-Asks : goal.returns-in_ok-ask-in-Asks
returns-in_ok-ask-in-Asks g c b stands =
    asked_right b.list c.args.asking.now.caller c.right_of.result (right_of c.args.asking.now.ask) (frame_bytes_at (the_writer b.store) b.list) c.in-Asks.question _ _ c.allows.ensures (c.in_ok-ask-in-Asks.ensures.answer b stands) c.in-Asks.ensures c.right_of.ensures
