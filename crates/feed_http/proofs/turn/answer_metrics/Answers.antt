use Rattle.std.proofs.Common.{ℕ}
use Rattle.news_types.specs.Books.{Book}
use Rattle.server_metrics.specs.Metrics.{metrics}
use Rattle.desk_routes.specs.declared.response.Response.{Response}
use Rattle.desk_routes.specs.Responses.{metrics_response}
use Rattle.feed_http.proofs.Requests.{told_at}
use Rattle.feed_http.proofs.turn.answer_metrics.Goals as goal

pub respond_metrics-requires : goal.respond_metrics-requires
respond_metrics-requires g c = c.requires

pub returns : goal.returns
returns g c b stands =
    let keeper = g.K.Keeper.keeper in
    let tell : Book → Response = λ k. metrics_response (metrics k.list c.args.now (keeper.used c.args.room.now.keeper) c.args.counts.now) in
    c.or_no_memory.ensures (tell b) (told_at keeper c.args.room.now tell b c.respond_metrics.result stands c.respond_metrics.ensures)
