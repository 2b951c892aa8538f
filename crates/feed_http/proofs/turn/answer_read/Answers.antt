use Rattle.std.proofs.Common.{[], Ok, Err, subst}
use Rattle.std.specs.Prelude.{Result, IfOk}
use Rattle.desk_routes.specs.declared.ask.RoomAsk.{RoomAsk}
use Rattle.desk_routes.specs.declared.ask.RoomAsk.TheVariants.{By, Metrics}
use Rattle.desk_routes.specs.declared.ask.Refusal.{Refusal}
use Rattle.desk_routes.specs.Asking.{FitsRoomAsk}
use Rattle.desk_routes.specs.Responses.{refusal_response}
use Rattle.feed_http.proofs.Requests.{asked_turn, metrics_turn, refused_turn, read_is}
use Rattle.feed_http.proofs.turn.answer_read.Goals as goal

pub answer_asking-requires-clause-stands : goal.answer_asking-requires-clause-stands
answer_asking-requires-clause-stands g c = c.requires.stands

pub answer_asking-requires-clause-fits : goal.answer_asking-requires-clause-fits
answer_asking-requires-clause-fits g c = subst (λ (x : Result RoomAsk Refusal). IfOk x FitsRoomAsk) (rw c.in-Ok-By.field-0-is at c.in-Ok-By.is) c.requires.fits

pub answer_metrics-requires : goal.answer_metrics-requires
answer_metrics-requires g c = c.requires.stands

pub returns-in-Ok-By : goal.returns-in-Ok-By
returns-in-Ok-By g c =
    let r = c.answer_asking.ensures in
    read_is g.K.Keeper.keeper c.args.room.now c.answer_asking.new.room c.args.read (Ok (By c.in-Ok-By.asking)) c.args.now c.args.counts.now c.answer_asking.result (rw c.in-Ok-By.field-0-is at c.in-Ok-By.is)
    (r.0, λ b stands. asked_turn g.K.Keeper.keeper c.args.room.now c.answer_asking.new.room b r.0 c.in-Ok-By.asking c.args.now c.args.counts.now c.answer_asking.result (r.1 b stands))

pub returns-in-Ok-Metrics : goal.returns-in-Ok-Metrics
returns-in-Ok-Metrics g c =
    read_is g.K.Keeper.keeper c.args.room.now c.args.room.now c.args.read (Ok Metrics) c.args.now c.args.counts.now c.answer_metrics.result (rw c.in-Ok-Metrics.field-0-is at c.in-Ok-Metrics.is)
    ([], λ b stands. metrics_turn g.K.Keeper.keeper c.args.room.now b c.args.now c.args.counts.now c.answer_metrics.result stands (c.answer_metrics.ensures b stands))

pub returns-in-Err : goal.returns-in-Err
returns-in-Err g c =
    read_is g.K.Keeper.keeper c.args.room.now c.args.room.now c.args.read (Err c.in-Err.refusal) c.args.now c.args.counts.now c.or_no_memory.result c.in-Err.is
    ([], λ b stands. refused_turn g.K.Keeper.keeper c.args.room.now b c.in-Err.refusal c.args.now c.args.counts.now c.or_no_memory.result stands (c.or_no_memory.ensures (refusal_response c.in-Err.refusal) c.refuse.ensures))
