use Rattle.std.proofs.Common.{◌≡◌, ◌+◌, ℕ, List, length, map, ap, subst, ◌∙◌}
use Rattle.news_types.specs.declared.query.QueueRow.{QueueRow}
use Rattle.news_types.specs.Books.{Book, onto, followed_by}
use Rattle.publish_workers.specs.InMemory.{names_of}
use Rattle.drill_plan.specs.declared.planned.Planned.{Planned}
use Rattle.feed_drill.specs.Requests.{given, with_list}
use Rattle.news_io.specs.Clock.{ClockMeaning}
use Rattle.feed_drill.specs.Readings.{IsRead, IsReadAtMost}
use Rattle.feed_drill.specs.Delivery.{empty}
use Rattle.feed_drill.specs.Drill.{reading_of}
use Rattle.feed_drill.proofs.Readings.{on_err, read_for_all, read_for_none}
use Rattle.feed_drill.proofs.Drilled.{is_drill, reported}
use Rattle.feed_drill.proofs.drill.drill.Goals as goal

pub ask_all-requires : goal.ask_all-requires
ask_all-requires g c = let opened = c.in_ok-room.ensures in record { stands = (opened.0, opened.1) }

pub queue_of-requires : goal.queue_of-requires
queue_of-requires g c = let opened = c.in_ok-room.ensures in record { stands = (with_list (given opened.0.list c.in_ok-new.field-0) opened.0, c.in_ok-ask_all.ensures.given opened.0 opened.1) }

pub deliver-requires : goal.deliver-requires
deliver-requires g c = let opened = c.in_ok-room.ensures in record { stands = (with_list (given opened.0.list c.in_ok-new.field-0) opened.0, c.in_ok-ask_all.ensures.given opened.0 opened.1) }

pub queue_of-requires-2 : goal.queue_of-requires-2
queue_of-requires-2 g c =
    let opened = c.in_ok-room.ensures in
    let b : Book = with_list (given opened.0.list c.in_ok-new.field-0) opened.0 in
    let done = c.in_ok-deliver.ensures b (map empty (names_of c.in_ok-link.link)) (c.in_ok-ask_all.ensures.given opened.0 opened.1) c.in_ok-link.ensures.holds in
    record { stands = (onto done.more b, done.stands) }

pub returns-clause-report : goal.returns-clause-report
returns-clause-report g c =
    let opened = c.in_ok-room.ensures in
    let b : Book = with_list (given opened.0.list c.in_ok-new.field-0) opened.0 in
    let done = c.in_ok-deliver.ensures b (map empty (names_of c.in_ok-link.link)) (c.in_ok-ask_all.ensures.given opened.0 opened.1) c.in_ok-link.ensures.holds in
    let n = c.args.stories in
    let first = c.in_ok-new.ensures in
    let queued = c.in_ok-queue_of.ensures b (c.in_ok-ask_all.ensures.given opened.0 opened.1) in
    let named = c.in_ok-link.ensures.names ∙ ap (map (λ (row : QueueRow). row.subscriber)) c.as_slice-2.ensures in
    let at : 1100 + c.from.result ≡ reading_of n = ap (λ (r : ℕ). 1100 + r) c.from.ensures in
    let report = c.in_ok-report_text.ensures done.later done.holds in (
      followed_by done.more b.list,
      done.later,
      is_drill n c.args.seed opened.0 c.in_ok-new.field-0 c.in_ok-queue_of.field-0 c.deliver.new.room c.in_ok-link.link c.deliver.new.link (1100 + c.from.result) at opened.2 first queued named done,
      reported n c.args.seed opened.0 c.in_ok-new.field-0 c.in_ok-queue_of.field-0 c.deliver.new.room c.in_ok-link.link c.deliver.new.link (1100 + c.from.result) at opened.2 first queued named done
          c.front.result c.as_slice-3.result.now c.in_ok-report_text.field-0 (c.front.ensures (onto done.more b) done.stands) (c.as_slice-3.ensures ∙ c.in_ok-rows.ensures (onto done.more b) done.stands) report,
    )

-- the clock was read for all that was planned
read_planned : {C : Type 0} (clock : ClockMeaning C) (asked planned : List Planned) (old new : C) → asked ≡ planned → IsRead clock (length asked) old new → IsReadAtMost clock (length planned) old new
read_planned clock asked planned old new same read = subst (λ (l : List Planned). IsReadAtMost clock (length l) old new) same (read_for_all clock (length asked) old new read)

pub returns-clause-read : goal.returns-clause-read
returns-clause-read g c =
    subst (λ (l : List Planned). IsRead g.C.Clock.clock (length l) c.args.clock.now c.ask_all.new.clock) c.in_ok-new.ensures c.in_ok-ask_all.ensures.read

pub returns-in_err-room-clause-stopped : goal.returns-in_err-room-clause-stopped
returns-in_err-room-clause-stopped g c = on_err c.from_residual.result (read_for_none g.C.Clock.clock _ c.args.clock.now)

pub returns-in_err-new-clause-stopped : goal.returns-in_err-new-clause-stopped
returns-in_err-new-clause-stopped g c = on_err c.from_residual-in_err-new.result (read_for_none g.C.Clock.clock _ c.args.clock.now)

pub returns-in_err-ask_all-clause-stopped : goal.returns-in_err-ask_all-clause-stopped
returns-in_err-ask_all-clause-stopped g c =
    on_err c.from_residual-in_err-ask_all.result
    (subst (λ (planned : List Planned). IsReadAtMost g.C.Clock.clock (length planned) c.args.clock.now c.ask_all.new.clock) c.in_ok-new.ensures c.in_err-ask_all.ensures.stopped)

pub returns-in_err-queue_of-clause-stopped : goal.returns-in_err-queue_of-clause-stopped
returns-in_err-queue_of-clause-stopped g c =
    on_err c.from_residual-in_err-queue_of.result (read_planned g.C.Clock.clock _ _ c.args.clock.now c.ask_all.new.clock c.in_ok-new.ensures c.in_ok-ask_all.ensures.read)

pub returns-in_err-link-clause-stopped : goal.returns-in_err-link-clause-stopped
returns-in_err-link-clause-stopped g c =
    on_err c.from_residual-in_err-link.result (read_planned g.C.Clock.clock _ _ c.args.clock.now c.ask_all.new.clock c.in_ok-new.ensures c.in_ok-ask_all.ensures.read)

pub returns-in_err-deliver-clause-stopped : goal.returns-in_err-deliver-clause-stopped
returns-in_err-deliver-clause-stopped g c =
    on_err c.from_residual-in_err-deliver.result (read_planned g.C.Clock.clock _ _ c.args.clock.now c.ask_all.new.clock c.in_ok-new.ensures c.in_ok-ask_all.ensures.read)

pub returns-in_err-rows-clause-stopped : goal.returns-in_err-rows-clause-stopped
returns-in_err-rows-clause-stopped g c =
    on_err c.from_residual-in_err-rows.result (read_planned g.C.Clock.clock _ _ c.args.clock.now c.ask_all.new.clock c.in_ok-new.ensures c.in_ok-ask_all.ensures.read)

pub returns-in_err-report_text-clause-stopped : goal.returns-in_err-report_text-clause-stopped
returns-in_err-report_text-clause-stopped g c =
    on_err c.from_residual-in_err-report_text.result (read_planned g.C.Clock.clock _ _ c.args.clock.now c.ask_all.new.clock c.in_ok-new.ensures c.in_ok-ask_all.ensures.read)
