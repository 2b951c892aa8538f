use Rattle.std.proofs.Common.{refl}
use Rattle.news_types.specs.Answers.{query_answer}
use Rattle.desk_lines.specs.declared.asked.Asked.TheVariants as asked
use Rattle.desk_answers.specs.Answers.{answer_bytes}
use Rattle.news_types.specs.Books.{onto}
use Rattle.news_room.specs.Stands.{numbers}
use Rattle.room_runs.specs.Lines.{no_frames}
use Rattle.room_runs.specs.Desk.{book}
use Rattle.room_runs.proofs.Calls.{text_counts}
use Rattle.room_runs.proofs.Desks.{tick_given, question_means, ticked_step, tick_failed, tick_refused}
use Rattle.room_runs.proofs.desk.LineDesk.ask.Goals as goal

pub question_told-requires-clause-stands : goal.question_told-requires-clause-stands
question_told-requires-clause-stands g c =
    let s = c.requires.stands.0 in
    let b = book s c.requires.stands.1.0 in
    (onto c.tick.ensures.0 b, (c.tick.ensures.1 b c.requires.stands.1.1.room_stands).stands)

pub returns-in-Kept-clause-step : goal.returns-in-Kept-clause-step
returns-in-Kept-clause-step g c s h stands =
    let r = c.tick.ensures in
    let did = r.1 (book s h) stands.room_stands in
    ticked_step g.K.Keeper.keeper g.C.Clock.clock s c.args.self.now _ h c.now-now.result (asked.Query c.args.query.now) (λ l. answer_bytes (query_answer no_frames l c.args.query.now)) (question_means s.before h c.args.query.now c.now-now.result c.requires.asks) r.0 c.tick.result c.question_told.result c.in-Kept.is stands did.stands did.step did.told
    (record { same_provider = refl; same_room = refl; same = refl; told = c.now-now.ensures.told; gave = c.now-now.ensures.given }) (c.question_told.ensures (onto r.0 (book s h)) did.stands)

pub returns-in-Kept-clause-count : goal.returns-in-Kept-clause-count
returns-in-Kept-clause-count g c =
    let s = c.requires.stands.0 in
    let b = book s c.requires.stands.1.0 in
    let r = c.tick.ensures in
    let did = r.1 b c.requires.stands.1.1.room_stands in
    let given = tick_given (numbers g.K.Keeper.keeper c.args.self.now.room.now c.tick.new.self) b c.now-now.result r.0 c.tick.result c.in-Kept.is did.step in
    text_counts _ _ _ c.question_told.result given.0.whole.calm (c.question_told.ensures (onto r.0 b) did.stands)

pub returns-in-Fault-clause-step : goal.returns-in-Fault-clause-step
returns-in-Fault-clause-step g c s h stands =
    let r = rw c.in-Fault.is at c.tick.ensures in
    let did = r.1 (book s h) stands.room_stands in
    tick_failed g.K.Keeper.keeper g.C.Clock.clock s c.args.self.now _ h c.now-now.result (asked.Query c.args.query.now) (λ l. answer_bytes (query_answer no_frames l c.args.query.now)) (question_means s.before h c.args.query.now c.now-now.result c.requires.asks) r.0
    (record { stands = stands; room = did.stands; told = did.told; ticked = record { same_provider = refl; same_room = refl; same = refl; told = c.now-now.ensures.told; gave = c.now-now.ensures.given } }) did.step

pub returns-in-Fault-clause-count : goal.returns-in-Fault-clause-count
returns-in-Fault-clause-count g c =
    let r = rw c.in-Fault.is at c.tick.ensures in
    let did = r.1 (book c.requires.stands.0 c.requires.stands.1.0) c.requires.stands.1.1.room_stands in
    did.step.rose

pub returns-in-Full-clause-step : goal.returns-in-Full-clause-step
returns-in-Full-clause-step g c s h stands =
    let r = rw c.in-Full.is at c.tick.ensures in
    let did = r.1 (book s h) stands.room_stands in
    tick_refused g.K.Keeper.keeper g.C.Clock.clock s c.args.self.now _ h c.now-now.result (asked.Query c.args.query.now) (λ l. answer_bytes (query_answer no_frames l c.args.query.now)) (question_means s.before h c.args.query.now c.now-now.result c.requires.asks) r.0 c.in-Full.size c.in-Full.length
    (record { stands = stands; room = did.stands; told = did.told; ticked = record { same_provider = refl; same_room = refl; same = refl; told = c.now-now.ensures.told; gave = c.now-now.ensures.given } }) did.step

pub returns-in-Full-clause-count : goal.returns-in-Full-clause-count
returns-in-Full-clause-count g c =
    let r = rw c.in-Full.is at c.tick.ensures in
    let did = r.1 (book c.requires.stands.0 c.requires.stands.1.0) c.requires.stands.1.1.room_stands in
    did.step.calm
