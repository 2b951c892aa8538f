use Rattle.std.specs.Prelude.{◌≡◌, ◌<◌, ◌++◌, [], List, ℕ, length, Result, Ok}
use Rattle.std.proofs.Common.{refl, sym, ◌∙◌, subst, arith, inl, inr}
use Rattle.news_io.specs.Faults.{Counts}
use Rattle.news_io.specs.declared.faults.Failed.{Failed}
use Rattle.desk_routes.specs.declared.response.Notice.TheVariants as notice
use Rattle.feed_http.specs.declared.ended.Ended.TheVariants as ended
use Rattle.feed_http.specs.Exchanges.{exchange_of}
use Rattle.feed_http.specs.Served.{notice_bytes, Refuses}
use Rattle.feed_http.specs.Serving.{Running}
use Rattle.feed_http.proofs.Connections.{begins_none, wrote_tail, all_last, goes_on, ends_with, last_of, tried_last, ends_now, awaits, ends_refused}
use Rattle.feed_http.proofs.connection.serve.Goals as goal

calm_from : (before now : ℕ) (r : Result (Unit {0}) Failed) (u : Unit {0}) → Counts before now r → r ≡ Ok u → now ≡ before
calm_from before now r u counts is = let k : Counts before now (Ok u) = subst (λ (x : Result (Unit {0}) Failed). Counts before now x) is counts in k.calm

pub returns-in_default-clause-served : goal.returns-in_default-clause-served
returns-in_default-clause-served g c =
    let run = begins_none g.A.Answers.turn g.C.Clock.clock g.S.Source.source g.O.Sink.sink c.args.room.now c.args.clock.now c.args.source.now c.args.sink.now in
    ends_now g.A.Answers.turn g.C.Clock.clock g.S.Source.source g.O.Sink.sink c.args.source.now (g.S.Source.source.ahead c.args.source.now) c.args.sink.now [] ended.Memory run (λ h. refl) (inl (refl, refl))
    (λ h. wrote_tail g.O.Sink.sink c.args.sink.now c.args.sink.now [] (run.wrote h))

pub loop-count-init : goal.loop-count-init
loop-count-init g c =
    let none = rw c.in-Ok.is at c.new.ensures in
    record {
      running = subst (λ (l : List ℕ). Running g.A.Answers.turn g.C.Clock.clock g.S.Source.source g.O.Sink.sink c.args.room.now c.args.room.now c.args.clock.now c.args.clock.now c.args.source.now c.args.source.now l c.args.sink.now c.args.sink.now 0) (sym none)
          (begins_none g.A.Answers.turn g.C.Clock.clock g.S.Source.source g.O.Sink.sink c.args.room.now c.args.clock.now c.args.source.now c.args.sink.now);
      ready = c.requires;
      calm_in = refl;
      calm_out = refl;
    }

pub returns-in-Some-clause-served : goal.returns-in-Some-clause-served
returns-in-Some-clause-served g c =
    let run = c.loop-count.invariant.running in
    let turned = c.exchange-turned.ensures.turned in
    let few : c.loop-count.count < 64 = omega (arith, c.loop-count-test.true) in
    ends_with g.A.Answers.turn g.C.Clock.clock g.S.Source.source g.O.Sink.sink c.read_request.new.source c.read_request.new.buffer (ended.Stopped c.in-Some.place) run c.in-Request.ensures.wire turned
    (refl, exchange_of c.in-Request.request turned.answered.taken turned.answered.turns turned.answer, last_of g.A.Answers.turn g.C.Clock.clock g.S.Source.source g.O.Sink.sink run turned few, sym turned.stop ∙ c.in-Some.is)
    (λ h. tried_last g.A.Answers.turn g.C.Clock.clock g.S.Source.source g.O.Sink.sink run turned c.loop-count.invariant.calm_out c.exchange-turned.ensures.count h)

pub returns-in-Err-clause-served : goal.returns-in-Err-clause-served
returns-in-Err-clause-served g c =
    let run = c.loop-count.invariant.running in
    let turned = c.exchange-turned.ensures.turned in
    let few : c.loop-count.count < 64 = omega (arith, c.loop-count-test.true) in
    ends_with g.A.Answers.turn g.C.Clock.clock g.S.Source.source g.O.Sink.sink c.read_request.new.source c.read_request.new.buffer ended.WriteFault run c.in-Request.ensures.wire turned
    (inl (refl, exchange_of c.in-Request.request turned.answered.taken turned.answered.turns turned.answer, last_of g.A.Answers.turn g.C.Clock.clock g.S.Source.source g.O.Sink.sink run turned few, sym turned.stop ∙ c.in_default-stop.is))
    (λ h. tried_last g.A.Answers.turn g.C.Clock.clock g.S.Source.source g.O.Sink.sink run turned c.loop-count.invariant.calm_out c.exchange-turned.ensures.count h)

pub returns-then-turned-clause-served : goal.returns-then-turned-clause-served
returns-then-turned-clause-served g c =
    let run = c.loop-count.invariant.running in
    let turned = c.exchange-turned.ensures.turned in
    let few : c.loop-count.count < 64 = omega (arith, c.loop-count-test.true) in
    ends_with g.A.Answers.turn g.C.Clock.clock g.S.Source.source g.O.Sink.sink c.read_request.new.source c.read_request.new.buffer ended.Closed run c.in-Request.ensures.wire turned
    (refl, inr (exchange_of c.in-Request.request turned.answered.taken turned.answered.turns turned.answer, last_of g.A.Answers.turn g.C.Clock.clock g.S.Source.source g.O.Sink.sink run turned few, sym turned.close ∙ c.if-turned.true, sym turned.stop ∙ c.in_default-stop.is))
    (λ h. wrote_tail g.O.Sink.sink c.args.sink.now c.exchange-turned.new.sink _ (all_last g.A.Answers.turn g.C.Clock.clock g.S.Source.source g.O.Sink.sink c.in_default-wrote.field-0 run turned c.in_default-wrote.is h))

pub returns-in-HeadFault-clause-served : goal.returns-in-HeadFault-clause-served
returns-in-HeadFault-clause-served g c =
    let run = c.loop-count.invariant.running in
    let few : c.loop-count.count < 64 = omega (arith, c.loop-count-test.true) in
    let refuses : Refuses (g.S.Source.source.tells c.args.source.now) (c.loop-count.buffer ++ g.S.Source.source.ahead c.loop-count.source) run.exchanges notice.HeadFault (notice_bytes notice.HeadFault) =
    record { why = λ h. (c.in-HeadFault.ensures.wire (run.source_on h)).0; awaits = awaits g.A.Answers.turn g.C.Clock.clock g.S.Source.source g.O.Sink.sink run few; tail_is = refl } in
    ends_refused g.A.Answers.turn g.C.Clock.clock g.S.Source.source g.O.Sink.sink c.read_request.new.source c.refuse.new.sink notice.HeadFault ended.HeadFault c.refuse.result run refuses (refuses) c.loop-count.invariant.calm_out c.refuse.ensures.refused

pub returns-in-TooLarge-clause-served : goal.returns-in-TooLarge-clause-served
returns-in-TooLarge-clause-served g c =
    let run = c.loop-count.invariant.running in
    let few : c.loop-count.count < 64 = omega (arith, c.loop-count-test.true) in
    let refuses : Refuses (g.S.Source.source.tells c.args.source.now) (c.loop-count.buffer ++ g.S.Source.source.ahead c.loop-count.source) run.exchanges notice.TooLarge (notice_bytes notice.TooLarge) =
    record { why = λ h. (c.in-TooLarge.ensures.wire (run.source_on h)).0; awaits = awaits g.A.Answers.turn g.C.Clock.clock g.S.Source.source g.O.Sink.sink run few; tail_is = refl } in
    ends_refused g.A.Answers.turn g.C.Clock.clock g.S.Source.source g.O.Sink.sink c.read_request.new.source c.refuse-in-TooLarge.new.sink notice.TooLarge ended.TooLarge c.refuse-in-TooLarge.result run refuses (refuses) c.loop-count.invariant.calm_out c.refuse-in-TooLarge.ensures.refused

pub returns-in-Chunked-clause-served : goal.returns-in-Chunked-clause-served
returns-in-Chunked-clause-served g c =
    let run = c.loop-count.invariant.running in
    let few : c.loop-count.count < 64 = omega (arith, c.loop-count-test.true) in
    let refuses : Refuses (g.S.Source.source.tells c.args.source.now) (c.loop-count.buffer ++ g.S.Source.source.ahead c.loop-count.source) run.exchanges notice.Chunked (notice_bytes notice.Chunked) =
    record { why = λ h. (c.in-Chunked.ensures.wire (run.source_on h)).0; awaits = awaits g.A.Answers.turn g.C.Clock.clock g.S.Source.source g.O.Sink.sink run few; tail_is = refl } in
    ends_refused g.A.Answers.turn g.C.Clock.clock g.S.Source.source g.O.Sink.sink c.read_request.new.source c.refuse-in-Chunked.new.sink notice.Chunked ended.Chunked c.refuse-in-Chunked.result run refuses (refuses) c.loop-count.invariant.calm_out c.refuse-in-Chunked.ensures.refused

pub returns-in-Memory-clause-served : goal.returns-in-Memory-clause-served
returns-in-Memory-clause-served g c =
    let run = c.loop-count.invariant.running in
    let few : c.loop-count.count < 64 = omega (arith, c.loop-count-test.true) in
    let refuses : Refuses (g.S.Source.source.tells c.args.source.now) (c.loop-count.buffer ++ g.S.Source.source.ahead c.loop-count.source) run.exchanges notice.NoMemory (notice_bytes notice.NoMemory) =
    record { why = tt; awaits = awaits g.A.Answers.turn g.C.Clock.clock g.S.Source.source g.O.Sink.sink run few; tail_is = refl } in
    ends_refused g.A.Answers.turn g.C.Clock.clock g.S.Source.source g.O.Sink.sink c.read_request.new.source c.refuse-in-Memory.new.sink notice.NoMemory ended.Memory c.refuse-in-Memory.result run refuses (inr refuses) c.loop-count.invariant.calm_out c.refuse-in-Memory.ensures.refused

pub returns-in-ReadFault-clause-served : goal.returns-in-ReadFault-clause-served
returns-in-ReadFault-clause-served g c =
    let run = c.loop-count.invariant.running in
    let few : c.loop-count.count < 64 = omega (arith, c.loop-count-test.true) in
    ends_now g.A.Answers.turn g.C.Clock.clock g.S.Source.source g.O.Sink.sink c.read_request.new.source (c.loop-count.buffer ++ g.S.Source.source.ahead c.loop-count.source) c.loop-count.sink [] ended.ReadFault run (λ h. refl)
    (refl, awaits g.A.Answers.turn g.C.Clock.clock g.S.Source.source g.O.Sink.sink run few) (λ h. wrote_tail g.O.Sink.sink c.args.sink.now c.loop-count.sink _ (run.wrote h))

pub returns-clause-served : goal.returns-clause-served
returns-clause-served g c =
    let run = c.loop-count.invariant.running in
    let full : length run.exchanges ≡ 64 = omega (arith, run.many, c.loop-count-test.false, c.loop-count.auto.count-end) in
    ends_now g.A.Answers.turn g.C.Clock.clock g.S.Source.source g.O.Sink.sink c.loop-count.source (c.loop-count.buffer ++ g.S.Source.source.ahead c.loop-count.source) c.loop-count.sink [] ended.Limit run (λ h. refl)
    (refl, run.open_all, full) (λ h. wrote_tail g.O.Sink.sink c.args.sink.now c.loop-count.sink _ (run.wrote h))

pub loop-count-preserved : goal.loop-count-preserved
loop-count-preserved g c = record {
  running = goes_on g.A.Answers.turn g.C.Clock.clock g.S.Source.source g.O.Sink.sink c.in_default-wrote.field-0 c.loop-count.invariant.running c.in-Request.ensures.wire c.read_request.ensures.told c.exchange-turned.ensures.turned c.in_default-stop.is c.if-turned.false c.in_default-wrote.is;
  ready = c.exchange-turned.ensures.ready;
  calm_in = c.in-Request.ensures.count ∙ c.loop-count.invariant.calm_in;
  calm_out = calm_from _ _ _ _ c.exchange-turned.ensures.count c.in_default-wrote.is ∙ c.loop-count.invariant.calm_out;
}
