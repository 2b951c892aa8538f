use Rattle.std.proofs.Common.{ℕ, [], ◌∷◌, List, refl, sym, ap, subst}
use Rattle.room_lock.specs.Locks.{front, calls, start_of, base_of}
use Rattle.room_lock.specs.Passes.{found_by, left_by}
use Rattle.news_room.specs.Stands.{Stands}
use Rattle.news_room.specs.declared.claim.Claimed as claims
use Rattle.publish_workers.specs.declared.worked.Worked.{Worked}
use Rattle.publish_workers.specs.Links.{Reads}
use Rattle.publish_workers.specs.Turns.{Exchange, Receipted}
use Rattle.shared_workers.specs.declared.works.Step.{Step}
use Rattle.shared_workers.specs.declared.worker.WorkerTurn.{WorkerTurn}
use Rattle.shared_workers.specs.Rounds.{Stop, Work, round}
use Rattle.shared_workers.specs.Steps.{of_turn}
use Rattle.shared_workers.proofs.Jobs.{served_by}
use Rattle.shared_workers.proofs.Passing.{passes_none, reads_then, no_reading}
use Rattle.shared_workers.proofs.Rounds.{took_as, step_as, stop_round, claim_round, receipt_round}
use Rattle.shared_workers.proofs.Seen.{left_there}
use Rattle.shared_workers.proofs.worker.worker_turn.Goals as goal

pub returns-in-Stopping-clause-round : goal.returns-in-Stopping-clause-round
returns-in-Stopping-clause-round g c =
    let t = c.claim-step.ensures.turn in
    let end = front c.claim-step.result.1 in
    let base = base_of c.args.shared.now in
    let names = g.L.Link.link.serves c.args.link.now in
    let now = c.now-now.result in
    let place = c.in-Stopping.place in (
      round (Stop now place) (t.0 ∷ []),
      refl,
      stop_round base names (Stands g.K.Keeper.keeper (start_of c.args.shared.now)) (front c.args.pass) (calls c.args.pass) end (calls c.claim-step.result.1) t.0 t.1 now place
          (λ b is. took_as now base c.names.result.now names (found_by t.0 b end) (left_by t.0 b end) c.claim-step.result.0 (Step.Stopping place) c.names.ensures c.in-Stopping.is (t.2 b is)),
      λ told. passes_none g.L.Link.link c.args.link.now told,
      λ told. record { tells = c.now-now.ensures.told told; gave = c.now-now.ensures.given told },
    )

pub exchange-requires : goal.exchange-requires
exchange-requires g c =
    let t = c.claim-step.ensures.turn in
    let stood = c.claim-step.ensures.stood in
    let b = stood.0 in
    let end = front c.claim-step.result.1 in
    let found = found_by t.0 b end in
    let left = left_by t.0 b end in
    let names = g.L.Link.link.serves c.args.link.now in
    let claimed = c.in-Claimed.claimed in
    let took = took_as c.now-now.result (base_of c.args.shared.now) c.names.result.now names found left c.claim-step.result.0 (Step.Claimed claimed) c.names.ensures c.in-Claimed.is (t.2 b stood.1) in
    record { served = served_by (of_turn found left) found.book c.now-now.result names took.1.more claimed took.1.step }

pub keep-worked-requires-clause-there : goal.keep-worked-requires-clause-there
keep-worked-requires-clause-there g c = λ b is.
    let t = c.claim-step.ensures.turn in
    let end = front c.claim-step.result.1 in
    let names = g.L.Link.link.serves c.args.link.now in
    let r = c.in-Ok.receipt in
    let came = c.in-Ok.ensures.came in
    let job = claims.Claimed.Job r.subscriber r.k came.frame came.front in
    let took = took_as c.now-now.result (base_of c.args.shared.now) c.names.result.now names (found_by t.0 b end) (left_by t.0 b end) c.claim-step.result.0 (Step.Claimed job) c.names.ensures
    (step_as c.claim-step.result.0 c.in-Claimed.claimed job c.in-Claimed.is came.claimed_is) (t.2 b is) in
    left_there c.now-now.result names b (front c.args.pass) (calls c.args.pass) end (calls c.claim-step.result.1) t.0 r.subscriber r.k came.frame came.front t.1 took.1

pub returns-in-Ok-clause-round : goal.returns-in-Ok-clause-round
returns-in-Ok-clause-round g c =
    let t = c.claim-step.ensures.turn in
    let u = c.keep-worked.ensures.turn in
    let mid = front c.claim-step.result.1 in
    let base = base_of c.args.shared.now in
    let names = g.L.Link.link.serves c.args.link.now in
    let now = c.now-now.result in
    let later = c.now-later.result in
    let r = c.in-Ok.receipt in
    let came = c.in-Ok.ensures.came in
    let job = claims.Claimed.Job r.subscriber r.k came.frame came.front in
    let x : Exchange = Receipted r.reply r.n later u.1 in (
      round (Work (record { reading = now; claimed = job; exchange = x })) (t.0 ∷ u.0 ∷ []),
      ap (λ (w : Worked). WorkerTurn.Worked w) u.2,
      receipt_round base names (Stands g.K.Keeper.keeper (start_of c.args.shared.now)) (front c.args.pass) (calls c.args.pass) mid (calls c.claim-step.result.1) t.0 t.1 now job
          (λ b is. took_as now base c.names.result.now names (found_by t.0 b mid) (left_by t.0 b mid) c.claim-step.result.0 (Step.Claimed job) c.names.ensures
          (step_as c.claim-step.result.0 c.in-Claimed.claimed job c.in-Claimed.is came.claimed_is) (t.2 b is))
          (front c.keep-worked.result.1) (calls c.keep-worked.result.1) u.0 u.3 x u.4,
      came.passes,
      λ told. let first = c.now-now.ensures.told told in
          reads_then g.C.Clock.clock c.args.clock.now c.now-now.new.self c.now-later.new.self (now ∷ []) (later ∷ []) (record { tells = first; gave = c.now-now.ensures.given told })
          (record { tells = c.now-later.ensures.told first; gave = c.now-later.ensures.given first }),
    )

pub returns-in-Err-clause-round : goal.returns-in-Err-clause-round
returns-in-Err-clause-round g c =
    let t = c.claim-step.ensures.turn in
    let end = front c.claim-step.result.1 in
    let base = base_of c.args.shared.now in
    let names = g.L.Link.link.serves c.args.link.now in
    let now = c.now-now.result in
    let claimed = c.in-Claimed.claimed in
    let e = c.in-Err.ensures.came in (
      round (Work (record { reading = now; claimed = claimed; exchange = e.exchange })) (t.0 ∷ []),
      ap (λ (w : Worked). WorkerTurn.Worked w) e.word_is,
      claim_round base names (Stands g.K.Keeper.keeper (start_of c.args.shared.now)) (front c.args.pass) (calls c.args.pass) end (calls c.claim-step.result.1) t.0 t.1 now claimed
          (λ b is. took_as now base c.names.result.now names (found_by t.0 b end) (left_by t.0 b end) c.claim-step.result.0 (Step.Claimed claimed) c.names.ensures c.in-Claimed.is (t.2 b is))
          e.exchange e.exchanged,
      e.passes,
      λ told. subst (λ (l : List ℕ). Reads g.C.Clock.clock c.args.clock.now c.now-now.new.self (now ∷ l)) (sym (no_reading claimed e.exchange e.exchanged))
          (record { tells = c.now-now.ensures.told told; gave = c.now-now.ensures.given told }),
    )
