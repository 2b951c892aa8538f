use Rattle.std.proofs.Common.{◌+◌, ◌++◌, ◌∷◌, [], List, min, refl, subst, ap, sym, ◌∙◌}
use Rattle.news_types.specs.Names.{Bytes}
use Rattle.room_lock.specs.Locks.{front, calls, start_of, base_of}
use Rattle.room_lock.specs.Going.{Went}
use Rattle.room_lock.proofs.Going.{went_none, went_on}
use Rattle.news_room.specs.Stands.{Stands}
use Rattle.shared_workers.specs.declared.worker.WorkerTurn.{WorkerTurn}
use Rattle.shared_workers.specs.Rounds.{is_stopping, round_calls, round_holds}
use Rattle.shared_workers.specs.Tallies.{is_delivered, is_failed, is_answered, one_if, MOST}
use Rattle.shared_workers.proofs.Passing.{passes_none}
use Rattle.shared_workers.proofs.Tallies.{go_on_more, counted_more, passes_more, reads_more, reads_rested, went_on_by}
use Rattle.shared_workers.proofs.tally.worker_loop.Goals as goal

pub loop-init : goal.loop-init
loop-init g c = (
  tt,
  tt,
  refl,
  refl,
  (
    [],
    tt,
    record { delivered_is = refl; failed_is = refl },
    went_none round_calls (round_holds (base_of c.args.shared.now) (g.L.Link.link.serves c.args.link.now)) (Stands g.K.Keeper.keeper (start_of c.args.shared.now)) (front c.args.pass) (calls c.args.pass),
    λ told. passes_none g.L.Link.link c.args.link.now told,
    λ told. record { tells = told; gave = λ i. refl },
  ),
)

pub returns-in-Stopping-clause-rounds : goal.returns-in-Stopping-clause-rounds
returns-in-Stopping-clause-rounds g c =
    let i = c.loop.invariant.4 in
    let t = c.worker_turn-answered.ensures.round in
    let base = base_of c.args.shared.now in
    let names = g.L.Link.link.serves c.args.link.now in
    let stands = Stands g.K.Keeper.keeper (start_of c.args.shared.now) in
    let seen = front c.worker_turn-answered.result.1 in
    let made = calls c.worker_turn-answered.result.1 in (
      i.0,
      t.0,
      i.1,
      ap is_stopping (sym t.1 ∙ c.in-Stopping.is),
      i.2,
      went_on round_calls (round_holds base names) stands (front c.args.pass) (calls c.args.pass) (front c.loop.pass) (calls c.loop.pass) seen made i.0 (t.0 ∷ []) i.3
          (subst (λ (ns : List Bytes). Went round_calls (round_holds base ns) stands (front c.loop.pass) (calls c.loop.pass) seen made (t.0 ∷ [])) c.loop.invariant.3 t.2),
      λ told. let was = i.4 told in passes_more g.L.Link.link c.args.link.now c.loop.link c.worker_turn-answered.new.link i.0 t.0 was (t.3 was.tells),
      λ told. let was = i.5 told in reads_more g.C.Clock.clock c.args.clock.now c.loop.clock c.worker_turn-answered.new.clock i.0 t.0 was (t.4 was.tells),
    )

pub loop-preserved : goal.loop-preserved
loop-preserved g c =
    let i = c.loop.invariant.4 in
    let t = c.worker_turn-answered.ensures.round in
    let n = c.go_on-tally.ensures in
    let worked = c.in-Worked.worked in
    let base = base_of c.args.shared.now in
    let names = g.L.Link.link.serves c.args.link.now in
    let stands = Stands g.K.Keeper.keeper (start_of c.args.shared.now) in
    let seen = front c.worker_turn-answered.result.1 in
    let made = calls c.worker_turn-answered.result.1 in
    let is = sym t.1 ∙ c.in-Worked.is in (
      tt,
      tt,
      c.worker_turn-answered.ensures.lock ∙ c.loop.invariant.2,
      c.worker_turn-answered.ensures.serves ∙ c.loop.invariant.3,
      (
        i.0 ++ t.0 ∷ [],
        go_on_more i.0 t.0 i.1 (went_on_by t.0 worked is),
        counted_more i.0 t.0 c.loop.tally c.go_on-tally.result i.2
            (n.delivered ∙ ap (λ (w : WorkerTurn). min (c.loop.tally.delivered + one_if (is_answered is_delivered w)) MOST) (sym is))
            (n.failed ∙ ap (λ (w : WorkerTurn). min (c.loop.tally.failed + one_if (is_answered is_failed w)) MOST) (sym is)),
        went_on round_calls (round_holds base names) stands (front c.args.pass) (calls c.args.pass) (front c.loop.pass) (calls c.loop.pass) seen made i.0 (t.0 ∷ []) i.3
            (subst (λ (ns : List Bytes). Went round_calls (round_holds base ns) stands (front c.loop.pass) (calls c.loop.pass) seen made (t.0 ∷ [])) c.loop.invariant.3 t.2),
        λ told. let was = i.4 told in passes_more g.L.Link.link c.args.link.now c.loop.link c.worker_turn-answered.new.link i.0 t.0 was (t.3 was.tells),
        λ told.
            let was = i.5 told in
            let now = t.4 was.tells in
            reads_rested g.C.Clock.clock c.args.clock.now c.worker_turn-answered.new.clock c.go_on-tally.new.clock _
            (reads_more g.C.Clock.clock c.args.clock.now c.loop.clock c.worker_turn-answered.new.clock i.0 t.0 was now) (n.clock now.tells),
      ),
    )
