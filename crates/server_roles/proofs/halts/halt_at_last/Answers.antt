use Rattle.std.proofs.Common.{[], ◌∷◌, ◌++◌, refl, ap, ◌∙◌}
use Rattle.room_lock.specs.Locks.{front, calls, start_of}
use Rattle.room_lock.proofs.Going.{went_none}
use Rattle.news_room.specs.Stands.{Stands}
use Rattle.shared_workers.proofs.Tallies.{reads_rested}
use Rattle.server_roles.specs.Halts.{halted, halted_calls, halted_holds, is_kept}
use Rattle.server_roles.proofs.Halting.{not_kept, each_more, went_halted, halt_read}
use Rattle.server_roles.specs.Halts.{NotKept}
use Rattle.server_roles.proofs.halts.halt_at_last.Goals as goal

pub loop-init : goal.loop-init
loop-init g c = (
  tt,
  tt,
  refl,
  (
    [],
    tt,
    went_none halted_calls halted_holds (Stands g.K.Keeper.keeper (start_of c.args.shared.now)) (front c.args.pass) (calls c.args.pass),
    λ told. record { tells = told; gave = λ i. refl },
  ),
)

pub returns-in-Kept-clause-halted : goal.returns-in-Kept-clause-halted
returns-in-Kept-clause-halted g c =
    let i = c.loop.invariant.3 in
    let t = c.with_turn-next.ensures.turn in
    let ticked = c.with_turn-next.new.work.ticked in
    let reading = c.now.result in
    let clock = g.C.Clock.clock in (
      i.0 ++ halted reading ticked t.0 ∷ [],
      record { before = i.0; last = halted reading ticked t.0; are = refl; fail = i.1; kept = ap is_kept c.in-Kept.is },
      went_halted (Stands g.K.Keeper.keeper (start_of c.args.shared.now)) (front c.args.pass) (calls c.args.pass) (front c.loop.pass) (calls c.loop.pass) (front c.with_turn-next.result) (calls c.with_turn-next.result) i.0 reading ticked t.0 i.2 t.1 t.2,
      λ told. let was = i.3 told in
          halt_read clock c.args.clock.now c.loop.clock c.now.new.self i.0 reading ticked t.0 was (record { tells = c.now.ensures.told was.tells; gave = c.now.ensures.given was.tells }),
    )

pub loop-preserved : goal.loop-preserved
loop-preserved g c =
    let i = c.loop.invariant.3 in
    let t = c.with_turn-next.ensures.turn in
    let ticked = c.with_turn-next.new.work.ticked in
    let reading = c.now.result in
    let clock = g.C.Clock.clock in (
      tt,
      tt,
      c.with_turn-next.ensures.lock ∙ c.loop.invariant.2,
      (
        i.0 ++ halted reading ticked t.0 ∷ [],
        each_more NotKept i.0 (halted reading ticked t.0) i.1 (not_kept ticked c.in_default.not-Kept),
        went_halted (Stands g.K.Keeper.keeper (start_of c.args.shared.now)) (front c.args.pass) (calls c.args.pass) (front c.loop.pass) (calls c.loop.pass) (front c.with_turn-next.result) (calls c.with_turn-next.result) i.0 reading ticked t.0 i.2 t.1 t.2,
        λ told.
            let was = i.3 told in
            let now = c.now.ensures.told was.tells in
            reads_rested clock c.args.clock.now c.now.new.self c.rest.new.self _
            (halt_read clock c.args.clock.now c.loop.clock c.now.new.self i.0 reading ticked t.0 was (record { tells = now; gave = c.now.ensures.given was.tells }))
            (record { tells = c.rest.ensures.told now; gave = c.rest.ensures.given now }),
      ),
    )
