use Rattle.std.proofs.Common.{arith, refl, [], ◌∷◌, ◌∙◌}
use Rattle.std.proofs.lemmas.Result.{err_from_is_err_and}
use Rattle.news_room.proofs.Openings.{as_many, read_on, damaged_here, read_all}
use Rattle.news_room.proofs.replay.Replay.of.Goals as goal

pub loop-here-init : goal.loop-here-init
loop-here-init c =
    let stands = c.in_ok-replay.ensures.stands in
    (c.in_ok-replay.ensures.store, [], record { opens = record { is = refl; kept = record { legal = stands.legal; formed = tt } }; stands = stands })

pub take-requires-clause-stands : goal.take-requires-clause-stands
take-requires-clause-stands c =
    let inv = c.loop-here.invariant in
    (inv.1, (inv.2.stands, omega (arith, c.requires.few, c.loop-here-test.true, as_many c.args.records.now c.loop-here.here-index c.loop-here.replay.machine inv.1 (omega (arith, c.loop-here-test.true)) inv.2)))

pub returns-in_err-take-clause-reads : goal.returns-in_err-take-clause-reads
returns-in_err-take-clause-reads c =
    let inv = c.loop-here.invariant in
    let given = err_from_is_err_and c.from_residual-in_err-take.result c.from_residual-in_err-take.ensures.1 in
    rw (given.1, given.2) (damaged_here c.args.records.now c.loop-here.here-index c.here-item.result c.loop-here-test.true c.here-item.is c.loop-here.replay.machine c.take.new.self.machine inv.1 c.in_err-take.field-0.0 inv.2 (c.in_err-take.ensures.takes inv.1 inv.2.stands inv.2.opens.kept))

pub loop-here-preserved : goal.loop-here-preserved
loop-here-preserved c =
    let inv = c.loop-here.invariant in
    let told = c.in_ok-take.ensures.takes inv.1 inv.2.stands inv.2.opens.kept in
    let next = read_on c.args.records.now c.loop-here.here-index c.here-item.result c.loop-here-test.true c.here-item.is c.loop-here.replay.machine _ inv.1 _ inv.2 told in
    (c.in_ok-take.ensures.store ∙ inv.0, told.entry ∷ inv.1, next)

pub returns-clause-reads : goal.returns-clause-reads
returns-clause-reads c =
    let inv = c.loop-here.invariant in
    (inv.1, read_all c.args.records.now c.loop-here.here-index c.loop-here.replay.machine inv.1 (omega (arith, c.loop-here-test.false)) inv.2)
