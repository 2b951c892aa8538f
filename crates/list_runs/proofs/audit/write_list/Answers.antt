use Rattle.std.proofs.Common.{arith, refl, []}
use Rattle.std.proofs.lemmas.Result.{err_from_is_err_and}
use Rattle.news_room.proofs.Openings.{as_many}
use Rattle.list_runs.proofs.Audits.{told_more, told_until, told_all}
use Rattle.list_runs.proofs.Outputs.{taken_none}
use Rattle.list_runs.proofs.audit.write_list.Goals as goal

pub loop-here-init : goal.loop-here-init
loop-here-init g c =
    let stands = c.in-Ok.ensures.stands in
    ([], record { opens = record { is = refl; kept = record { legal = stands.legal; formed = tt } }; stands = stands }, taken_none g.O.Sink.sink c.args.output.now)

pub tell_record-requires : goal.tell_record-requires
tell_record-requires g c =
    let inv = c.loop-here.invariant in
    let count = as_many c.args.records.now c.loop-here.here-index c.loop-here.replay.machine inv.0 (omega (arith, c.loop-here-test.true)) inv.1 in
    record { stands = (inv.0, (inv.1.stands, omega (arith, c.requires.few, c.loop-here-test.true, count))) }

pub returns-in_err-tell_record : goal.returns-in_err-tell_record
returns-in_err-tell_record g c =
    λ h are.
    let inv = c.loop-here.invariant in
    let given = err_from_is_err_and c.from_residual.result c.from_residual.ensures.1 in
    rw (given.1, given.2)
    (told_until g.O.Sink.sink c.args.after c.args.records.now c.loop-here.here-index c.here-item.result c.loop-here-test.true c.here-item.is
    c.loop-here.replay.machine c.tell_record.new.replay.machine inv.0 c.args.output.now c.loop-here.output c.tell_record.new.output inv.1 inv.2
    h c.in_err-tell_record.field-0.0 are (c.in_err-tell_record.ensures inv.0 inv.1.stands inv.1.opens.kept))

pub loop-here-preserved : goal.loop-here-preserved
loop-here-preserved g c =
    let inv = c.loop-here.invariant in
    told_more g.O.Sink.sink c.args.after c.args.records.now c.loop-here.here-index c.here-item.result c.loop-here-test.true c.here-item.is
    c.loop-here.replay.machine c.tell_record.new.replay.machine inv.0 c.args.output.now c.loop-here.output c.tell_record.new.output inv.1 inv.2
    (c.in_ok-tell_record.ensures inv.0 inv.1.stands inv.1.opens.kept)

pub returns : goal.returns
returns g c h are =
    let inv = c.loop-here.invariant in
    told_all g.O.Sink.sink c.args.after c.args.records.now c.loop-here.here-index c.loop-here.replay.machine inv.0 h c.args.output.now c.loop-here.output
    (omega (arith, c.loop-here-test.false)) inv.1 inv.2 are
