use Rattle.wire_run.proofs.Passes.{passed_did}
use Rattle.agency_runs.proofs.wire.answer_found.Goals as goal

pub returns-clause-did : goal.returns-clause-did
returns-clause-did g c = λ shelf h stands.
    passed_did (g.A.Receiving.meaning shelf) (g.A.Receiving.life shelf) g.O.Sink.sink c.args.desk.now c.receive.new.self h c.args.found c.args.output.now c.pass_on.new.output c.receive.result c.pass_on.result
    (c.receive.ensures.step shelf h stands) c.pass_on.ensures
