use Rattle.std.proofs.Common.{◌∷◌, [], refl, sym, subst}
use Rattle.line_run.specs.Turns.{Did}
use Rattle.text7901.specs.declared.found.Found.{Found}
use Rattle.text7901.specs.declared.found.Found.TheVariants as found
use Rattle.wire_run.specs.Members.{of_found}
use Rattle.wire_run.proofs.Passes.{step_as, only_told_step, passed_did}
use Rattle.wire_run.proofs.members.answer_found.Goals as goal

pub returns-in-Story-clause-did : goal.returns-in-Story-clause-did
returns-in-Story-clause-did g c = λ shelf h stands.
    let M = g.A.Ingesting.meaning shelf in
    let L = g.A.Ingesting.life shelf in
    let it = found.Story c.in-Story.incoming in
    subst (λ (x : Found). Did (of_found M) L g.O.Sink.sink c.args.desk.now c.ingest.new.self c.args.output.now c.pass_on.new.output h (x ∷ []) c.pass_on.result) (sym c.in-Story.is)
    (passed_did (of_found M) L g.O.Sink.sink c.args.desk.now c.ingest.new.self h it c.args.output.now c.pass_on.new.output c.ingest.result c.pass_on.result
    (step_as M (of_found M) L c.args.desk.now c.ingest.new.self h c.in-Story.incoming it (λ at. refl) c.ingest.result (c.ingest.ensures.step shelf h stands))
    c.pass_on.ensures)

pub returns-in-Fault-clause-did : goal.returns-in-Fault-clause-did
returns-in-Fault-clause-did g c = λ shelf h stands.
    let M = g.A.Ingesting.meaning shelf in
    let L = g.A.Ingesting.life shelf in
    let it = found.Fault c.in-Fault.at c.in-Fault.what in
    subst (λ (x : Found). Did (of_found M) L g.O.Sink.sink c.args.desk.now c.args.desk.now c.args.output.now c.pass_on-in-Fault.new.output h (x ∷ []) c.pass_on-in-Fault.result) (sym c.in-Fault.is)
    (passed_did (of_found M) L g.O.Sink.sink c.args.desk.now c.args.desk.now h it c.args.output.now c.pass_on-in-Fault.new.output c.wire_fault.result c.pass_on-in-Fault.result
    (only_told_step (of_found M) L c.args.desk.now h it _ (λ at. refl) stands c.wire_fault.result c.wire_fault.ensures)
    c.pass_on-in-Fault.ensures)
