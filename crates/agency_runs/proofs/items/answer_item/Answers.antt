use Rattle.std.proofs.Common.{◌∷◌, [], Result, Ok, Err, refl, sym, subst}
use Rattle.news_types.specs.declared.story.Incoming.{Incoming}
use Rattle.line_run.specs.Turns.{Did}
use Rattle.wire_run.proofs.Passes.{step_as, only_told_step, passed_did}
use Rattle.agency_items.specs.declared.fault.ItemFault.{ItemFault}
use Rattle.agency_runs.specs.Members.{of_read}
use Rattle.agency_runs.proofs.items.answer_item.Goals as goal

pub returns-in-Ok-clause-did : goal.returns-in-Ok-clause-did
returns-in-Ok-clause-did g c = λ shelf h stands.
    let M = g.A.Ingesting.meaning shelf in
    let L = g.A.Ingesting.life shelf in
    let it : Result Incoming ItemFault = Ok c.in-Ok.incoming in
    subst (λ (x : Result Incoming ItemFault). Did (of_read M) L g.O.Sink.sink c.args.desk.now c.ingest.new.self c.args.output.now c.pass_on.new.output h (x ∷ []) c.pass_on.result) (sym c.in-Ok.is)
    (passed_did (of_read M) L g.O.Sink.sink c.args.desk.now c.ingest.new.self h it c.args.output.now c.pass_on.new.output c.ingest.result c.pass_on.result
    (step_as M (of_read M) L c.args.desk.now c.ingest.new.self h c.in-Ok.incoming it (λ at. refl) c.ingest.result (c.ingest.ensures.step shelf h stands))
    c.pass_on.ensures)

pub returns-in-Err-clause-did : goal.returns-in-Err-clause-did
returns-in-Err-clause-did g c = λ shelf h stands.
    let M = g.A.Ingesting.meaning shelf in
    let L = g.A.Ingesting.life shelf in
    let it : Result Incoming ItemFault = Err c.in-Err.fault in
    subst (λ (x : Result Incoming ItemFault). Did (of_read M) L g.O.Sink.sink c.args.desk.now c.args.desk.now c.args.output.now c.pass_on-in-Err.new.output h (x ∷ []) c.pass_on-in-Err.result) (sym c.in-Err.is)
    (passed_did (of_read M) L g.O.Sink.sink c.args.desk.now c.args.desk.now h it c.args.output.now c.pass_on-in-Err.new.output c.item_fault.result c.pass_on-in-Err.result
    (only_told_step (of_read M) L c.args.desk.now h it _ (λ at. refl) stands c.item_fault.result c.item_fault.ensures)
    c.pass_on-in-Err.ensures)
