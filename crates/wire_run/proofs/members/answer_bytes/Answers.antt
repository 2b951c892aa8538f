use Rattle.std.proofs.Common.{◌∷◌, [], Result, Ok, refl, sym, subst}
use Rattle.news_types.specs.declared.story.Incoming.{Incoming}
use Rattle.ninjs_text.specs.declared.fault.NinjsFault.{NinjsFault}
use Rattle.ninjs_text.specs.Item.{ninjs}
use Rattle.line_run.specs.Turns.{Did}
use Rattle.wire_run.specs.Members.{of_item}
use Rattle.wire_run.proofs.Passes.{step_as, fault_step, passed_did}
use Rattle.wire_run.proofs.members.answer_bytes.Goals as goal

pub returns-in-Ok-clause-did : goal.returns-in-Ok-clause-did
returns-in-Ok-clause-did g c = λ shelf h stands.
    let M = g.A.Ingesting.meaning shelf in
    let L = g.A.Ingesting.life shelf in
    let it : Result Incoming NinjsFault = Ok c.in-Ok.incoming in
    subst (λ (x : Result Incoming NinjsFault). Did (of_item M) L g.O.Sink.sink c.args.desk.now c.ingest.new.self c.args.output.now c.pass_on.new.output h (x ∷ []) c.pass_on.result) (sym c.in-Ok.ensures.value)
    (passed_did (of_item M) L g.O.Sink.sink c.args.desk.now c.ingest.new.self h it c.args.output.now c.pass_on.new.output c.ingest.result c.pass_on.result
    (step_as M (of_item M) L c.args.desk.now c.ingest.new.self h c.in-Ok.incoming it (λ at. refl) c.ingest.result (c.ingest.ensures.step shelf h stands))
    c.pass_on.ensures)

pub returns-in-Err-clause-did : goal.returns-in-Err-clause-did
returns-in-Err-clause-did g c = λ shelf h stands.
    let M = g.A.Ingesting.meaning shelf in
    let L = g.A.Ingesting.life shelf in
    passed_did (of_item M) L g.O.Sink.sink c.args.desk.now c.args.desk.now h (ninjs c.args.bytes.now) c.args.output.now c.pass_on-in-Err.new.output c.item_fault.result c.pass_on-in-Err.result
    (fault_step M L c.args.desk.now h (ninjs c.args.bytes.now) stands c.in-Err.fault c.item_fault.result c.in-Err.ensures.value c.item_fault.ensures.text c.item_fault.ensures.memory)
    c.pass_on-in-Err.ensures
