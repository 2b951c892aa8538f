use Rattle.std.proofs.Common.{List, Result, [], subst}
use Rattle.news_types.specs.declared.story.Incoming.{Incoming}
use Rattle.line_run.specs.Turns.{Did}
use Rattle.line_run.specs.declared.ending.Ending.TheVariants as end
use Rattle.line_run.proofs.Runs.{none_some, some_of}
use Rattle.run_status.proofs.Tellings.{wrote_none}
use Rattle.news_io.proofs.Pieces.{first_all}
use Rattle.agency_items.specs.declared.fault.ItemFault.{ItemFault}
use Rattle.agency_items.specs.Items.{items}
use Rattle.agency_runs.specs.Members.{of_read}
use Rattle.agency_runs.proofs.items.answer_bytes.Goals as goal

pub returns-in_default-clause-did : goal.returns-in_default-clause-did
returns-in_default-clause-did g c = λ shelf h stands. some_of _ _ _ _ _ _ _ h [] (items c.args.bytes.now) end.Memory
    (none_some (of_read (g.A.Ingesting.meaning shelf)) (g.A.Ingesting.life shelf) g.O.Sink.sink c.args.desk.now c.args.output.now c.args.output.now h end.Memory (λ none. none) stands (wrote_none _ _) (λ t. first_all _))

pub returns-clause-did : goal.returns-clause-did
returns-clause-did g c = λ shelf h stands.
    subst (λ (l : List (Result Incoming ItemFault)). Did (of_read (g.A.Ingesting.meaning shelf)) (g.A.Ingesting.life shelf) g.O.Sink.sink c.args.desk.now c.answer_each.new.desk c.args.output.now c.answer_each.new.output h l c.answer_each.result)
    c.in-Ok.ensures.value (c.answer_each.ensures.did shelf h stands)
