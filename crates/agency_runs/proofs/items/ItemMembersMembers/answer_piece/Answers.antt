use Rattle.std.proofs.Common.{◌++◌, [], ℕ, List, length, take, Ok, Err, refl, ◌∙◌, ap, arith}
use Rattle.std.proofs.lemmas.List.{length-take}
use Rattle.input_lines.proofs.Pieces.{take_again}
use Rattle.line_run.specs.declared.ending.Ending.TheVariants as end
use Rattle.line_run.proofs.Along.{along_did}
use Rattle.line_run.proofs.Runs.{none_yet, none_some}
use Rattle.run_status.proofs.Tellings.{wrote_none}
use Rattle.news_io.proofs.Pieces.{first_all}
use Rattle.agency_runs.specs.Members.{of_read}
use Rattle.agency_items.specs.Items.{items}
use Rattle.wire_run.specs.Reading.{ENOUGH}
use Rattle.agency_runs.proofs.items.ItemMembersMembers.answer_piece.Goals as goal

pub extend_item-requires : goal.extend_item-requires
extend_item-requires g c = omega (arith, ap length c.requires.begun.1, length-take ENOUGH c.requires.begun.0)

pub returns-in-Err-clause-did : goal.returns-in-Err-clause-did
returns-in-Err-clause-did g c = λ shelf read is. (
  [],
  refl,
  λ h stands. along_did (of_read (g.A.Ingesting.meaning shelf.shelf)) (g.A.Ingesting.life shelf.shelf) _ _ g.O.Sink.sink _ _ _ _ h [] [] (Err end.Memory) refl stands.0
      (none_some (of_read (g.A.Ingesting.meaning shelf.shelf)) (g.A.Ingesting.life shelf.shelf) g.O.Sink.sink c.args.self.now.desk.now c.args._output.now c.args._output.now h end.Memory (λ none. none) stands.1 (wrote_none _ _) (λ t. first_all _)),
)

pub returns-clause-first : goal.returns-clause-first
returns-clause-first g c = λ shelf p q. (items (p ++ q), refl)

pub returns-clause-taken : goal.returns-clause-taken
returns-clause-taken g c = λ read is. c.in_default.ensures.kept ∙ ap (λ (l : List ℕ). take ENOUGH (l ++ c.args.piece.now)) is ∙ take_again ENOUGH read c.args.piece.now

pub returns-clause-did : goal.returns-clause-did
returns-clause-did g c = λ shelf read is. (
  [],
  refl,
  λ h stands. along_did (of_read (g.A.Ingesting.meaning shelf.shelf)) (g.A.Ingesting.life shelf.shelf) _ _ g.O.Sink.sink _ _ _ _ h [] [] (Ok tt) refl stands.0
      (none_yet (of_read (g.A.Ingesting.meaning shelf.shelf)) (g.A.Ingesting.life shelf.shelf) g.O.Sink.sink c.args.self.now.desk.now c.args._output.now h stands.1),
)
