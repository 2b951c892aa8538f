use Rattle.std.proofs.Common.{[], ◌++◌, List, sym, ap, ◌∙◌}
use Rattle.line_run.specs.declared.ending.Ending.TheVariants as end
use Rattle.line_run.proofs.Runs.{none_some, some_of}
use Rattle.run_status.proofs.Tellings.{wrote_none}
use Rattle.news_io.proofs.Pieces.{first_all}
use Rattle.agency_wires.specs.declared.found.Found.{Found}
use Rattle.agency_wires.specs.Gives.{gives}
use Rattle.agency_runs.specs.Decided.{decided}
use Rattle.agency_runs.proofs.Ready.{ended_all, ended_placed}
use Rattle.agency_runs.proofs.wire.answer_last.Goals as goal

pub answer_ready-requires-clause-placed : goal.answer_ready-requires-clause-placed
answer_ready-requires-clause-placed g c = ended_placed c.args.reader.now c.finish.new.self.ready c.requires.taken.0 c.requires.taken.1 c.in_default.ensures.members c.requires.taken.2

pub returns-in-Err-clause-did : goal.returns-in-Err-clause-did
returns-in-Err-clause-did g c = λ read taken. (
  gives c.args.reader.now [],
  ended_all c.args.reader.now read taken,
  λ shelf h stands. some_of _ _ _ _ _ _ _ h [] (gives c.args.reader.now []) end.Memory
      (none_some (g.A.Receiving.meaning shelf) (g.A.Receiving.life shelf) g.O.Sink.sink c.args.desk.now c.args.output.now c.args.output.now h end.Memory (λ none. none) stands (wrote_none _ _) (λ t. first_all _)),
)

pub returns-in-Err-answer_ready-clause-did : goal.returns-in-Err-answer_ready-clause-did
returns-in-Err-answer_ready-clause-did g c = λ read taken. (
  c.finish.new.self.ready,
  ended_all c.args.reader.now read taken ∙ ap (λ (l : List Found). decided read ++ l) (sym c.in_default.ensures.members),
  λ shelf h stands. c.in-Err-answer_ready.ensures.did shelf h stands,
)

pub returns-clause-did : goal.returns-clause-did
returns-clause-did g c = λ read taken. (
  c.finish.new.self.ready,
  ended_all c.args.reader.now read taken ∙ ap (λ (l : List Found). decided read ++ l) (sym c.in_default.ensures.members),
  λ shelf h stands. c.in_default-answer_ready.ensures.did shelf h stands,
)
