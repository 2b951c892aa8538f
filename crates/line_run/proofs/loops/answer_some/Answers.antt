use Rattle.std.proofs.Common.{◌≡◌, ◌==◌, if◌then◌else◌, Bool, true, [], ◌∷◌, length, sym, ◌∙◌, subst}
use Rattle.input_lines.specs.Lines.{shown}
use Rattle.line_run.specs.Turns.{AnsweredAll}
use Rattle.line_run.proofs.Runs.{none_yet}
use Rattle.line_run.proofs.loops.answer_some.Goals as goal

pub returns-then-is_empty-clause-did : goal.returns-then-is_empty-clause-did
returns-then-is_empty-clause-did g c = λ shelf h stands.
    let none : (length c.args.line.now == 0) ≡ true = sym c.is_empty.ensures ∙ c.if-is_empty.true in
    subst (λ (b : Bool). AnsweredAll (g.A.Answering.meaning shelf) (g.A.Answering.life shelf) g.O.Sink.sink c.args.machine.now c.args.machine.now c.args.output.now c.args.output.now h (if b then [] else (shown c.args.longest c.args.line.now ∷ []))) (sym none)
    (none_yet _ _ _ _ _ h stands)
