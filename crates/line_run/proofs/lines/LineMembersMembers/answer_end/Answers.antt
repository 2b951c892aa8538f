use Rattle.std.proofs.Common.{[], ℕ, List, refl, ◌∙◌, ap}
use Rattle.input_lines.specs.Lines.{unless_empty, open_from}
use Rattle.input_lines.proofs.Cuts.{kept_last}
use Rattle.line_run.proofs.Along.{along_did}
use Rattle.line_run.proofs.lines.LineMembersMembers.answer_end.Goals as goal

pub returns-clause-did : goal.returns-clause-did
returns-clause-did g c = λ shelf read is. (
  unless_empty shelf.longest (open_from [] read),
  refl,
  λ h stands. along_did _ _ _ _ _ _ _ _ _ h (unless_empty c.args.self.now.longest c.as_slice.result.now) _ _
      (ap (λ (l : List ℕ). unless_empty c.args.self.now.longest l) (c.as_slice.ensures.value ∙ is) ∙ kept_last c.args.self.now.longest (open_from [] read)
      ∙ ap (λ (n : ℕ). unless_empty n (open_from [] read)) stands.0.1)
      stands.0 (c.answer_some.ensures.did shelf.shelf h stands.1),
)
