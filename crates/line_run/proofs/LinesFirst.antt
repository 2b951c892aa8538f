-- The lines of the front come first.
use Rattle.std.proofs.Common.{◌++◌, [], ℕ, List, ◌∙◌, ap, append_assoc}
use Rattle.input_lines.specs.Lines.{Line, lines, ended, unless_empty, ended_from, open_from}
use Rattle.input_lines.proofs.Cuts.{ended-append}
use Rattle.line_run.specs.Members.{ComeFirst}

pub lines_come_first : (longest : ℕ) → ComeFirst (ended longest) (lines longest)
lines_come_first longest a b = (
  ended_from longest (open_from [] a) b ++ unless_empty longest (open_from [] (a ++ b)),
  ap (λ (l : List Line). l ++ unless_empty longest (open_from [] (a ++ b))) (ended-append longest [] a b)
      ∙ append_assoc (ended longest a) (ended_from longest (open_from [] a) b) (unless_empty longest (open_from [] (a ++ b))),
)
