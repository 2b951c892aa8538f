use Rattle.std.proofs.Common.{[]}
use Rattle.input_lines.proofs.Cuts.{ended-append}
use Rattle.input_lines.proofs.Laws.{lines_are_the_cut, each_input_is_cut}
use Rattle.input_lines.proofs.lines_law.Goals as goal

pub returns-clause-lines : goal.returns-clause-lines
returns-clause-lines c = lines_are_the_cut

pub returns-clause-each : goal.returns-clause-each
returns-clause-each c = each_input_is_cut

pub returns-clause-pieces : goal.returns-clause-pieces
returns-clause-pieces c = λ longest p q. ended-append longest [] p q
