use Rattle.std.proofs.Common.{◌≡◌, map, take}
use Rattle.desk_questions.specs.Reach.{refusal_in}
use Rattle.desk_questions.proofs.reached.refusal_lines.Given as goal

abbrev pub invariant-loop-refusal : goal.invariant-loop-refusal
invariant-loop-refusal l = map refusal_in l.rows.items ≡ take l.refusal-index l.refusals
