use Rattle.std.proofs.Common.{◌≡◌, ◌++◌, take, string_bytes}
use Rattle.std.specs.List.{flat_map}
use Rattle.archive_search.specs.Answers.{hit_line}
use Rattle.archive_search.proofs.answer.put_hits.Given as goal

abbrev pub invariant-loop-hit : goal.invariant-loop-hit
invariant-loop-hit l = string_bytes l.text ≡ string_bytes l.fn.text ++ flat_map hit_line (take l.hit-index l.hits)
