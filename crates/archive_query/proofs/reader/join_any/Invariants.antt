use Rattle.std.proofs.Common.{◌≡◌, vec_len}
use Rattle.archive_query.specs.View.{query_of, queries_of}
use Rattle.archive_query.specs.Reading.{any_joined}
use Rattle.archive_query.proofs.reader.join_any.Given as goal

abbrev pub invariant-loop-first : goal.invariant-loop-first
invariant-loop-first l = any_joined (queries_of l.waiting.items) (query_of l.ask) ≡ any_joined (queries_of l.fn.waiting.items) (query_of l.fn.last)

abbrev pub decreases-loop-first : goal.decreases-loop-first
decreases-loop-first l = vec_len l.waiting
