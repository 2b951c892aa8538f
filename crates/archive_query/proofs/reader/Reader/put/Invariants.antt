use Rattle.std.proofs.Common.{◌≡◌, vec_len}
use Rattle.archive_query.specs.View.{query_of}
use Rattle.archive_query.specs.Reading.{put}
use Rattle.archive_query.specs.Readers.{levels_of, waits_of}
use Rattle.archive_query.proofs.reader.Reader.put.Given as goal

abbrev pub invariant-loop-ask : goal.invariant-loop-ask
invariant-loop-ask l =
    put (levels_of l.self.levels.items) (waits_of l.self.chain) (query_of l.ask) ≡ put (levels_of l.fn.self.levels.items) (waits_of l.fn.self.chain) (query_of l.fn.unit)

abbrev pub decreases-loop-ask : goal.decreases-loop-ask
decreases-loop-ask l = vec_len l.self.levels
