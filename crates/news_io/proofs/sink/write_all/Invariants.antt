use Rattle.std.proofs.Common.{◌≡◌, ◌≤◌, ◌-◌, ◌++◌, length, take}
use Rattle.news_io.specs.Sink.{AreFirst}
use Rattle.news_io.proofs.sink.write_all.Given as goal

abbrev pub invariant-loop-done : goal.invariant-loop-done
invariant-loop-done g l = record {
  within : l.done ≤ length l.bytes;
  bytes : g.O.Sink.sink.tells l.fn.sink → g.O.Sink.sink.taken l.sink ≡ g.O.Sink.sink.taken l.fn.sink ++ take l.done l.bytes;
  told : g.O.Sink.sink.tells l.fn.sink → g.O.Sink.sink.tells l.sink;
  kept : g.O.Sink.sink.tells l.fn.sink → AreFirst (g.O.Sink.sink.passed l.fn.sink) (g.O.Sink.sink.passed l.sink);
  calm : g.O.Sink.sink.faults l.sink ≡ g.O.Sink.sink.faults l.fn.sink;
}

abbrev pub decreases-loop-done : goal.decreases-loop-done
decreases-loop-done g l = length l.bytes - l.done
