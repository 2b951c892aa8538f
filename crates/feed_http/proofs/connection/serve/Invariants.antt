use Rattle.std.proofs.Common.{◌≡◌}
use Rattle.feed_http.specs.Serving.{Running}
use Rattle.feed_http.proofs.connection.serve.Given as goal

abbrev pub invariant-loop-count : goal.invariant-loop-count
invariant-loop-count g l = record {
  running : Running g.A.Answers.turn g.C.Clock.clock g.S.Source.source g.O.Sink.sink l.fn.room l.room l.fn.clock l.clock l.fn.source l.source l.buffer l.fn.sink l.sink l.count;
  ready : g.A.Answers.is_ready l.room;
  calm_in : g.S.Source.source.faults l.source ≡ g.S.Source.source.faults l.fn.source;
  calm_out : g.O.Sink.sink.faults l.sink ≡ g.O.Sink.sink.faults l.fn.sink;
}
