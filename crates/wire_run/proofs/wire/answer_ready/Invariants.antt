use Rattle.std.proofs.Common.{◌≡◌, List, length}
use Rattle.wire_run.specs.Members.{of_found}
use Rattle.wire_run.proofs.Ready.{ReadySoFar}
use Rattle.wire_run.proofs.wire.answer_ready.Given as goal

abbrev pub invariant-loop-found : goal.invariant-loop-found
invariant-loop-found g l = record {
  stands : (shelf : g.A.Ingesting.Shelf) × ((h : List g.A.Ingesting.Entry) × (g.A.Ingesting.life shelf).stands l.desk h);
  so_far : (shelf : g.A.Ingesting.Shelf) (h : List g.A.Ingesting.Entry) → (g.A.Ingesting.life shelf).stands l.fn.desk h
      → ReadySoFar (of_found (g.A.Ingesting.meaning shelf)) (g.A.Ingesting.life shelf) g.O.Sink.sink l.fn.desk l.desk l.fn.output l.output h l.fn.reader.ready l.reader.ready;
  rest : record l.reader { ready = l.fn.reader.ready } ≡ l.fn.reader;
  calm : g.A.Ingesting.faults l.desk ≡ g.A.Ingesting.faults l.fn.desk;
  calm_output : g.O.Sink.sink.faults l.output ≡ g.O.Sink.sink.faults l.fn.output;
}

abbrev pub decreases-loop-found : goal.decreases-loop-found
decreases-loop-found g l = length l.reader.ready
