use Rattle.std.proofs.Common.{◌≡◌, List, length, All}
use Rattle.wire_run.proofs.Ready.{ReadySoFar}
use Rattle.agency_runs.specs.Places.{IsPlaced}
use Rattle.agency_runs.proofs.wire.answer_ready.Given as goal

abbrev pub invariant-loop-found : goal.invariant-loop-found
invariant-loop-found g l = record {
  stands : (shelf : g.A.Receiving.Shelf) × ((h : List g.A.Receiving.Entry) × (g.A.Receiving.life shelf).stands l.desk h);
  placed : All IsPlaced l.reader.ready;
  so_far : (shelf : g.A.Receiving.Shelf) (h : List g.A.Receiving.Entry) → (g.A.Receiving.life shelf).stands l.fn.desk h
      → ReadySoFar (g.A.Receiving.meaning shelf) (g.A.Receiving.life shelf) g.O.Sink.sink l.fn.desk l.desk l.fn.output l.output h l.fn.reader.ready l.reader.ready;
  rest : record l.reader { ready = l.fn.reader.ready } ≡ l.fn.reader;
  calm : g.A.Receiving.faults l.desk ≡ g.A.Receiving.faults l.fn.desk;
  calm_output : g.O.Sink.sink.faults l.output ≡ g.O.Sink.sink.faults l.fn.output;
}

abbrev pub decreases-loop-found : goal.decreases-loop-found
decreases-loop-found g l = length l.reader.ready
