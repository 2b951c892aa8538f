use Rattle.std.proofs.Common.{◌≡◌, List, IfOk, All}
use Rattle.news_types.specs.Fits.{FitsIncoming}
use Rattle.wire_run.proofs.Ready.{ReadySoFar}
use Rattle.agency_runs.specs.Members.{of_read}
use Rattle.agency_runs.proofs.items.answer_each.Given as goal

abbrev pub invariant-loop-told : goal.invariant-loop-told
invariant-loop-told g l = record {
  stands : (shelf : g.A.Ingesting.Shelf) × ((h : List g.A.Ingesting.Entry) × (g.A.Ingesting.life shelf).stands l.desk h);
  fits : All (λ told. IfOk told FitsIncoming) l.told-iterator.rest.items;
  so_far : (shelf : g.A.Ingesting.Shelf) (h : List g.A.Ingesting.Entry) → (g.A.Ingesting.life shelf).stands l.fn.desk h
      → ReadySoFar (of_read (g.A.Ingesting.meaning shelf)) (g.A.Ingesting.life shelf) g.O.Sink.sink l.fn.desk l.desk l.fn.output l.output h l.fn.members.items l.told-iterator.rest.items;
  calm : g.A.Ingesting.faults l.desk ≡ g.A.Ingesting.faults l.fn.desk;
  calm_output : g.O.Sink.sink.faults l.output ≡ g.O.Sink.sink.faults l.fn.output;
}
