use Rattle.std.proofs.Common.{◌≡◌, ◌≤◌, ◌++◌, [], ◌∷◌, take, drop}
use Rattle.std.specs.Prelude.{All}
use Rattle.news_types.specs.declared.entry.Entry.{Entry}
use Rattle.entry_segments.specs.Segment.{InTime}
use Rattle.entry_segments.specs.Spelled.{entries_in, IsPayload}
use Rattle.news_journal.specs.Opened.{payloads, places}
use Rattle.news_pair.specs.Packing.{out_of_order}
use Rattle.news_pair.proofs.entries.check_order.Given as goal

abbrev pub invariant-loop-kept : goal.invariant-loop-kept
invariant-loop-kept l = record {
  each : All IsPayload (payloads (take l.kept-index l.records));
  in_time : InTime 0 (entries_in (payloads (take l.kept-index l.records)));
  next : (e : Entry) → l.moment ≤ e.moment → InTime 0 (entries_in (payloads (take l.kept-index l.records)) ++ e ∷ []);
  found : out_of_order 0 (places l.records) ≡ out_of_order l.moment (drop l.kept-index (places l.records));
}
