use Rattle.std.proofs.Common.{◌≡◌, ◌≤◌, ◌<◌, ◌+◌, ◌-◌, ◌^◌, length}
use Rattle.std.specs.Prelude.{All}
use Rattle.news_io.specs.declared.record.Record.{Record}
use Rattle.news_journal.specs.Log.{records}
use Rattle.news_journal.specs.Opened.{Still, IsOfLog, payloads}
use Rattle.news_journal.specs.Window.{Shows}
use Rattle.news_journal.proofs.Progress.{SoFar}
use Rattle.news_journal.proofs.opening.read_records.Given as goal

abbrev pub invariant-loop-records : goal.invariant-loop-records
invariant-loop-records g l = record {
  place : l.gate ≡ 64 + length (records (payloads l.records.items));
  small : l.gate < 2 ^ 30;
  count : length l.records.items + 64 ≤ l.gate;
  at : All (λ (r : Record). r.at < 2 ^ 30) l.records.items;
  of_log : All IsOfLog l.records.items;
  still : Still g.D.Disk.disk l.fn.disk l.disk;
  calm : g.D.Disk.disk.faults l.disk ≡ g.D.Disk.disk.faults l.fn.disk;
  shows : g.D.Disk.disk.tells l.fn.disk → Shows l.fn.window (g.D.Disk.disk.seen l.fn.disk) → Shows l.window (g.D.Disk.disk.seen l.fn.disk);
  so_far : g.D.Disk.disk.tells l.fn.disk → Shows l.fn.window (g.D.Disk.disk.seen l.fn.disk) → 64 ≤ length (g.D.Disk.disk.seen l.fn.disk) → SoFar (g.D.Disk.disk.seen l.fn.disk) l.gate l.records.items;
}

abbrev pub decreases-loop-records : goal.decreases-loop-records
decreases-loop-records g l = 2 ^ 30 - l.gate
