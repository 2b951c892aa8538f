use Rattle.std.proofs.Common.{◌≡◌, ◌≤◌, ◌-◌, length, take, drop}
use Rattle.news_journal.specs.Opened.{Still}
use Rattle.news_journal.proofs.ahead.fill.Given as goal

abbrev pub invariant-loop-done : goal.invariant-loop-done
invariant-loop-done g l = record {
  within : l.done ≤ length l.into;
  still : Still g.D.Disk.disk l.fn.disk l.disk;
  bytes : g.D.Disk.disk.tells l.fn.disk → (l.done ≤ length (drop l.at (g.D.Disk.disk.seen l.fn.disk))) × (take l.done l.into ≡ take l.done (drop l.at (g.D.Disk.disk.seen l.fn.disk)));
  calm : g.D.Disk.disk.faults l.disk ≡ g.D.Disk.disk.faults l.fn.disk;
}

abbrev pub decreases-loop-done : goal.decreases-loop-done
decreases-loop-done g l = length l.initial.into - l.done
