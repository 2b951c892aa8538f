use Rattle.std.proofs.Common.{◌≡◌, ◌≤◌, ◌-◌, length}
use Rattle.room_standby.proofs.Exchanging.{SoFar}
use Rattle.room_standby.proofs.shipping.ship.Given as goal

abbrev pub invariant-records : goal.invariant-records
invariant-records g l = record {
  so_far : SoFar g.L.Link.link l.fn.link l.link l.records l.name l.kept;
  few : l.kept ≤ length l.records;
  none : length l.records ≡ 0 → l.link ≡ l.fn.link;
  serves : g.L.Link.link.serves l.link ≡ g.L.Link.link.serves l.fn.link;
  calm : g.L.Link.link.faults l.link ≡ g.L.Link.link.faults l.fn.link;
}

abbrev pub decreases-records : goal.decreases-records
decreases-records g l = length l.records - l.kept
