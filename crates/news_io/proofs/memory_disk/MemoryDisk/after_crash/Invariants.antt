use Rattle.std.proofs.Common.{◌≡◌, List, ℕ, take}
use Rattle.news_io.specs.Replay.{may_hold}
use Rattle.news_io.proofs.memory_disk.MemoryDisk.after_crash.Given as goal

abbrev pub invariant-loop-event : goal.invariant-loop-event
invariant-loop-event l = may_hold (λ (d : List ℕ). d ≡ l.self.first.items) (take l.event-index l.self.events.items) l.image.items
