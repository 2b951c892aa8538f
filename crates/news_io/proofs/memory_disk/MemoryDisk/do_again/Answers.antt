use Rattle.std.proofs.Common.{◌≤◌, ℕ, List, length, sym, subst}
use Rattle.news_io.proofs.Over.{torn_fewer}
use Rattle.news_io.proofs.memory_disk.MemoryDisk.do_again.Goals as goal

pub returns-in_ok-put-in-Write : goal.returns-in_ok-put-in-Write
returns-in_ok-put-in-Write c = record {
  step = rw c.in-Write.is (torn_fewer _ _ _ _ _ (subst (λ (piece : List ℕ). length piece ≤ c.in-Write.length) (sym c.deref-in-Write-2.ensures.value) c.in_ok-piece-in-Write.ensures.short) c.put.ensures.torn);
}
