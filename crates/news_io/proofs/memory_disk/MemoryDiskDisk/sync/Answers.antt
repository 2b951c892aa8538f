use Rattle.std.proofs.Common.{sym, ◌∙◌, subst, ◌≡◌, List, ℕ}
use Rattle.news_io.specs.Replay.{may_hold}
use Rattle.news_io.proofs.Replay.{last_step, elapses_pushed, tells_synced}
use Rattle.news_io.proofs.memory_disk.MemoryDiskDisk.sync.Goals as goal

pub returns-clause-durable : goal.returns-clause-durable
returns-clause-durable c = λ told x h. last_step c.args.self.now.first.items _ _ _ c.in_default-note.ensures.ok x h ∙ (c.in-Ok.ensures ∙ c.deref.ensures.value)

pub returns-clause-told : goal.returns-clause-told
returns-clause-told c = λ told. tells_synced _ _ _ _ _ c.in_default-note.ensures.ok (c.in-Ok.ensures ∙ c.deref.ensures.value)

pub returns-clause-crash : goal.returns-clause-crash
returns-clause-crash c = λ told x h.
    let is : x ≡ c.args.self.now.bytes.items = last_step c.args.self.now.first.items _ _ _ c.in_default-note.ensures.ok x h ∙ (c.in-Ok.ensures ∙ c.deref.ensures.value) in
    subst (λ (l : List ℕ). may_hold (λ (d : List ℕ). d ≡ c.args.self.now.first.items) c.args.self.now.events.items l) (sym is) told.holds

pub returns-clause-time : goal.returns-clause-time
returns-clause-time c = elapses_pushed c.args.self.now.first.items _ _ _ c.in_default-note.ensures.ok
