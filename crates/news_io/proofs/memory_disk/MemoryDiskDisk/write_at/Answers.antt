use Rattle.std.proofs.Common.{sym, subst, ◌≡◌, List, ℕ, length}
use Rattle.news_io.specs.Replay.{may_hold, left_from, Tells}
use Rattle.news_io.specs.Moments.{Elapses}
use Rattle.news_io.proofs.Runs.{elapses_same}
use Rattle.news_io.proofs.Over.{torn_same}
use Rattle.news_io.proofs.Replay.{last_step, elapses_pushed, tells_written, undone}
use Rattle.news_io.proofs.memory_disk.MemoryDiskDisk.write_at.Goals as goal

pub returns-in_err-begin-clause-crash : goal.returns-in_err-begin-clause-crash
returns-in_err-begin-clause-crash c = λ x h. (x, h, torn_same _ _ x)

pub returns-then-at-length-clause-crash : goal.returns-then-at-length-clause-crash
returns-then-at-length-clause-crash c = λ x h. (x, h, torn_same _ _ x)

pub returns-in-Err-clause-crash : goal.returns-in-Err-clause-crash
returns-in-Err-clause-crash c = λ x h. (x, subst (λ es. may_hold (λ (d : List ℕ). d ≡ c.args.self.now.first.items) es x) c.in-Err.ensures.err h, torn_same _ _ x)

pub returns-in-Err-put-clause-told : goal.returns-in-Err-put-clause-told
returns-in-Err-put-clause-told c = λ told.
    subst (λ es. Tells c.args.self.now.first.items es c.put.new.bytes.items) (sym (undone c.args.self.now.events.items _ _ _ c.in_default.ensures.ok c.undo.ensures))
    (subst (λ (l : List ℕ). Tells c.args.self.now.first.items c.args.self.now.events.items l) (sym c.in-Err-put.ensures.err) told)

pub returns-in-Err-put-clause-crash : goal.returns-in-Err-put-clause-crash
returns-in-Err-put-clause-crash c = λ x h. (x, subst (λ es. may_hold (λ (d : List ℕ). d ≡ c.args.self.now.first.items) es x) (undone c.args.self.now.events.items _ _ _ c.in_default.ensures.ok c.undo.ensures) h, torn_same _ _ x)

pub returns-in-Err-put-clause-time : goal.returns-in-Err-put-clause-time
returns-in-Err-put-clause-time c =
    subst (λ es. Elapses (length c.args.self.now.events.items) (length es) (λ t x. left_from c.args.self.now.first.items c.args.self.now.events.items t x) (λ t x. left_from c.args.self.now.first.items es t x) (λ x. may_hold (λ (d : List ℕ). d ≡ c.args.self.now.first.items) es x))
    (sym (undone c.args.self.now.events.items _ _ _ c.in_default.ensures.ok c.undo.ensures)) (elapses_same _ _ _)

pub returns-clause-told : goal.returns-clause-told
returns-clause-told c = λ told. tells_written _ _ _ _ _ _ _ c.in_default.ensures.ok told c.put.ensures.torn c.in_default-put.ensures.long

pub returns-clause-crash : goal.returns-clause-crash
returns-clause-crash c = λ x h. last_step c.args.self.now.first.items _ _ _ c.in_default.ensures.ok x h

pub returns-clause-time : goal.returns-clause-time
returns-clause-time c = elapses_pushed c.args.self.now.first.items _ _ _ c.in_default.ensures.ok
