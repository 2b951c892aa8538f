-- A file that is empty, or holds a receiver's frames, is served.
use Rattle.std.proofs.Common.{◌≡◌, inl, inr, ℕ, true, false, List, refl, sym, ◌∙◌, subst, arith}
use Rattle.std.specs.Prelude.{Result, Ok, Err}
use mathlib.Core.Bool.{false≢true}
use Rattle.news_types.specs.Names.{Bytes}
use Rattle.news_types.specs.Frames.{Frame}
use Rattle.news_io.specs.Disk.{DiskMeaning}
use Rattle.news_io.specs.Faults.{Rose}
use Rattle.news_io.specs.Sink.{SinkMeaning}
use Rattle.news_io.specs.Source.{SourceMeaning}
use Rattle.news_journal.specs.Journal.{journal_of}
use Rattle.news_journal.specs.Stands.{disk_of}
use Rattle.news_journal.specs.declared.log.Journal.{Journal}
use Rattle.run_status.specs.Status.{number_of}
use Rattle.feed_receiver.specs.Holds.{Received, Holds}
use Rattle.feed_receiver.specs.declared.receiver.Receiver.{Receiver}
use Rattle.frame_run.specs.Run.{Ends}
use Rattle.frame_run.specs.Status as run
use Rattle.frame_run.specs.declared.ending.Ending.{Ending}
use Rattle.frame_run.specs.declared.ending.Ending.TheVariants as end
use Rattle.receiver_files.specs.Log.{Gives, RefusalCounts, IsNotOfBytes}
use Rattle.receiver_files.specs.Opening.{IsOpenReceiver}
use Rattle.receiver_files.specs.Receive.{IsReceive, IsServed}
use Rattle.receiver_files.specs.Refusals.{status_of}
use Rattle.receiver_files.specs.declared.refusal.Refusal.{Refusal}
use Rattle.receiver_files.specs.declared.refusal.Refusal.TheVariants as refusal
use Rattle.receiver_files.proofs.Logs.{serves_bytes}

-- ---- statuses

-- any other number
others : (before now n status : ℕ) → (n ≡ 3 → ⊥) → (n ≡ 7 → ⊥) → (n ≡ 6 → Rose before now) → status ≡ n → IsServed before now status
others before now n status own whole failed is = record { own = λ s. own (sym is ∙ s); whole = λ s. whole (sym is ∙ s); failed = λ s. failed (sym is ∙ s) }

by_refusal : (why : Refusal) (before now status : ℕ) → IsNotOfBytes why → RefusalCounts before now why → status ≡ number_of (status_of why) → IsServed before now status
by_refusal refusal.WrongStore before now status outside count is = absurd outside
by_refusal refusal.Store before now status outside count is = others before now 6 status (λ s. absurd (omega (arith, s))) (λ s. absurd (omega (arith, s))) (λ s. count) is
by_refusal (refusal.Damaged at found) before now status outside count is = absurd outside
by_refusal refusal.Memory before now status outside count is = others before now 9 status (λ s. absurd (omega (arith, s))) (λ s. absurd (omega (arith, s))) (λ s. absurd (omega (arith, s))) is

by_run : (r : Result (Unit {0}) Ending) (before now status : ℕ) → (r ≡ Err end.Store → Rose before now) → status ≡ number_of (run.status_of r) → IsServed before now status
by_run (Ok u) before now status rose is = others before now 0 status (λ s. absurd (omega (arith, s))) (λ s. absurd (omega (arith, s))) (λ s. absurd (omega (arith, s))) is
by_run (Err end.Read) before now status rose is = others before now 4 status (λ s. absurd (omega (arith, s))) (λ s. absurd (omega (arith, s))) (λ s. absurd (omega (arith, s))) is
by_run (Err end.Write) before now status rose is = others before now 5 status (λ s. absurd (omega (arith, s))) (λ s. absurd (omega (arith, s))) (λ s. absurd (omega (arith, s))) is
by_run (Err end.Store) before now status rose is = others before now 6 status (λ s. absurd (omega (arith, s))) (λ s. absurd (omega (arith, s))) (λ s. rose refl) is
by_run (Err end.Full) before now status rose is = others before now 8 status (λ s. absurd (omega (arith, s))) (λ s. absurd (omega (arith, s))) (λ s. absurd (omega (arith, s))) is
by_run (Err end.Memory) before now status rose is = others before now 9 status (λ s. absurd (omega (arith, s))) (λ s. absurd (omega (arith, s))) (λ s. absurd (omega (arith, s))) is
by_run (Err end.TooLong) before now status rose is = others before now 12 status (λ s. absurd (omega (arith, s))) (λ s. absurd (omega (arith, s))) (λ s. absurd (omega (arith, s))) is
by_run (Err (end.BadFrame at)) before now status rose is = others before now 13 status (λ s. absurd (omega (arith, s))) (λ s. absurd (omega (arith, s))) (λ s. absurd (omega (arith, s))) is

-- ---- the command

module _ {D : Type 0} (disk : DiskMeaning D) (name : Bytes) (log : D) where
  -- where the count of the journal rises, so does that of the disk
  pub rose_along : (log' : D) (r r' : Receiver (Journal D)) → IsOpenReceiver disk name log r → log' ≡ disk_of r'.keeper
      → Rose ((journal_of disk).faults r.keeper) ((journal_of disk).faults r'.keeper) → Rose (disk.faults log) (disk.faults log')
  rose_along log' r r' opened same rose =
      subst (λ (n : ℕ). Rose n (disk.faults log')) opened.calm (subst (λ (d : D). Rose ((journal_of disk).faults r.keeper) (disk.faults d)) (sym same) rose)

  -- a receiver that was opened stands for its frames, told or not
  pub some_frames : (r : Receiver (Journal D)) → IsOpenReceiver disk name log r → (b : Received) × Holds (journal_of disk) r b
  some_frames r o = (record { name = name; told = false; frames = o.frames }, o.holds false (λ is. absurd (false≢true is)))

module _ {D O S : Type 0} (disk : DiskMeaning D) (source : SourceMeaning S) (sink : SinkMeaning O) (name : Bytes)
    (log log' : D) (i i' : S) (o o' : O) (status : ℕ) (told : disk.tells log) (frames : List Frame) (gives : Gives name (disk.seen log) frames) where
  pub served : IsReceive disk source sink name log log' i i' o o' status → IsServed (disk.faults log) (disk.faults log') status
  served (inl n) = by_refusal n.why (disk.faults log) (disk.faults log') status (serves_bytes name (disk.seen log) frames gives n.why (n.refused.cause told)) n.refused.count n.stopped.status_is
  served (inr a) =
      let r = a.ran true (λ is. told) in
      by_run r.result (disk.faults log) (disk.faults log') status
      (λ is.
      let ends = subst (Ends (source.faults i) (source.faults i') ((journal_of disk).faults a.receiver.keeper) ((journal_of disk).faults a.after.keeper) (sink.faults o) (sink.faults r.mid)) is r.ends in
      rose_along disk name log log' a.receiver a.after a.opened a.same ends.1.0)
      r.status_is
