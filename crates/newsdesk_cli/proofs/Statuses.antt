-- The statuses of a command: those that are never told of a store that holds a list, and those that come where nothing failed.
use Rattle.std.proofs.Common.{◌≡◌, inl, inr, ℕ, ◌+◌, ◌≤◌, ◌<◌, [], length, length-append, refl, sym, ◌∙◌, ap, arith}
use Rattle.std.specs.Prelude.{Result, Ok, Err}
use Rattle.news_types.specs.Names.{Bytes}
use Rattle.news_io.specs.Faults.{Rose}
use Rattle.news_io.specs.Sink.{SinkMeaning}
use Rattle.news_io.specs.Source.{SourceMeaning}
use Rattle.line_run.specs.Status as run
use Rattle.line_run.specs.Status.{IsComplete, status_by}
use Rattle.line_run.specs.declared.ending.Ending.{Ending}
use Rattle.line_run.specs.declared.ending.Ending.TheVariants as end
use Rattle.wire_run.specs.Reading.{IsReadThrough}
use Rattle.run_status.specs.Status.{number_of}
use Rattle.store_files.specs.Store.{TroubleCounts, IsNotOfBytes}
use Rattle.store_files.specs.Trouble.{status_of}
use Rattle.store_files.specs.declared.trouble.Trouble.{Trouble}
use Rattle.store_files.specs.declared.trouble.Trouble.TheVariants as trouble
use Rattle.whole_runs.specs.Output.{IsTextTold}
use Rattle.newsdesk_cli.specs.Command.{IsServed}

-- any other number
pub others : (before now n status : ℕ) → (n ≡ 3 → ⊥) → (n ≡ 7 → ⊥) → (n ≡ 6 → Rose before now) → status ≡ n → IsServed before now status
others before now n status own whole failed is = record { own = λ s. own (sym is ∙ s); whole = λ s. whole (sym is ∙ s); failed = λ s. failed (sym is ∙ s) }

-- a trouble that no bytes show
pub by_trouble : (t : Trouble) (before now status : ℕ) → IsNotOfBytes t → TroubleCounts before now t → status ≡ number_of (status_of t) → IsServed before now status
by_trouble trouble.WrongStore before now status outside count is = absurd outside
by_trouble trouble.Store before now status outside count is = others before now 6 status (λ s. absurd (omega (arith, s))) (λ s. absurd (omega (arith, s))) (λ s. count) is
by_trouble (trouble.Damaged at found) before now status outside count is = absurd outside
by_trouble (trouble.DamagedSide at found) before now status outside count is = absurd outside
by_trouble trouble.Full before now status outside count is = absurd outside
by_trouble trouble.Memory before now status outside count is = others before now 9 status (λ s. absurd (omega (arith, s))) (λ s. absurd (omega (arith, s))) (λ s. absurd (omega (arith, s))) is

-- what ended a run
pub by_run : (r : Result (Unit {0}) Ending) (before now status : ℕ) → (r ≡ Err end.Store → Rose before now) → status ≡ number_of (run.status_of r) → IsServed before now status
by_run (Ok u) before now status rose is = others before now 0 status (λ s. absurd (omega (arith, s))) (λ s. absurd (omega (arith, s))) (λ s. absurd (omega (arith, s))) is
by_run (Err end.Read) before now status rose is = others before now 4 status (λ s. absurd (omega (arith, s))) (λ s. absurd (omega (arith, s))) (λ s. absurd (omega (arith, s))) is
by_run (Err end.Write) before now status rose is = others before now 5 status (λ s. absurd (omega (arith, s))) (λ s. absurd (omega (arith, s))) (λ s. absurd (omega (arith, s))) is
by_run (Err end.Store) before now status rose is = others before now 6 status (λ s. absurd (omega (arith, s))) (λ s. absurd (omega (arith, s))) (λ s. rose refl) is
by_run (Err end.Full) before now status rose is = others before now 8 status (λ s. absurd (omega (arith, s))) (λ s. absurd (omega (arith, s))) (λ s. absurd (omega (arith, s))) is
by_run (Err end.Memory) before now status rose is = others before now 9 status (λ s. absurd (omega (arith, s))) (λ s. absurd (omega (arith, s))) (λ s. absurd (omega (arith, s))) is
by_run (Err end.TooLong) before now status rose is = others before now 12 status (λ s. absurd (omega (arith, s))) (λ s. absurd (omega (arith, s))) (λ s. absurd (omega (arith, s))) is

-- a text was told at the end
module _ {O : Type 0} (sink : SinkMeaning O) (text : Bytes) (o o' : O) (status : ℕ) where
  pub text_served : (before now : ℕ) → IsTextTold sink text o o' status → IsServed before now status
  text_served before now (inl done) = others before now 0 status (λ s. absurd (omega (arith, s))) (λ s. absurd (omega (arith, s))) (λ s. absurd (omega (arith, s))) done.0
  text_served before now (inr (inl cut)) = others before now 5 status (λ s. absurd (omega (arith, s))) (λ s. absurd (omega (arith, s))) (λ s. absurd (omega (arith, s))) cut.0
  text_served before now (inr (inr stopped)) = others before now 9 status (λ s. absurd (omega (arith, s))) (λ s. absurd (omega (arith, s))) (λ s. absurd (omega (arith, s))) stopped.status_is

  pub text_complete : (Rose (sink.faults o) (sink.faults o') → ⊥) → IsTextTold sink text o o' status → IsComplete status
  text_complete calm (inl done) = inl done.0
  text_complete calm (inr (inl cut)) = absurd (calm cut.1.rose)
  text_complete calm (inr (inr stopped)) = inr (inr stopped.status_is)

-- an input was not read to its end
module _ {S : Type 0} (source : SourceMeaning S) (most : ℕ) (i i' : S) (status : ℕ) where
  pub unread_served : (before now : ℕ) (why : Ending) → IsReadThrough source most i i' [] (Err why) → status ≡ number_of (status_by why) → IsServed before now status
  unread_served before now end.Read part is = others before now 4 status (λ s. absurd (omega (arith, s))) (λ s. absurd (omega (arith, s))) (λ s. absurd (omega (arith, s))) is
  unread_served before now end.TooLong part is = others before now 12 status (λ s. absurd (omega (arith, s))) (λ s. absurd (omega (arith, s))) (λ s. absurd (omega (arith, s))) is
  unread_served before now end.Memory part is = others before now 9 status (λ s. absurd (omega (arith, s))) (λ s. absurd (omega (arith, s))) (λ s. absurd (omega (arith, s))) is
  unread_served before now end.Write part is = absurd part
  unread_served before now end.Store part is = absurd part
  unread_served before now end.Full part is = absurd part

  pub unread_complete : source.tells i → length (source.ahead i) ≤ most → (Rose (source.faults i) (source.faults i') → ⊥) → (why : Ending) → IsReadThrough source most i i' [] (Err why) → status ≡ number_of (status_by why) → IsComplete status
  unread_complete given few calm end.Read part is = absurd (calm part.2)
  unread_complete given few calm end.TooLong part is = absurd (omega (arith, few, part.1, ap length (part.0.was_read.input given), length-append part.0.read part.0.more))
  unread_complete given few calm end.Memory part is = inr (inr is)
  unread_complete given few calm end.Write part is = absurd part
  unread_complete given few calm end.Store part is = absurd part
  unread_complete given few calm end.Full part is = absurd part
