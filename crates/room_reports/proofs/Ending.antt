-- How a call that reports ends, by what its tick was answered and by what was written.
use Rattle.std.proofs.Common.{◌≡◌, inl, inr, ℕ, List, Result, Ok, Err, refl, sym, subst, arith}
use Rattle.news_types.specs.declared.entry.Entry.{Entry}
use Rattle.news_types.specs.Names.{Bytes}
use Rattle.news_types.specs.History.{History}
use Rattle.news_types.specs.Books.{Book, onto}
use Rattle.news_io.specs.Clock.{ClockMeaning}
use Rattle.news_io.specs.Faults.{Rose}
use Rattle.news_io.specs.Keeper.{KeeperMeaning}
use Rattle.news_io.specs.Sink.{SinkMeaning}
use Rattle.run_status.specs.declared.status.Status.{Status}
use Rattle.news_room.specs.Beside.{Beside}
use Rattle.news_room.specs.Stands.{Stands, SomeBook, numbers}
use Rattle.news_room.specs.Steps.{TickStep}
use Rattle.news_room.specs.declared.answers.Ticked.{Ticked}
use Rattle.news_room.specs.declared.room.Room.{Room}
use Rattle.room_reports.specs.Reports.{IsReported, CountsStore, CountsOutput, IsComplete, IsRelease, IsReport}
use Rattle.room_reports.specs.Written.{IsWhole, IsCut, IsWrittenOut, IsStopped}
use Rattle.room_reports.specs.Parts.{released, ended, Writes}

module _ {O : Type 0} (sink : SinkMeaning O) (report : Bytes) where
  -- ---- what is reported

  -- what was written, and its end told
  written_out : (o mid o' : O) (written : Result (Unit {0}) Status) (status : ℕ) → Writes sink report o mid written → IsStopped sink (ended written) mid o' status → IsWrittenOut sink report o o' status
  written_out o mid o' (Ok u) status whole stopped = inl (stopped.status_is, subst (λ (x : O). IsWhole sink report o x) (sym (stopped.line.silent refl)) whole)
  written_out o mid o' (Err Status.Output) status cut stopped = inr (inl (stopped.status_is, subst (λ (x : O). IsCut sink report o x) (sym (stopped.line.silent refl)) cut))
  written_out o mid o' (Err Status.Memory) status part stopped = inr (inr (stopped.status_is, record { mid = mid; part = part; line = stopped.line }))
  written_out o mid o' (Err _) status none stopped = absurd none

  reported_after : (o o' : O) (status : ℕ) (ticked : Ticked) → Ok tt ≡ released ticked → IsWrittenOut sink report o o' status → IsReported sink report o o' status ticked
  reported_after o o' status (Ticked.Kept place) is out = out
  reported_after o o' status Ticked.Still is out = out
  reported_after o o' status Ticked.Fault is out = absurd cc
  reported_after o o' status (Ticked.Full size count) is out = absurd cc

  stopped_after : (o o' : O) (status : ℕ) (why : Status) (ticked : Ticked) → Err why ≡ released ticked → IsStopped sink why o o' status → IsReported sink report o o' status ticked
  stopped_after o o' status why (Ticked.Kept place) is stopped = absurd cc
  stopped_after o o' status why Ticked.Still is stopped = absurd cc
  stopped_after o o' status why Ticked.Fault is stopped = let e : why ≡ Status.Store = cc in subst (λ (w : Status). IsStopped sink w o o' status) e stopped
  stopped_after o o' status why (Ticked.Full size count) is stopped = let e : why ≡ Status.Full = cc in subst (λ (w : Status). IsStopped sink w o o' status) e stopped

  -- ---- counts of faults, and completeness

  written_store : (o o' : O) (status before now : ℕ) → now ≡ before → IsWrittenOut sink report o o' status → CountsStore status before now
  written_store o o' status before now calm (inl whole) = record { failed = λ six. absurd (omega (arith, six, whole.0)); calm = λ no. calm }
  written_store o o' status before now calm (inr (inl cut)) = record { failed = λ six. absurd (omega (arith, six, cut.0)); calm = λ no. calm }
  written_store o o' status before now calm (inr (inr starved)) = record { failed = λ six. absurd (omega (arith, six, starved.0)); calm = λ no. calm }

  store_counts : (n : Beside) (b : Book) (now : ℕ) (more : List Entry) (o o' : O) (status : ℕ) (ticked : Ticked) → TickStep n b now more ticked → IsReported sink report o o' status ticked → CountsStore status n.faults n.later_faults
  store_counts n b now more o o' status (Ticked.Kept place) step is = written_store o o' status n.faults n.later_faults step.2.whole.calm is
  store_counts n b now more o o' status Ticked.Still step is = written_store o o' status n.faults n.later_faults step.1.whole.calm is
  store_counts n b now more o o' status Ticked.Fault step is = record { failed = λ six. step.rose; calm = λ no. absurd (no is.status_is) }
  store_counts n b now more o o' status (Ticked.Full size count) step is = let eight : status ≡ 8 = is.status_is in record { failed = λ six. absurd (omega (arith, six, eight)); calm = λ no. step.calm }

  written_counts : (o o' : O) (status : ℕ) → IsWrittenOut sink report o o' status → CountsOutput status (sink.faults o) (sink.faults o')
  written_counts o o' status (inl whole) = record { failed = λ five. absurd (omega (arith, five, whole.0)); calm = λ none. whole.1.calm }
  written_counts o o' status (inr (inl cut)) = record { failed = λ five. cut.1.rose; calm = λ none. absurd (omega (arith, none, cut.0)) }
  written_counts o o' status (inr (inr starved)) = record { failed = λ five. absurd (omega (arith, five, starved.0)); calm = λ none. absurd (omega (arith, none, starved.0)) }

  output_counts : (o o' : O) (status : ℕ) (ticked : Ticked) → IsReported sink report o o' status ticked → CountsOutput status (sink.faults o) (sink.faults o')
  output_counts o o' status (Ticked.Kept place) is = written_counts o o' status is
  output_counts o o' status Ticked.Still is = written_counts o o' status is
  output_counts o o' status Ticked.Fault is = let six : status ≡ 6 = is.status_is in record { failed = λ five. absurd (omega (arith, five, six)); calm = λ none. absurd (omega (arith, none, six)) }
  output_counts o o' status (Ticked.Full size count) is = let eight : status ≡ 8 = is.status_is in record { failed = λ five. absurd (omega (arith, five, eight)); calm = λ none. absurd (omega (arith, none, eight)) }

  written_complete : (o o' : O) (status : ℕ) → IsWrittenOut sink report o o' status → (Rose (sink.faults o) (sink.faults o') → ⊥) → IsComplete status
  written_complete o o' status (inl whole) calm = inl whole.0
  written_complete o o' status (inr (inl cut)) calm = absurd (calm cut.1.rose)
  written_complete o o' status (inr (inr starved)) calm = inr (inr starved.0)

  complete : (n : Beside) (b : Book) (now : ℕ) (more : List Entry) (o o' : O) (status : ℕ) (ticked : Ticked) → TickStep n b now more ticked → IsReported sink report o o' status ticked
      → (Rose n.faults n.later_faults → ⊥) → (Rose (sink.faults o) (sink.faults o') → ⊥) → IsComplete status
  complete n b now more o o' status (Ticked.Kept place) step is kept calm = written_complete o o' status is calm
  complete n b now more o o' status Ticked.Still step is kept calm = written_complete o o' status is calm
  complete n b now more o o' status Ticked.Fault step is kept calm = absurd (kept step.rose)
  complete n b now more o o' status (Ticked.Full size count) step is kept calm = inr (inl is.status_is)

-- ---- the call

module _ {K C O : Type 0} (keeper : KeeperMeaning K) (clock : ClockMeaning C) (sink : SinkMeaning O) (report : History → Bytes) (old new : Room K) (c c' : C) (o o' : O) (status : ℕ)
    (some : SomeBook keeper old) (release : IsRelease keeper clock old new c c') where
  report_is : ((b : Book) → Stands keeper old b → IsReported sink (report ((onto release.more b).list)) o o' status release.ticked) → IsReport keeper clock sink report old new c c' o o' status
  report_is reported =
      let b = some.0 in
      let step = (release.happens b some.1).step in
      let text = report ((onto release.more b).list) in record {
        release = release;
        reported = reported;
        store_faults = store_counts sink text (numbers keeper old new) b release.now release.more o o' status release.ticked step (reported b some.1);
        output_faults = output_counts sink text o o' status release.ticked (reported b some.1);
        complete = complete sink text (numbers keeper old new) b release.now release.more o o' status release.ticked step (reported b some.1);
      }

  -- the report was written behind the tick, and its end told
  pub report_follows : (mid : O) (written : Result (Unit {0}) Status) → Ok tt ≡ released release.ticked → ((b : Book) → Stands keeper new b → Writes sink (report b.list) o mid written)
      → IsStopped sink (ended written) mid o' status → IsReport keeper clock sink report old new c c' o o' status
  report_follows mid written is writes stopped =
      report_is (λ b stands. reported_after sink (report ((onto release.more b).list)) o o' status release.ticked is
      (written_out sink (report ((onto release.more b).list)) o mid o' written status (writes (onto release.more b) (release.happens b stands).stands) stopped))

  -- there is none, since the tick failed
  pub no_report : (why : Status) → Err why ≡ released release.ticked → IsStopped sink why o o' status → IsReport keeper clock sink report old new c c' o o' status
  no_report why is stopped = report_is (λ b stands. stopped_after sink (report ((onto release.more b).list)) o o' status why release.ticked is stopped)
