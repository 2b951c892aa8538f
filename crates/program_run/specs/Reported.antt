-- The reports on a list that opened: what waits is released first.
use Rattle.std.specs.Prelude.{◌≡◌, ◌⊎◌, ℕ, List, [], ◌∷◌}
use Rattle.news_types.specs.declared.query.Query.{Query}
use Rattle.news_types.specs.Names.{Bytes}
use Rattle.news_types.specs.History.{History}
use Rattle.news_types.specs.Frames.{Writer}
use Rattle.news_types.specs.Calls.{Fate, IsKept, IsFull, IsFailed, IsStarved}
use Rattle.news_io.specs.Faults.{Rose}
use Rattle.news_io.specs.Outside.{Meanings, Outside, store_faults}
use Rattle.run_status.specs.declared.status.Status.{Status}
use Rattle.run_status.specs.declared.status.Status.TheVariants as status
use Rattle.room_reports.specs.Written as written
use Rattle.room_reports.specs.Written.{IsWrittenOut}
use Rattle.whole_runs.specs.Output.{IsTextTold}
use Rattle.world_laws.specs.World.{World, Event, Ticks, run}
use Rattle.program_run.specs.Members.{Reads, LIMIT, Fares, question_events}
use Rattle.program_run.specs.Formats.{Formats}
use Rattle.program_run.specs.Left.{GoesOn}
use Rattle.program_run.specs.Refused.{NotOpened}

-- the files have not failed
abbrev pub IsCalm : {D S O C L : Type 0} → Meanings D S O C L → Outside D S O C L → Outside D S O C L → Type 0
IsCalm m before after = store_faults m after ≡ store_faults m before

module _ {D S O C L : Type 0} (m : Meanings D S O C L) (before after : Outside D S O C L) (number : ℕ) where
  -- a report was written, as far as the output and the memory allowed it
  abbrev pub Written : Bytes → Type 0
  Written text = IsWrittenOut m.sink text before.output after.output number

  -- an answer was written, as far as the output allowed it; or there was no memory for it
  abbrev pub Answers : Bytes → Type 0
  Answers text = IsTextTold m.sink text before.output after.output number

  -- nothing is written but the line of a status, and this is the status
  abbrev pub IsStopped : Status → Type 0
  IsStopped why = written.IsStopped m.sink why before.output after.output number

  -- by what became of the tick's entry: one that was not kept is told, and nothing is reported
  abbrev pub ToldBehind : Bytes → Fate → Type 0
  ToldBehind report IsKept = Written report × IsCalm m before after
  ToldBehind report IsFull = IsStopped status.Full × IsCalm m before after
  ToldBehind report IsFailed = IsStopped status.Store × Rose (store_faults m before) (store_faults m after)
  ToldBehind report IsStarved = ⊥

  -- a tick and then the question: what was written is the report on the list that the tick has left
  pub record IsReport (question : Query) (report : History → Bytes) (write : Writer) (w : World) (events : List Event)
      : Type 0 where
    pub at : ℕ
    pub reads : Reads m.clock before.clock after.clock (at ∷ [])
    pub fate : Fate
    pub events_are : events ≡ question_events question at fate
    pub fares : Fares (λ e. LIMIT) write w (λ fate. Ticks at fate ∷ []) fate
    pub told : ToldBehind (report (run write events w).server.list) fate
    pub input : after.input ≡ before.input

-- ---- by what the words ask

module _ {D S O C L : Type 0} (f : Formats) (m : Meanings D S O C L) (before after : Outside D S O C L)
    (number : ℕ) where
  -- a question's report
  abbrev pub Reported : Query → (History → Bytes) → Type 0
  Reported question report = NotOpened f.finders m before after number
      ⊎ GoesOn m before after number (λ write w events. IsReport m before after number question report write w events)
