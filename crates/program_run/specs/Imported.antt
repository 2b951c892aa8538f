-- What `import` does: a table of subscribers is a request for each of its records, all at one reading of the clock.
use Rattle.std.specs.Prelude.{◌≡◌, ◌⊎◌, ◌≤◌, ℕ, ◌+◌, List, [], ◌∷◌, ◌++◌, if◌then◌else◌, Option, Some, None}
use Rattle.news_types.specs.declared.command.Command.TheVariants.{Stop}
use Rattle.news_types.specs.Names.{Bytes}
use Rattle.news_types.specs.History.{last_number}
use Rattle.news_types.specs.Frames.{Writer}
use Rattle.news_types.specs.Products.{is_subscriber}
use Rattle.news_types.specs.Outcome.{Denied}
use Rattle.news_types.specs.Calls.{Answer, Replied, Fate, IsKept, IsFull, IsFailed}
use Rattle.news_io.specs.Faults.{Rose}
use Rattle.news_io.specs.Outside.{Meanings, Outside, store_faults}
use Rattle.run_status.specs.declared.status.Status.TheVariants as status
use Rattle.world_laws.specs.World.{World, Event, Given, Requests, run}
use Rattle.subscriber_import.specs.declared.line.Line.{Line}
use Rattle.subscriber_import.specs.declared.line.Line.TheVariants as line
use Rattle.program_run.specs.Opens.{size_of}
use Rattle.program_run.specs.Members.{Reads, LIMIT, Fares, IsComplete, IfAllWell}
use Rattle.program_run.specs.Formats.{Wanted, Formats}
use Rattle.program_run.specs.Left.{GoesOn}
use Rattle.program_run.specs.Refused.{NotOpened}
use Rattle.program_run.specs.Reported.{IsStopped, IsCalm, Answers}
use Rattle.program_run.specs.Whole.{IsReadWhole, IsNotRead}

-- the most bytes of a table
abbrev pub LONGEST_TABLE : ℕ
LONGEST_TABLE = 4194304

-- ---- records in a world

-- what an answer is told as
abbrev pub told_as : Answer → Line
told_as (Replied (Denied denial)) = line.Denied denial
told_as a = line.Added

abbrev pub told_newest : List Given → Line
told_newest [] = line.Bad
told_newest (g ∷ older) = told_as g.answer

module _ (write : Writer) (caller : Bytes) (at : ℕ) where
  -- what a record asks for: the caller's next number, which the denial of a request out of turn tells, and then the
  -- subscriber; nothing where it is not of its form, or the subscriber is there
  abbrev pub row_events : World → Option Wanted → Fate → List Event
  row_events w None fate = []
  row_events w (Some row) fate =
      if is_subscriber w.server.list row.subscriber then []
      else Requests caller 0 Stop at IsKept ∷ Requests caller (last_number w.server.list caller + 1) row.command at fate ∷ []

  -- the world behind it, where its entry is kept
  abbrev pub behind : World → Option Wanted → World
  behind w row = run write (row_events w row IsKept) w

  -- what became of it, by the world's answer
  abbrev pub line_of : World → Option Wanted → Line
  line_of w None = line.Bad
  line_of w (Some row) =
      if is_subscriber w.server.list row.subscriber then line.There else told_newest (behind w (Some row)).out

  -- one record after another
  abbrev pub table_events : World → List (Option Wanted) → List Event
  table_events w [] = []
  table_events w (row ∷ rows) = row_events w row IsKept ++ table_events (behind w row) rows

  abbrev pub lines : World → List (Option Wanted) → List Line
  lines w [] = []
  lines w (row ∷ rows) = line_of w row ∷ lines (behind w row) rows

  -- the first of the records were gone through
  pub record AreFirst (w : World) (rows : List (Option Wanted)) (events : List Event) : Type 0 where
    pub front : List (Option Wanted)
    pub rest : List (Option Wanted)
    pub are : rows ≡ front ++ rest
    pub events_are : events ≡ table_events w front

  -- so were the first of them, and the entry of the next was not kept
  pub record AreStopped (w : World) (rows : List (Option Wanted)) (fate : Fate) (events : List Event) : Type 0 where
    pub front : List (Option Wanted)
    pub row : Option Wanted
    pub rest : List (Option Wanted)
    pub are : rows ≡ front ++ row ∷ rest
    pub events_are : events ≡ table_events w front ++ row_events (run write (table_events w front) w) row fate
    pub fares : Fares (λ e. LIMIT) write (run write (table_events w front) w)
        (row_events (run write (table_events w front) w) row) fate

  -- what they added is within the limit
  abbrev pub IsWithin : World → List Event → Type 0
  IsWithin w events =
      ((run write events w).server.list ≡ w.server.list) ⊎ (size_of (run write events w).server.list ≤ LIMIT)

-- ---- the import

module _ {D S O C L : Type 0} (f : Formats) (m : Meanings D S O C L) (before after : Outside D S O C L)
    (number : ℕ) (caller : Bytes) where
  module _ (write : Writer) (w : World) (at : ℕ) (events : List Event) where
    -- all records were gone through, and this is told of them
    pub record HasImported (rows : List (Option Wanted)) : Type 0 where
      pub events_are : events ≡ table_events write caller at w rows
      pub within : IsWithin write caller at w events
      pub calm : IsCalm m before after
      pub told : Answers m before after number (f.import_report (lines write caller at w rows))

    -- the store failed at the entry of one
    pub record HasFailed (rows : List (Option Wanted)) : Type 0 where
      pub stopped : AreStopped write caller at w rows IsFailed events
      pub rose : Rose (store_faults m before) (store_faults m after)
      pub told : IsStopped m before after number status.Store

    -- it was full at the entry of one
    pub record IsFullAt (rows : List (Option Wanted)) : Type 0 where
      pub stopped : AreStopped write caller at w rows IsFull events
      pub calm : IsCalm m before after
      pub told : IsStopped m before after number status.Full

    -- there was no memory for more
    pub record HasStarved (rows : List (Option Wanted)) : Type 0 where
      pub first : AreFirst write caller at w rows events
      pub within : IsWithin write caller at w events
      pub calm : IsCalm m before after
      pub told : IsStopped m before after number status.Memory

    -- the records of a table behind its head, or a table without its head, of which nothing was asked
    abbrev pub Imports : Option (List (Option Wanted)) → Type 0
    Imports None = (events ≡ []) × IsCalm m before after
        × (IsStopped m before after number status.BadHead ⊎ IsStopped m before after number status.Memory)
    Imports (Some rows) = HasImported rows ⊎ (HasFailed rows ⊎ (IsFullAt rows ⊎ HasStarved rows))

  -- the input was read to its end, and its table imported at one reading of the clock
  pub record IsImported (write : Writer) (w : World) (events : List Event) : Type 0 where
    pub table : List ℕ
    pub read : IsReadWhole m before after number LONGEST_TABLE table
    pub at : ℕ
    pub reads : Reads m.clock before.clock after.clock (at ∷ [])
    pub imports : Imports write w at events (f.table table)

  abbrev pub IsImport : Writer → World → List Event → Type 0
  IsImport write w events = IsImported write w events ⊎ IsNotRead m before after number LONGEST_TABLE events

  -- where nothing failed and the table is not too long, only a missing head, the limit and want of memory keep the run
  -- from its end
  abbrev pub ImportsAll : Type 0
  ImportsAll = IfAllWell m before after LONGEST_TABLE (IsComplete number ⊎ (number ≡ 14))

  -- the table of the input is imported, as requests of this caller
  abbrev pub Imported : Type 0
  Imported = NotOpened f.finders m before after number ⊎ (GoesOn m before after number IsImport × ImportsAll)
