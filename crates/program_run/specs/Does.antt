-- What the words of a command do.
use Rattle.std.specs.Prelude.{◌≡◌, ◌⊎◌, ◌<◌, ◌≤◌, ℕ, List, length, Option, Some, None}
use Rattle.news_types.specs.declared.query.Query.TheVariants as query
use Rattle.news_types.specs.Frames.{Frame}
use Rattle.news_types.specs.History.{History}
use Rattle.news_types.specs.Names.{Bytes}
use Rattle.news_io.specs.Faults.{Rose}
use Rattle.news_io.specs.Outside.{Meanings, Outside, FilesTell, read, store_faults}
use Rattle.command_words.specs.declared.words.Job.{Job}
use Rattle.command_words.specs.declared.words.Job.TheVariants.{Init, Batch, Ingest, Import, Package, Feed, Queue, Archive, Contents, Audit, Ask, Digest, Limits, Why, Drain, Receive, Ship, StandIn, Drill, Check, Pack}
use Rattle.receiver_files.specs.Log.{Gives}
use Rattle.room_reports.specs.Written.{IsStopped}
use Rattle.run_status.specs.declared.status.Status.TheVariants as status
use Rattle.program_run.specs.Asked.{Asked}
use Rattle.program_run.specs.Drilled.{IsDrilled}
use Rattle.program_run.specs.Formats.{Kind, Formats}
use Rattle.program_run.specs.Imported.{Imported}
use Rattle.program_run.specs.Looked.{Looked}
use Rattle.program_run.specs.Made.{IsMade}
use Rattle.program_run.specs.Left.{GoesOn, GoesOnAs}
use Rattle.program_run.specs.Members.{InputAnswered, AnswersAll}
use Rattle.program_run.specs.Opens.{OpenTo}
use Rattle.program_run.specs.Packed.{IsPacked}
use Rattle.program_run.specs.Published.{Published}
use Rattle.program_run.specs.Pushed.{Pushed}
use Rattle.program_run.specs.Received.{IsReceived}
use Rattle.program_run.specs.Refused.{NotOpened}
use Rattle.program_run.specs.Reported.{Reported, Written}
use Rattle.program_run.specs.Shipped.{IsShipped}
use Rattle.program_run.specs.StoodIn.{Gives as HeldBy, IsStoodIn}
use Rattle.program_run.specs.Telling.{IsTold, IsAnswered, Unread}

-- the files are not refused for their bytes, and a failure is told only where a count of the disks rose
pub record IsServed (before now number : ℕ) : Type 0 where
  pub own : number ≡ 3 → ⊥
  pub whole : number ≡ 7 → ⊥
  pub failed : number ≡ 6 → Rose before now

-- so it is with `ask` and `digest`, but that each refuses a list that has not so many entries
pub record IsAskServed (entries : ℕ) (list : History) (before now number : ℕ) : Type 0 where
  pub own : number ≡ 3 → length list < entries
  pub whole : number ≡ 7 → ⊥
  pub failed : number ≡ 6 → Rose before now

module _ {D S O C L : Type 0} (f : Formats) (m : Meanings D S O C L) (before after : Outside D S O C L) where
  -- the words are no command: nothing but the output has changed
  pub record IsUsage (number : ℕ) : Type 0 where
    pub log : after.log ≡ before.log
    pub side : after.side ≡ before.side
    pub unread : Unread before after
    pub told : IsStopped m.sink status.Usage before.output after.output number

  -- the members of the input were answered
  abbrev pub Answers : Kind → ℕ → Type 0
  Answers kind number = NotOpened f.finders m before after number
      ⊎ (GoesOn m before after number (λ write w events. InputAnswered kind.input m before after write w number events)
      × AnswersAll m before after number)

  -- this line was told; or there was no memory for it
  abbrev pub Tells : Bytes → ℕ → Type 0
  Tells line number = IsAnswered m.sink line before.output after.output number

  -- this text was written, as far as the output and the memory allowed it
  abbrev pub Writes : Bytes → ℕ → Type 0
  Writes text number = Written m before after number text

  -- the answer to the query on this list was told: what it finds of a page, or where it is no query; or there was no memory
  abbrev pub Finds : ℕ → Bytes → History → ℕ → Type 0
  Finds page asked list number =
      ((answer : Bytes) × f.archive_answer page asked list answer × IsTold m.sink answer before.output after.output number)
      ⊎ IsStopped m.sink status.Memory before.output after.output number

  -- the digest of the first entries of the list, so many, was written; or it has not so many
  abbrev pub Digests : ℕ → History → ℕ → Type 0
  Digests entries list number =
      ((length list < entries) × IsStopped m.sink status.WrongStore before.output after.output number)
      ⊎ ((entries ≤ length list) × Writes (f.digest_line entries list) number)

  -- what is due was pushed, where publications are written as those of this store are
  abbrev pub Drains : ℕ → Type 0
  Drains number = NotOpened f.finders m before after number
      ⊎ GoesOnAs m before after number f.writer (λ write w events. Pushed f m before after number write w events)

  -- what these words do, and with which status they end
  abbrev pub Does : Option Job → ℕ → Type 0
  Does None number = IsUsage number
  Does (Some (Init store)) number = IsMade m before after number store
  Does (Some Batch) number = Answers f.lines number
  Does (Some (Ingest format provider)) number = Answers (f.ingest format provider) number
  Does (Some (Import caller)) number = Imported f m before after number caller
  Does (Some (Package caller request)) number = Published f m before after number caller request
  Does (Some (Feed subscriber first)) number =
      Reported f m before after number (query.Feed subscriber first) (f.feed_report subscriber first)
  Does (Some Queue) number = Reported f m before after number query.Queue f.queue_report
  Does (Some (Archive page asked)) number = Looked f.finders m before after number (λ store list. Finds page asked list number)
  Does (Some (Contents publication)) number =
      Looked f.finders m before after number (λ store list. Tells (f.contents_report store publication list) number)
  Does (Some (Audit first)) number =
      Looked f.finders m before after number (λ store list. Writes (f.audit first list) number)
  Does (Some (Ask entries)) number = Asked f m before after number entries
  Does (Some (Digest entries)) number = Looked f.finders m before after number (λ store list. Digests entries list number)
  Does (Some Limits) number = Looked f.finders m before after number (λ store list. Writes (f.limits list) number)
  Does (Some (Why publication subscriber)) number =
      Looked f.finders m before after number (λ store list. Writes (f.why_line publication subscriber list) number)
  Does (Some Drain) number = Drains number
  Does (Some (Receive name)) number = IsReceived m before after number name
  Does (Some (Ship name)) number = IsShipped m before after number name f.finders
  Does (Some (StandIn store)) number = IsStoodIn m before after number store f.finders
  Does (Some (Drill stories seed)) number = IsDrilled f m before after number stories seed
  Does (Some Check) number = Looked f.finders m before after number (λ store list. Tells (f.check_line list) number)
  Does (Some Pack) number = IsPacked f.finders m before after number

module _ {D S O C L : Type 0} (m : Meanings D S O C L) (before after : Outside D S O C L) where
  -- of files that open to a list
  abbrev pub ServesLists : (History → ℕ → ℕ → Type 0) → Type 0
  ServesLists Served = FilesTell m before → (store : Bytes) (list : History) → length store ≡ 16
      → OpenTo store (read m before) list → Served list (store_faults m before) (store_faults m after)

  -- what each command answers on files that open to a list
  abbrev pub Serves : Option Job → ℕ → Type 0
  Serves None number = Unit {0}
  Serves (Some (Init store)) number = Unit {0}
  Serves (Some (Receive name)) number = Unit {0}
  Serves (Some (StandIn store)) number = Unit {0}
  Serves (Some (Drill stories seed)) number = Unit {0}
  Serves (Some (Ask entries)) number = ServesLists (λ list was now. IsAskServed entries list was now number)
  Serves (Some (Digest entries)) number = ServesLists (λ list was now. IsAskServed entries list was now number)
  Serves (Some job) number = ServesLists (λ list was now. IsServed was now number)

  -- what `receive` answers on a file that is empty or holds the receiver's frames
  abbrev pub ReceiverServes : Option Job → ℕ → Type 0
  ReceiverServes (Some (Receive name)) number = m.disk.tells before.log → (frames : List Frame)
      → Gives name (m.disk.seen before.log) frames → IsServed (m.disk.faults before.log) (m.disk.faults after.log) number
  ReceiverServes job number = Unit {0}

  -- what `stand-in` answers on files that are empty or hold the list of its store
  abbrev pub StandbyServes : Option Job → ℕ → Type 0
  StandbyServes (Some (StandIn store)) number = FilesTell m before → length store ≡ 16 → (held : List Bytes)
      → HeldBy store (read m before) held → IsServed (store_faults m before) (store_faults m after) number
  StandbyServes job number = Unit {0}

-- the commands that use links
abbrev pub UsesLinks : Option Job → Type 0
UsesLinks (Some Drain) = Unit {0}
UsesLinks (Some (Ship name)) = Unit {0}
UsesLinks job = ⊥
