-- What is told of the records of a list, one after another.
use Rattle.std.specs.Prelude.{◌≡◌, ℕ, nat_le, [], ◌∷◌, length, if◌then◌else◌, Result, Ok, Err}
use Rattle.news_types.specs.declared.entry.Entry.{Entry}
use Rattle.news_types.specs.Names.{Bytes}
use Rattle.news_types.specs.History.{History}
use Rattle.news_io.specs.Sink.{SinkMeaning}
use Rattle.news_io.specs.declared.record.Record.{Record}
use Rattle.entry_codec.specs.Spelling.{entry_bytes}
use Rattle.newsroom.specs.Stands.{StandsFor}
use Rattle.newsroom.specs.declared.newsroom.Newsroom.{Newsroom}
use Rattle.news_room.specs.Log.{IsStored}
use Rattle.run_status.specs.declared.status.Status.{Status}
use Rattle.room_reports.specs.Written.{IsCut}
use Rattle.told_entries.specs.Entries.{line_behind}
use Rattle.list_runs.specs.Output.{IsTaken}

-- the line of an entry behind the list; none where it is one of the first so many
abbrev pub next_line : ℕ → History → Entry → Bytes
next_line after h e = if nat_le after (length h) then line_behind h e else []

-- the record is that of an entry that may follow the list
pub record IsNext (h : History) (r : Record) (e : Entry) : Type 0 where
  pub is : r.bytes ≡ entry_bytes e
  pub kept : IsStored (e ∷ h)

module _ {O : Type 0} (sink : SinkMeaning O) (after : ℕ) (n : Newsroom) (h : History) (r : Record) (old new : O) where
  -- the newsroom stands for the list with the record's entry, and the output took its line
  pub record HasToldOne : Type 0 where
    pub entry : Entry
    pub next : IsNext h r entry
    pub stands : StandsFor n (entry ∷ h)
    pub taken : IsTaken sink (next_line after h entry) old new

  -- the output failed at the entry's line
  pub record HasCutOne : Type 0 where
    pub entry : Entry
    pub next : IsNext h r entry
    pub stands : StandsFor n (entry ∷ h)
    pub cut : IsCut sink (next_line after h entry) old new

  -- what is told of one more record by a newsroom that stood for the list: for want of memory nothing
  abbrev pub TellsOne : Result (Unit {0}) Status → Type 0
  TellsOne (Ok u) = HasToldOne
  TellsOne (Err Status.Output) = HasCutOne
  TellsOne (Err Status.Memory) = new ≡ old
  TellsOne (Err _) = ⊥
