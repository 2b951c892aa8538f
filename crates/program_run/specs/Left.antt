-- What goes on from files that open to a list, and what it leaves in them, said of their bytes.
use Rattle.std.specs.Prelude.{◌≡◌, ◌⊎◌, ℕ, Bool, true, List, ◌++◌, length}
use Rattle.news_types.specs.declared.entry.Entry.{Entry}
use Rattle.news_types.specs.Names.{Bytes}
use Rattle.news_types.specs.History.{History}
use Rattle.news_types.specs.Frames.{Writer}
use Rattle.news_io.specs.Left.{IsLeft, Between}
use Rattle.news_io.specs.Outside.{Meanings, Outside, FilesTell, Files, read, MayLeave, MayBe, LeftSince}
use Rattle.news_room.specs.Log.{IsStored}
use Rattle.program_events.specs.Leads.{IsOneOf, Lead}
use Rattle.program_run.specs.Opens.{OpenTo, OpenAlike, AreBytes}
use Rattle.world_laws.specs.World.{World, Event, run}

abbrev pub NoneInDoubt : Entry → Type 0
NoneInDoubt e = ⊥

-- one of the tried may stand behind the list, which is so only behind status 6
pub record MayStand (status : ℕ) (tried : List Entry) (e : Entry) : Type 0 where
  pub failed : status ≡ 6
  pub one : IsOneOf tried e

-- which writers of frames are spoken of, for a store
abbrev pub Writers : Type 1
Writers = Bytes → Writer → Type 0

abbrev pub AnyWriter : Bytes → Writer → Type 0
AnyWriter store write = Unit {0}

abbrev pub ThisWriter : (Bytes → Writer) → Bytes → Writer → Type 0
ThisWriter writer store write = write ≡ writer store

module _ {D S O C L : Type 0} (m : Meanings D S O C L) (before after : Outside D S O C L) (status : ℕ) where
  -- these files open as those do that a crash could leave before the call
  abbrev pub OpenAsBefore : Bytes → Files → Type 0
  OpenAsBefore store files = (was : Files) × MayLeave m before was × OpenAlike store was files

  -- The files of this store opened to the list, and are left with this one, or with this one and one of the tried.
  pub record FilesLeft (store : Bytes) (list now : History) (tried : List Entry) : Type 0 where
    pub tells : FilesTell m after
    pub opens : (files : Files) → MayBe m after files → AreBytes files
        → IsLeft (OpenTo store) now (MayStand status tried) files
    -- a crash at any moment of the call left the list and the first few of the entries behind it, or all and one that
    -- was tried; or files that open as those do that a crash could leave before it
    pub since : (files : Files) → LeftSince m before after files → AreBytes files
        → Between (OpenTo store) list now NoneInDoubt (MayStand status tried) files ⊎ OpenAsBefore store files

  module _ (writers : Writers) (Happened : Writer → World → List Event → Type 0) where
    -- From this list of a store on, and up to another one, these events of each world with the list happened: they
    -- lead to the list that is left, and the first of them to each list between. Told, the files are left with it, and
    -- behind it only what the world has in doubt.
    pub record Goes (told : Bool) (store : Bytes) (list : History) : Type 0 where
      pub now : History
      pub more : (more : List Entry) × (now ≡ more ++ list)
      pub stored : IsStored now
      pub happened : (write : Writer) → writers store write → (w : World) → w.server.list ≡ list
          → (events : List Event) × Happened write w events × Lead write w events now
          × (told ≡ true → FilesLeft store list now (run write events w).server.doubt)

    -- From files that open to a list of a store: where they tell what they hold, and also where that is not known.
    pub record GoesOnBy : Type 0 where
      pub store : Bytes
      pub long : length store ≡ 16
      pub list : History
      pub stored : IsStored list
      pub opens : FilesTell m before → AreBytes (read m before) → OpenTo store (read m before) list
      pub goes : (told : Bool) → (told ≡ true → FilesTell m before) → Goes told store list

  -- however publications are written
  abbrev pub GoesOn : (Writer → World → List Event → Type 0) → Type 0
  GoesOn Happened = GoesOnBy AnyWriter Happened

  -- where they are written so
  abbrev pub GoesOnAs : (Bytes → Writer) → (Writer → World → List Event → Type 0) → Type 0
  GoesOnAs writer Happened = GoesOnBy (ThisWriter writer) Happened
