-- What becomes of a report that is asked of a room.
use Rattle.std.specs.Prelude.{◌≡◌, ◌⊎◌, ℕ, List, [], ◌∷◌}
use Rattle.news_types.specs.declared.entry.Entry.{Entry}
use Rattle.news_types.specs.Names.{Bytes}
use Rattle.news_types.specs.History.{History}
use Rattle.news_types.specs.Books.{Book, onto}
use Rattle.news_types.specs.Calls as call
use Rattle.news_io.specs.Clock.{ClockMeaning, Gave}
use Rattle.news_io.specs.Faults.{Rose}
use Rattle.news_io.specs.Keeper.{KeeperMeaning}
use Rattle.news_io.specs.Sink.{SinkMeaning}
use Rattle.run_status.specs.declared.status.Status.{Status}
use Rattle.news_room.specs.Events.{Happens}
use Rattle.news_room.specs.Said.{said_tick}
use Rattle.news_room.specs.Stands.{Stands, numbers}
use Rattle.news_room.specs.Steps.{TickStep}
use Rattle.news_room.specs.declared.answers.Ticked.{Ticked}
use Rattle.news_room.specs.declared.room.Room.{Room}
use Rattle.room_reports.specs.Written.{IsWrittenOut, IsStopped}

module _ {O : Type 0} (sink : SinkMeaning O) where
  -- the report, where the tick was kept or nothing waited; else why there is none
  abbrev pub IsReported : Bytes → O → O → ℕ → Ticked → Type 0
  IsReported report old new status (Ticked.Kept place) = IsWrittenOut sink report old new status
  IsReported report old new status Ticked.Still = IsWrittenOut sink report old new status
  IsReported report old new status Ticked.Fault = IsStopped sink Status.Store old new status
  IsReported report old new status (Ticked.Full size count) = IsStopped sink Status.Full old new status

-- ---- counts of faults, and completeness, by the status

-- the keeper's count rose with status 6, and with any other it is as it was
pub record CountsStore (status before now : ℕ) : Type 0 where
  pub failed : status ≡ 6 → Rose before now
  pub calm : (status ≡ 6 → ⊥) → now ≡ before

-- the output's count rose with status 5, and with status 0 it is as it was
pub record CountsOutput (status before now : ℕ) : Type 0 where
  pub failed : status ≡ 5 → Rose before now
  pub calm : status ≡ 0 → now ≡ before

-- only the limit and want of memory keep the report from its end
abbrev pub IsComplete : ℕ → Type 0
IsComplete status = (status ≡ 0) ⊎ ((status ≡ 8) ⊎ (status ≡ 9))

-- ---- a report that is asked of a room

module _ {K C : Type 0} (keeper : KeeperMeaning K) (clock : ClockMeaning C) where
  -- a tick at one reading of the clock, of a room that stood for any of these books
  pub record IsRelease (old new : Room K) (c c' : C) : Type 0 where
    pub now : ℕ
    pub read : clock.tells c → clock.tells c' × Gave (clock.ahead c) (now ∷ []) (clock.ahead c')
    -- what the tick was answered, and what it kept
    pub ticked : Ticked
    pub more : List Entry
    pub happens : (b : Book) → Stands keeper old b → Happens keeper old new b more call.Ticked now (said_tick ticked) (TickStep (numbers keeper old new) b now more ticked)

module _ {K C O : Type 0} (keeper : KeeperMeaning K) (clock : ClockMeaning C) (sink : SinkMeaning O) where
  -- a tick, and then the report on the list that it left
  pub record IsReport (report : History → Bytes) (old new : Room K) (c c' : C) (o o' : O) (status : ℕ) : Type 0 where
    pub release : IsRelease keeper clock old new c c'
    pub reported : (b : Book) → Stands keeper old b → IsReported sink (report ((onto release.more b).list)) o o' status release.ticked
    pub store_faults : CountsStore status (keeper.faults old.keeper) (keeper.faults new.keeper)
    pub output_faults : CountsOutput status (sink.faults o) (sink.faults o')
    -- where neither of them failed
    pub complete : (Rose (keeper.faults old.keeper) (keeper.faults new.keeper) → ⊥) → (Rose (sink.faults o) (sink.faults o') → ⊥) → IsComplete status
