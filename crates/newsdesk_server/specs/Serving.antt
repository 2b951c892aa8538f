-- What a server came to.
use Rattle.std.specs.Prelude.{◌≡◌, ◌⊎◌, ◌<◌, ◌+◌, ℕ, true, List, [], ◌∷◌, All, length, map}
use Rattle.news_types.specs.declared.entry.Entry.{Entry}
use Rattle.news_types.specs.History.{History, is_stop}
use Rattle.news_types.specs.Books.{Book, followed_by, onto}
use Rattle.news_io.specs.Clock.{ClockMeaning}
use Rattle.news_io.specs.Keeper.{KeeperMeaning}
use Rattle.news_io.specs.Link.{LinkMeaning}
use Rattle.news_io.specs.Sink.{SinkMeaning}
use Rattle.news_room.specs.Stands.{Stands}
use Rattle.publish_workers.specs.Links.{CountsFaults}
use Rattle.run_status.specs.Output.{Told}
use Rattle.run_status.specs.Status.{line_of}
use Rattle.server_doors.specs.Doors.{DoorMeaning}
use Rattle.server_roles.specs.Conns.{is_door_fault}
use Rattle.server_roles.specs.Ends.{Roles}
use Rattle.server_roles.specs.declared.first.Ending.{Ending}
use Rattle.server_roles.specs.declared.job.Job.{Job}
use Rattle.newsdesk_server.specs.Ready.{IsHeld}
use Rattle.newsdesk_server.specs.Summary.{summary_at, status_of, IsPrinted}
use Rattle.newsdesk_server.specs.Workers.{IsNew, clock_of, link_of}
use Rattle.newsdesk_server.specs.declared.setup.Setup.{Setup}
use Rattle.newsdesk_server.specs.declared.setup.Served.{Served}

-- the entry at this place of the list is a stop or a halt
pub record IsStopAt (h : History) (place : ℕ) : Type 0 where
  pub before : History
  pub stop : Entry
  pub later : List Entry
  pub list : h ≡ followed_by later (stop ∷ before)
  pub place_is : place ≡ length before + 1
  pub stops : is_stop stop.act ≡ true

-- the stop with which the roles ended stands in the list, behind its first entries, so many
abbrev pub HasStop : ℕ → History → Ending → Type 0
HasStop base h (Ending.Stopped place) = (base < place) × IsStopAt h place
HasStop base h Ending.DoorFault = Unit {0}

module _ {K C G L : Type 0} (keeper : KeeperMeaning K) (clock : ClockMeaning C) (door : DoorMeaning G) (link : LinkMeaning L) (given : Setup K C G L) (served : Served K G L) where
  -- All roles ran from the room's list on: the first with the door and the first clock, and the workers with the links and the other clocks, in their order.
  pub record Ran (ending : Ending) (more : List Entry) : Type 0 where
    pub base : ℕ
    pub base_is : (b : Book) → Stands keeper given.room b → base ≡ length b.list
    pub first_clock : C
    pub workers : List (Job C L)
    pub clocks_are : given.clocks.items ≡ first_clock ∷ map clock_of workers
    pub links_are : given.links.items ≡ map link_of workers
    pub new_workers : All IsNew workers
    pub roles : Roles door clock link base (Stands keeper given.room) given.door served.door first_clock [] [] workers [] served.links.items ending more
    pub door_faults : CountsFaults (is_door_fault ending) (door.faults given.door) (door.faults served.door)
    pub stop : (b : Book) → Stands keeper given.room b → HasStop base (onto more b).list ending

  module _ {O : Type 0} (sink : SinkMeaning O) (old new : O) where
    -- it ran, and the summary that it printed is that of the list for which the room then stands
    pub record HasRun : Type 0 where
      pub ending : Ending
      pub more : List Entry
      pub stands : (b : Book) → Stands keeper given.room b → Stands keeper served.room (onto more b)
      pub ran : Ran ending more
      pub printed : (b : Book) → Stands keeper given.room b → IsPrinted sink (summary_at (onto more b).list) (status_of ending) old new served.status

    -- it did not begin, and that was told
    pub record HasNotBegun : Type 0 where
      pub held : IsHeld keeper given served
      pub line : Told sink old new (line_of served.status)

    abbrev pub Serves : Type 0
    Serves = HasRun ⊎ HasNotBegun
