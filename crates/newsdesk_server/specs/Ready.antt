-- A server that is ready to run, or that does not begin.
use Rattle.std.specs.Prelude.{◌≡◌, ◌⊎◌, ◌≤◌, ◌<◌, ◌+◌, ℕ, List, [], ◌∷◌, All, length, map, vec_len}
use Rattle.std.specs.Vec.{vec_capacity}
use Rattle.news_types.specs.declared.entry.Entry.{Entry}
use Rattle.news_types.specs.Books.{Book, onto}
use Rattle.news_io.specs.Keeper.{KeeperMeaning}
use Rattle.news_room.specs.Stands.{Stands}
use Rattle.room_lock.specs.Locks.{id_of, start_of, base_of}
use Rattle.run_status.specs.declared.status.Status.TheVariants as status
use Rattle.newsdesk_server.specs.Workers.{IsNewPass, pass_of, clock_of, link_of}
use Rattle.newsdesk_server.specs.declared.prepare.Ready.{Ready}
use Rattle.newsdesk_server.specs.declared.prepare.Space.{Space}
use Rattle.newsdesk_server.specs.declared.setup.Setup.{Setup}
use Rattle.newsdesk_server.specs.declared.setup.Served.{Served}

-- empty vectors with room for so many workers
pub record HasRoomFor {C L : Type 0} (count : ℕ) (space : Space C L) : Type 0 where
  pub no_passes : space.passes.items ≡ []
  pub no_jobs : space.jobs.items ≡ []
  pub none_done : space.done.items ≡ []
  pub no_links : space.links.items ≡ []
  pub jobs_len : vec_len space.jobs ≡ 0
  pub links_len : vec_len space.links ≡ 0
  pub passes : count ≤ vec_capacity space.passes
  pub jobs : count ≤ vec_capacity space.jobs
  pub done : count ≤ vec_capacity space.done
  pub links : count ≤ vec_capacity space.links

module _ {K C G L : Type 0} (keeper : KeeperMeaning K) (given : Setup K C G L) where
  -- The lock is around the room, all passes are new, and each worker has a clock and a link, in order; the first clock is the first role's.
  pub record IsReady (ready : Ready K C G L) : Type 0 where
    pub small : keeper.used given.room.keeper + 14 ≤ 1073741824
    pub start : start_of ready.shared ≡ given.room
    pub base : (b : Book) → Stands keeper given.room b → base_of ready.shared ≡ length b.list
    pub pass : IsNewPass (id_of ready.shared) [] ready.pass
    pub passes : All (λ j. IsNewPass (id_of ready.shared) [] (pass_of j)) ready.server.jobs.items
    pub clocks : given.clocks.items ≡ ready.server.clock ∷ map clock_of ready.server.jobs.items
    pub links : given.links.items ≡ map link_of ready.server.jobs.items
    pub door : ready.server.door ≡ given.door
    pub none_done : ready.server.done.items ≡ []
    pub no_links : ready.server.links.items ≡ []
    pub room_done : vec_len ready.server.jobs ≤ vec_capacity ready.server.done
    pub room_links : vec_len ready.server.links + vec_len ready.server.jobs ≤ vec_capacity ready.server.links

  -- The server does not begin: its room uses too much for a stop to find a place, or there was no memory. Its door and links come back as they were, and so does the
  -- room, unless the lock was made already; then it stands for what it stood for.
  pub record IsHeld (served : Served K G L) : Type 0 where
    pub why : ((served.status ≡ status.Full) × (1073741824 < keeper.used given.room.keeper + 14) × (served.room ≡ given.room))
        ⊎ ((served.status ≡ status.Memory) × (keeper.used given.room.keeper + 14 ≤ 1073741824))
    pub door_is : served.door ≡ given.door
    pub links_are : served.links ≡ given.links
    pub more : List Entry
    pub stands : (b : Book) → Stands keeper given.room b → Stands keeper served.room (onto more b)
