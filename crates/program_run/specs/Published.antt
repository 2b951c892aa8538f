-- What `package` does: a package is a tick, and behind it a flash to those who have every member, at one reading of the
-- clock.
use Rattle.std.specs.Prelude.{◌≡◌, ◌⊎◌, ℕ, ◌+◌, Bool, false, not, ◌==◌, List, [], ◌∷◌, length, take, filter, find, reverse, Option, Some, None, Ok, Err}
use Rattle.std.specs.List.{list_all}
use Rattle.news_types.specs.declared.entry.Entry.{Entry}
use Rattle.news_types.specs.declared.entry.Act.TheVariants.{Request}
use Rattle.news_types.specs.declared.entry.Reply.{Reply}
use Rattle.news_types.specs.declared.command.Command.{Command}
use Rattle.news_types.specs.declared.command.Command.TheVariants.{Flash}
use Rattle.news_types.specs.Names.{Bytes}
use Rattle.news_types.specs.History.{History}
use Rattle.news_types.specs.Frames.{Writer}
use Rattle.news_types.specs.Products.{subscribers}
use Rattle.news_types.specs.Due.{takes_back}
use Rattle.news_types.specs.Publications.{pubs}
use Rattle.news_types.specs.Feeds.{Dispatch, feed}
use Rattle.news_types.specs.Answers.{in_order}
use Rattle.news_types.specs.Outcome.{Done}
use Rattle.news_types.specs.Calls.{Answer, Replied, Full, Fault, Memory, Requested, Fate, IsKept, IsFull, IsFailed}
use Rattle.news_types.specs.Server.{call_answer}
use Rattle.news_io.specs.Faults.{Rose}
use Rattle.news_io.specs.Outside.{Meanings, Outside, store_faults}
use Rattle.run_status.specs.declared.status.Status.TheVariants as status
use Rattle.world_laws.specs.World.{World, Event, Requests, Ticks, run}
use Rattle.package_members.specs.declared.member.Member.{Member}
use Rattle.program_run.specs.Members.{Reads, LIMIT, limit_of, LONGEST_INPUT, Fits, Fares, AnswersAll}
use Rattle.program_run.specs.Formats.{Package, Formats}
use Rattle.program_run.specs.Left.{GoesOn}
use Rattle.program_run.specs.Refused.{NotOpened}
use Rattle.program_run.specs.Reported.{IsStopped, IsCalm, Answers}
use Rattle.program_run.specs.Whole.{IsReadWhole, IsNotRead}

-- a byte more than an object may have: what follows in an input changes nothing
abbrev pub ENOUGH : ℕ
ENOUGH = 4194305

-- ---- readers

-- the last entry of a feed that is of the item
abbrev pub last_of : ℕ → List Dispatch → Option Dispatch
last_of i ds = find (λ (d : Dispatch). d.shown.item == i) (reverse ds)

-- it is there, and is no kill or recall
abbrev pub is_left : Option Dispatch → Bool
is_left None = false
is_left (Some d) = not (takes_back d.shown.kind)

-- the feed of the subscriber has every member
abbrev pub has_all : History → List Member → Bytes → Bool
has_all h members s = list_all (λ (m : Member). is_left (last_of m.item (feed h s))) members

-- those whose feed has every member, in byte order
abbrev pub readers : History → List Member → List Bytes
readers h members = filter (has_all h members) (in_order (subscribers h))

abbrev pub flash_of : Package → History → Command
flash_of p h = Flash p.story (readers h p.members)

-- ---- a package in a world

module _ {D S O C L : Type 0} (f : Formats) (m : Meanings D S O C L) (before after : Outside D S O C L)
    (number : ℕ) (caller : Bytes) (request : ℕ) where
  module _ (write : Writer) (w : World) (p : Package) (at : ℕ) (events : List Event) where
    -- the world behind the tick, and its list
    abbrev pub ticked : World
    ticked = run write (Ticks at IsKept ∷ []) w

    abbrev pub list_ticked : History
    list_ticked = ticked.server.list

    abbrev pub ticks : Fate → List Event
    ticks fate = Ticks at fate ∷ []

    -- the flash to those who have every member then
    abbrev pub flashes : Fate → List Event
    flashes fate = Requests caller request (flash_of p list_ticked) at fate ∷ []

    -- the entry of the tick was not kept, which is told, and nothing was asked behind it
    abbrev pub ToldUnticked : Fate → Type 0
    ToldUnticked IsFailed =
        IsStopped m before after number status.Store × Rose (store_faults m before) (store_faults m after)
    ToldUnticked IsFull = IsStopped m before after number status.Full × IsCalm m before after
    ToldUnticked fate = ⊥

    pub record HasNotTicked : Type 0 where
      pub fate : Fate
      pub events_are : events ≡ ticks fate
      pub fares : Fares (λ e. LIMIT) write w ticks fate
      pub told : ToldUnticked fate

    -- nobody has every member, or there was no memory: nothing was asked behind the tick
    pub record HasAskedNothing : Type 0 where
      pub events_are : events ≡ ticks IsKept
      pub fits : Fits (λ e. LIMIT) write w ticks
      pub told : ((readers list_ticked p.members ≡ [])
          × Answers m before after number (f.no_readers_line (length list_ticked)))
          ⊎ IsStopped m before after number status.Memory
      pub calm : IsCalm m before after

    -- it is published, with this reply: its entry is the flash, and its number the next one
    pub record IsPublished (reply : Reply) : Type 0 where
      pub entry : Entry
      pub list : (run write events w).server.list ≡ entry ∷ list_ticked
      pub act : entry.act ≡ Request caller request (flash_of p list_ticked)
      pub number_is : reply.publication ≡ length (pubs list_ticked) + 1

    abbrev pub IsDone : Answer → Type 0
    IsDone (Replied (Done reply)) = IsPublished reply
    IsDone answer = Unit {0}

    -- by what the world answers
    abbrev pub ToldFlash : Answer → Type 0
    ToldFlash (Replied answered) = Answers m before after number (f.answer_line answered) × IsCalm m before after
    ToldFlash Full = IsStopped m before after number status.Full × IsCalm m before after
    ToldFlash Fault = IsStopped m before after number status.Store × Rose (store_faults m before) (store_faults m after)
    ToldFlash Memory = IsStopped m before after number status.Memory × IsCalm m before after
    ToldFlash answer = ⊥

    -- the flash was asked, and the world's answer to it was told
    pub record HasAskedFlash : Type 0 where
      pub fate : Fate
      pub events_are : events ≡ Ticks at IsKept ∷ flashes fate
      pub some : readers list_ticked p.members ≡ [] → ⊥
      pub fits : Fits (λ e. LIMIT) write w ticks
      pub fares : Fares (λ e. limit_of e.act) write ticked flashes fate
      pub told : ToldFlash (call_answer write ticked.server (Requested caller request (flash_of p list_ticked)) at fate)
      pub done : IsDone (call_answer write ticked.server (Requested caller request (flash_of p list_ticked)) at fate)

  -- the input was read to its end, and describes a package, which was published at one reading of the clock
  pub record HasPublished (write : Writer) (w : World) (events : List Event) : Type 0 where
    pub object : List ℕ
    pub read : IsReadWhole m before after number LONGEST_INPUT object
    pub made : Package
    pub described : f.package_of (take ENOUGH object) ≡ Ok made
    pub at : ℕ
    pub reads : Reads m.clock before.clock after.clock (at ∷ [])
    pub did : HasNotTicked write w made at events
        ⊎ (HasAskedNothing write w made at events ⊎ HasAskedFlash write w made at events)

  -- it describes none, or there was no memory to say: nothing was asked
  pub record HasBadObject (events : List Event) : Type 0 where
    pub object : List ℕ
    pub read : IsReadWhole m before after number LONGEST_INPUT object
    pub told : ((text : Bytes) × (f.package_of (take ENOUGH object) ≡ Err text) × Answers m before after number text)
        ⊎ IsStopped m before after number status.Memory
    pub none : events ≡ []
    pub calm : IsCalm m before after
    pub clock : after.clock ≡ before.clock

  abbrev pub IsPackage : Writer → World → List Event → Type 0
  IsPackage write w events = HasPublished write w events
      ⊎ (HasBadObject events ⊎ IsNotRead m before after number LONGEST_INPUT events)

  -- the package of the input is published, as this caller's request of this number
  abbrev pub Published : Type 0
  Published = NotOpened f.finders m before after number
      ⊎ (GoesOn m before after number IsPackage × AnswersAll m before after number)
