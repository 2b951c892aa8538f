-- What `drain` does: push after push, link after link. Lists of pushes and of drains have their newest first.
use Rattle.std.specs.Prelude.{◌≡◌, ◌⊎◌, ◌<◌, ◌≤◌, ℕ, Bool, true, false, ◌||◌, List, [], ◌∷◌, ◌++◌, length, slice_get, slice_set, Some, None}
use Rattle.news_types.specs.declared.entry.Entry.{Entry}
use Rattle.news_types.specs.Names.{Bytes}
use Rattle.news_types.specs.Members.{Each}
use Rattle.news_types.specs.History.{History, moment_at}
use Rattle.news_types.specs.Frames.{Writer, frame_at, frame_bytes}
use Rattle.news_types.specs.Outcome.{Done, Denied}
use Rattle.news_types.specs.Calls.{Answer, Job, Idle, Full, Fault, Memory, Replied as Replies, Receipted as Brought, Fate, IsKept, ticked}
use Rattle.news_types.specs.Server.{Server, called, claimed as claims, call_answer, claim_answer}
use Rattle.news_io.specs.Faults.{Rose}
use Rattle.news_io.specs.Sink.{AreFirst}
use Rattle.news_io.specs.Link.{Passed, Sent, Said, Nothing, Goes}
use Rattle.news_io.specs.Outside.{Meanings, Outside, store_faults}
use Rattle.run_status.specs.Output.{Told}
use Rattle.run_status.specs.Status.{number_of, line_of as status_line}
use Rattle.run_status.specs.declared.status.Status.{Status}
use Rattle.run_status.specs.declared.status.Status.TheVariants as status
use Rattle.feed_reports.specs.declared.attempts.Attempted.{Attempted}
use Rattle.feed_reports.specs.declared.attempts.Attempted.TheVariants as how
use Rattle.publish_workers.specs.Receipts.{Acknowledges}
use Rattle.world_laws.specs.World.{World, Event, Claims, Sends, Forges, run}
use Rattle.program_run.specs.Opens.{size_of}
use Rattle.program_run.specs.Formats.{Formats}
use Rattle.program_run.specs.Members.{LIMIT, Reads}

-- What became of a frame on its way to the subscriber and back: the link failed before it was sent, or behind that; the
-- reply is no receipt for it; or it is one for so many entries, which was brought to the newsroom at a reading, and this
-- became of its entry.
pub data Exchange : Type 0 where
  Unsent : Exchange
  Unread : Exchange
  NoReceipt : Bytes → Exchange
  Receipted : Bytes → ℕ → ℕ → Fate → Exchange

-- a claim at a reading over a link to these subscribers, and what became of its tick's entry, of its attempt, and of the
-- frame
pub record Push : Type 0 where
  pub names : List Bytes
  pub reading : ℕ
  pub tick : Fate
  pub attempt : Fate
  pub exchange : Exchange

-- ---- as events

abbrev pub sending : Bytes → ℕ → Exchange → List Event
sending s k Unsent = []
sending s k Unread = Sends s k ∷ []
sending s k (NoReceipt reply) = Sends s k ∷ []
sending s k (Receipted reply n at fate) = Sends s k ∷ Forges s n at fate ∷ []

abbrev pub sends : Answer → Exchange → List Event
sends (Job s k frame n) exchange = sending s k exchange
sends a exchange = []

module _ (write : Writer) where
  -- what the claim is answered in a world, and the world behind the claim
  abbrev pub claimed : World → Push → Answer
  claimed w p = claim_answer write w.server p.names p.reading p.tick p.attempt

  abbrev pub claim : World → Push → World
  claim w p = run write (Claims p.names p.reading p.tick p.attempt ∷ []) w

  -- the claim, the sending of the frame, and the arrival of the receipt: as far as the newsroom can know, no receiver
  -- sent it
  abbrev pub push_events : World → Push → List Event
  push_events w p = Claims p.names p.reading p.tick p.attempt ∷ sends (claimed w p) p.exchange

  abbrev pub all_events : World → List Push → List Event
  all_events w [] = []
  all_events w (p ∷ ps) = all_events w ps ++ push_events (run write (all_events w ps) w) p

  -- the world behind all of them
  abbrev pub behind : World → List Push → World
  behind w ps = run write (all_events w ps) w

-- the readings of the clock, in order
abbrev pub receipt_reading : Exchange → List ℕ
receipt_reading Unsent = []
receipt_reading Unread = []
receipt_reading (NoReceipt reply) = []
receipt_reading (Receipted reply n at fate) = at ∷ []

abbrev pub all_readings : List Push → List ℕ
all_readings [] = []
all_readings (p ∷ ps) = all_readings ps ++ p.reading ∷ receipt_reading p.exchange

-- ---- what is a push

-- Of a call on the first list that left the second, and would have left the third had all been kept: what was kept is
-- within the limit; the next entry is refused as full only where it would pass the limit, and the store fails only at one
-- that fits.
abbrev pub IsWithin : History → History → History → Answer → Type 0
IsWithin h g whole Full = (e : Entry) × (rest : List Entry) × (whole ≡ rest ++ e ∷ g) × (LIMIT < size_of (e ∷ g))
IsWithin h g whole Fault = (e : Entry) × (rest : List Entry) × (whole ≡ rest ++ e ∷ g) × (size_of (e ∷ g) ≤ LIMIT)
IsWithin h g whole a = (g ≡ h) ⊎ (size_of g ≤ LIMIT)

-- a reply counts as no receipt exactly where it acknowledges entry k with no number up to the feed's length
abbrev pub IsReceipt : History → Bytes → ℕ → Bytes → ℕ → Answer → Type 0
IsReceipt g s k reply n (Replies (Done done)) = Acknowledges g s k n reply
IsReceipt g s k reply n (Replies (Denied denial)) = (j : ℕ) → Acknowledges g s k j reply → ⊥
IsReceipt g s k reply n Full = Acknowledges g s k n reply
IsReceipt g s k reply n Fault = Acknowledges g s k n reply
IsReceipt g s k reply n a = ⊥

module _ (write : Writer) where
  -- a receipt for n entries, by what becomes of its entry: the server behind it, and its answer
  abbrev pub received : Server → Bytes → ℕ → ℕ → Fate → Server
  received c s n at fate = called c (Brought s n) at fate

  abbrev pub receipt_answer : Server → Bytes → ℕ → ℕ → Fate → Answer
  receipt_answer c s n at fate = call_answer write c (Brought s n) at fate

  -- the exchange for entry k of a feed, behind its claim
  abbrev pub IsExchange : Server → Bytes → ℕ → Exchange → Type 0
  IsExchange c s k Unsent = Unit {0}
  IsExchange c s k Unread = Unit {0}
  IsExchange c s k (NoReceipt reply) = (j : ℕ) → Acknowledges c.list s k j reply → ⊥
  IsExchange c s k (Receipted reply n at fate) =
      IsReceipt c.list s k reply n (receipt_answer c s n at fate)
      × IsWithin c.list (received c s n at fate).list (received c s n at IsKept).list (receipt_answer c s n at fate)

  -- By the claim's answer, from a list to the server behind the claim: the frame that is sent is the one that was claimed,
  -- and without one there is no exchange; want of memory leaves what the tick kept.
  abbrev pub IsExchangeOf : History → Server → Push → Answer → Type 0
  IsExchangeOf h c p (Job s k (Some frame) n) = (frame_at write c.list s k ≡ Some frame) × IsExchange c s k p.exchange
  IsExchangeOf h c p (Job s k None n) = ⊥
  IsExchangeOf h c p Memory = (p.exchange ≡ Unsent) × (c.list ≡ ticked h (moment_at h p.reading))
  IsExchangeOf h c p a = p.exchange ≡ Unsent

  -- the list behind a claim of which all was kept
  abbrev pub whole_claim : World → Push → History
  whole_claim w p = (claims w.server p.names p.reading IsKept IsKept).list

  pub record IsPush (w : World) (p : Push) : Type 0 where
    pub within : IsWithin w.server.list (claim write w p).server.list (whole_claim w p) (claimed write w p)
    pub exchanged : IsExchangeOf w.server.list (claim write w p).server p (claimed write w p)

  abbrev pub ArePushes : World → List Push → Type 0
  ArePushes w [] = Unit {0}
  ArePushes w (p ∷ ps) = ArePushes w ps × IsPush (behind write w ps) p

-- ---- how it comes out

-- the attempt on an entry of a feed came out so; or the drain ends there
pub data Came : Type 0 where
  Tried : Bytes → ℕ → Attempted → Came
  Ended : Status → Came

abbrev pub ended_by : Answer → Came
ended_by (Idle next) = Ended status.Done
ended_by Full = Ended status.Full
ended_by Fault = Ended status.Store
ended_by a = Ended status.Memory

abbrev pub came_of_receipt : Bytes → ℕ → Answer → Came
came_of_receipt s k (Replies (Done reply)) = Tried s k how.Delivered
came_of_receipt s k (Replies (Denied denial)) = Tried s k how.NoReceipt
came_of_receipt s k a = ended_by a

abbrev pub is_tried : Came → Bool
is_tried (Tried s k h) = true
is_tried (Ended why) = false

-- the link failed, or the reply was no receipt
abbrev pub is_lost : Came → Bool
is_lost (Tried s k how.LinkFault) = true
is_lost came = false

abbrev pub is_refused : Came → Bool
is_refused (Tried s k how.NoReceipt) = true
is_refused came = false

-- ---- how it is told

abbrev pub came_line : (Bytes → ℕ → Attempted → Bytes) → Came → Bytes
came_line line (Tried s k h) = line s k h
came_line line (Ended why) = []

-- ---- what passes over the link

abbrev pub passed_with : Bytes → Bytes → Exchange → List Passed
passed_with s frame Unsent = Nothing ∷ []
passed_with s frame Unread = Sent s frame ∷ Nothing ∷ []
passed_with s frame (NoReceipt reply) = Sent s frame ∷ Said s reply ∷ []
passed_with s frame (Receipted reply n at fate) = Sent s frame ∷ Said s reply ∷ []

-- without a frame there is no call
abbrev pub passed_by : Answer → Exchange → List Passed
passed_by (Job s k (Some frame) n) exchange = passed_with s (frame_bytes frame) exchange
passed_by a exchange = []

-- ---- by the world

module _ (write : Writer) where
  abbrev pub came_of : Server → Bytes → ℕ → Exchange → Came
  came_of c s k Unsent = Tried s k how.LinkFault
  came_of c s k Unread = Tried s k how.LinkFault
  came_of c s k (NoReceipt reply) = Tried s k how.NoReceipt
  came_of c s k (Receipted reply n at fate) = came_of_receipt s k (call_answer write c (Brought s n) at fate)

  abbrev pub came_by : Server → Answer → Exchange → Came
  came_by c (Job s k frame n) exchange = came_of c s k exchange
  came_by c a exchange = ended_by a

  abbrev pub came_in : World → Push → Came
  came_in w p = came_by (claim write w p).server (claimed write w p) p.exchange

  -- so it did at one of these pushes; so it did at each
  abbrev pub some_in : (Came → Bool) → World → List Push → Bool
  some_in test w [] = false
  some_in test w (p ∷ ps) = some_in test w ps || test (came_in (behind write w ps) p)

  abbrev pub AllTried : World → List Push → Type 0
  AllTried w [] = Unit {0}
  AllTried w (p ∷ ps) = AllTried w ps × (is_tried (came_in (behind write w ps) p) ≡ true)

  abbrev pub all_passed : World → List Push → List Passed
  all_passed w [] = []
  all_passed w (p ∷ ps) = all_passed w ps ++ passed_by (claimed write (behind write w ps) p) p.exchange

  -- the lines of the attempts but the newest, and its line
  module _ (line : Bytes → ℕ → Attempted → Bytes) where
    abbrev pub all_lines : World → List Push → Bytes
    all_lines w [] = []
    all_lines w (p ∷ ps) = all_lines w ps ++ came_line line (came_in (behind write w ps) p)

    abbrev pub first_lines : World → List Push → Bytes
    first_lines w [] = []
    first_lines w (p ∷ ps) = all_lines w ps

    abbrev pub last_line : World → List Push → Bytes
    last_line w [] = []
    last_line w (p ∷ ps) = came_line line (came_in (behind write w ps) p)

-- the frames that a link was sent, and the replies that it gave, each with its subscriber
abbrev pub sent_in : List Passed → List (Bytes × Bytes)
sent_in [] = []
sent_in (Sent s frame ∷ ps) = (s, frame) ∷ sent_in ps
sent_in (Said s reply ∷ ps) = sent_in ps
sent_in (Nothing ∷ ps) = sent_in ps

abbrev pub said_in : List Passed → List (Bytes × Bytes)
said_in [] = []
said_in (Sent s frame ∷ ps) = said_in ps
said_in (Said s reply ∷ ps) = (s, reply) ∷ said_in ps
said_in (Nothing ∷ ps) = said_in ps

-- ---- drains

-- of one link: its last push and those before it, and why it ended
pub record Drain : Type 0 where
  pub last : Push
  pub others : List Push
  pub why : Status

abbrev pub of_drain : Drain → List Push
of_drain d = d.last ∷ d.others

abbrev pub pushes : List Drain → List Push
pushes [] = []
pushes (d ∷ ds) = of_drain d ++ pushes ds

-- an attempt ends a drain only where the output did not take its line, or there was no memory for it
abbrev pub Ends : Came → Status → Type 0
Ends (Tried s k h) why = (why ≡ status.Output) ⊎ (why ≡ status.Memory)
Ends (Ended how) why = why ≡ how

-- why the last one ended
abbrev pub ended : List Drain → Status
ended [] = status.Done
ended (d ∷ ds) = d.why

-- a count rose where something failed, and else it is as it was
abbrev pub Counts : Bool → ℕ → ℕ → Type 0
Counts true before now = Rose before now
Counts false before now = now ≡ before

-- those of the store and of the output
abbrev pub Causes : ℕ → ℕ → ℕ → ℕ → Status → Type 0
Causes k k' o o' status.Store = Rose k k' × (o' ≡ o)
Causes k k' o o' status.Output = (k' ≡ k) × Rose o o'
Causes k k' o o' why = (k' ≡ k) × (o' ≡ o)

-- the status: where none is ready on any link, a failed link before a reply that is no receipt
abbrev pub told_as : Status → Bool → Bool → Status
told_as status.Done true refused = status.Link
told_as status.Done false true = status.NoReceipt
told_as why lost refused = why

module _ {D S O C L : Type 0} (f : Formats) (m : Meanings D S O C L) (before after : Outside D S O C L) where
  module _ (number : ℕ) (write : Writer) (w : World) where
    -- the drain of a link, from a world on: each push but the last made an attempt
    pub record LinkDrained (link link' : L) (at : World) (d : Drain) : Type 0 where
      pub names : Each (λ (p : Push). p.names ≡ m.link.serves link) (of_drain d)
      pub are : ArePushes write at (of_drain d)
      pub tried : AllTried write at d.others
      pub ends : Ends (came_in write (behind write at d.others) d.last) d.why
      pub told : m.link.tells link → m.link.tells link'
      pub goes : m.link.tells link → Goes m.link link link' (all_passed write at (of_drain d))
      pub sent : m.link.tells link → m.link.sent link' ≡ m.link.sent link ++ sent_in (all_passed write at (of_drain d))
      pub said : m.link.tells link → m.link.said link' ≡ m.link.said link ++ said_in (all_passed write at (of_drain d))
      pub serves : m.link.serves link' ≡ m.link.serves link
      -- where none is ready, the count rose if the link failed, and else it is as it was
      pub faults : d.why ≡ status.Done
          → Counts (some_in write is_lost at (of_drain d)) (m.link.faults link) (m.link.faults link')

    -- each is of the next of the links as it was, and leaves the others as they are; each but the last found none of its
    -- feeds ready
    abbrev pub LinksDrained : List L → List Drain → Type 0
    LinksDrained links [] = links ≡ before.links
    LinksDrained links (d ∷ ds) =
        (then : List L) × (link : L) × (link' : L) × LinksDrained then ds
        × Each (λ (e : Drain). e.why ≡ status.Done) ds
        × (slice_get before.links (length ds) ≡ Some link)
        × LinkDrained link link' (behind write w (pushes ds)) d
        × (links ≡ slice_set then (length ds) link')

    -- an output that tells took the lines of the attempts; of the newest all or the first bytes
    pub record Printed (mid : O) (ps : List Push) : Type 0 where
      pub told : m.sink.tells mid
      pub front : Bytes
      pub first : AreFirst front (last_line write f.attempt_line w ps)
      pub taken : m.sink.taken mid ≡ m.sink.taken before.output ++ (first_lines write f.attempt_line w ps ++ front)

    -- the link failed at one of the pushes, or a reply was no receipt
    abbrev pub some_lost : List Drain → Bool
    some_lost ds = some_in write is_lost w (pushes ds)

    abbrev pub some_refused : List Drain → Bool
    some_refused ds = some_in write is_refused w (pushes ds)

    -- the links were drained, one after another, until one ended otherwise than with none ready
    pub record Pushed (events : List Event) : Type 0 where
      pub drains : List Drain
      pub links : LinksDrained after.links drains
      pub all : ended drains ≡ status.Done → length drains ≡ length before.links
      pub events_are : events ≡ all_events write w (pushes drains)
      pub reads : Reads m.clock before.clock after.clock (all_readings (pushes drains))
      -- the output before the status's line
      pub mid : O
      pub printed : m.sink.tells before.output → Printed mid (pushes drains)
      pub causes : Causes (store_faults m before) (store_faults m after) (m.sink.faults before.output) (m.sink.faults mid)
          (ended drains)
      pub why : Status
      pub why_is : why ≡ told_as (ended drains) (some_lost drains) (some_refused drains)
      pub number_is : number ≡ number_of why
      pub line : Told m.sink mid after.output (status_line why)
      pub input : after.input ≡ before.input
