-- What is pushed to the subscribers as events of the world. Lists of turns have their newest first.
use Rattle.std.specs.Prelude.{◌≡◌, List, [], ◌∷◌, ◌++◌, length, slice_get, Some}
use Rattle.news_types.specs.declared.entry.Entry.{Entry}
use Rattle.news_types.specs.Names.{Bytes}
use Rattle.news_types.specs.History.{History}
use Rattle.news_types.specs.Frames.{Writer}
use Rattle.news_types.specs.Calls.{Fate}
use Rattle.news_types.specs.Server.{claim_answer}
use Rattle.news_room.specs.Claims.{IsSaid}
use Rattle.news_room.specs.declared.claim.Claimed.{Claimed}
use Rattle.publish_workers.specs.Events.{beginning, AreSent, AnswersReceipt}
use Rattle.publish_workers.specs.LinkDrains.{LinkDrain}
use Rattle.publish_workers.specs.Turns.{Exchange, Unsent, Unread, Replied, Receipted, Turn, frames_of}
use Rattle.world_laws.specs.World.{World, Event, Forges, run}
use Rattle.program_events.specs.Leads.{LeadsOn}

-- the arrival of a frame's receipt, where one was brought to the room: as far as the newsroom can know, no receiver sent it
abbrev pub arrival : Bytes → Exchange → Fate → List Event
arrival s Unsent fate = []
arrival s Unread fate = []
arrival s (Replied reply) fate = []
arrival s (Receipted reply n at kept) fate = Forges s n at fate ∷ []

abbrev pub arrivals : Claimed → Exchange → Fate → List Event
arrivals (Claimed.Job s k frame front) exchange fate = arrival s exchange fate
arrivals (Claimed.Idle next) exchange fate = []
arrivals Claimed.Fault exchange fate = []
arrivals (Claimed.Full size count) exchange fate = []
arrivals Claimed.Memory exchange fate = []

-- a turn over a link to these subscribers, and what became of its tick's entry, of its attempt and of the receipt
pub record WorldTurn : Type 0 where
  pub names : List Bytes
  pub turn : Turn
  pub first : Fate
  pub second : Fate
  pub third : Fate

-- its claim and the sending of the frame
abbrev pub begun_by : WorldTurn → List Event
begun_by t = beginning t.names t.turn t.first t.second

-- and the arrival of the receipt
abbrev pub events_in : WorldTurn → List Event
events_in t = begun_by t ++ arrivals t.turn.claimed t.turn.exchange t.third

-- the events of turns one after another
abbrev pub pushed : List WorldTurn → List Event
pushed [] = []
pushed (t ∷ ts) = pushed ts ++ events_in t

-- the claim and the receipt are answered as in the world, and the link took the frame that the world sends
pub record IsTurnIn (write : Writer) (w : World) (t : WorldTurn) : Type 0 where
  pub claimed : IsSaid t.turn.claimed (claim_answer write w.server t.names t.turn.reading t.first t.second)
  pub sent : AreSent (frames_of t.turn.claimed t.turn.exchange) w (run write (begun_by t) w)
  pub received : AnswersReceipt write (run write (begun_by t) w) t.turn.claimed t.turn.exchange t.third

-- so it is in each of these turns, from a world on
abbrev pub AreTurnsIn : Writer → World → List WorldTurn → Type 0
AreTurnsIn write w [] = Unit {0}
AreTurnsIn write w (t ∷ ts) = AreTurnsIn write w ts × IsTurnIn write (run write (pushed ts) w) t

-- these turns of a drain over a link to these subscribers, in the world
abbrev pub AreTurnsOf : List Bytes → List Turn → List WorldTurn → Type 0
AreTurnsOf names [] of_world = of_world ≡ []
AreTurnsOf names (t ∷ ts) [] = ⊥
AreTurnsOf names (t ∷ ts) (x ∷ xs) = (x.names ≡ names) × (x.turn ≡ t) × AreTurnsOf names ts xs

-- those of drains, each over a link to the next of these lists of subscribers
abbrev pub AreTurnsOfAll : List (List Bytes) → List LinkDrain → List WorldTurn → Type 0
AreTurnsOfAll served [] of_world = of_world ≡ []
AreTurnsOfAll served (d ∷ ds) of_world =
    (names : List Bytes) × (slice_get served (length ds) ≡ Some names) × (before : List WorldTurn) × (these : List WorldTurn) × AreTurnsOfAll served ds before × AreTurnsOf names (d.last ∷ d.turns) these × (of_world ≡ these ++ before)

-- drains over links to these subscribers are these events of a world: each turn is answered as in the world, and they lead to the list g
pub record DrainHappened (write : Writer) (w : World) (served : List (List Bytes)) (drains : List LinkDrain) (g : History) (D : Entry → Type 0) (events : List Event) : Type 0 where
  pub turns : List WorldTurn
  pub are : AreTurnsOfAll served drains turns
  pub events_are : events ≡ pushed turns
  pub answered : AreTurnsIn write w turns
  pub leads : LeadsOn write w g D events
