-- A list of events, and what it comes to: appends that fail, stops, an embargo, frames that come twice.
use Rattle.std.specs.Prelude.{ℕ, List, [], ◌∷◌, map, reverse, codes, true, Option, Some, None}
use Rattle.news_types.specs.declared.command.Command.{Command}
use Rattle.news_types.specs.declared.command.Command.TheVariants.{AddDesk, SetMember, AddSubscriber, Create, Lock, Publish, Flash}
use Rattle.news_types.specs.declared.words.Media.TheVariants.{Text}
use Rattle.news_types.specs.declared.words.Format.TheVariants.{Ninjs}
use Rattle.news_types.specs.declared.story.Story.{Story}
use Rattle.news_types.specs.Names.{Bytes}
use Rattle.news_types.specs.Users.{admin}
use Rattle.news_types.specs.Outcome.{Done, Repeat}
use Rattle.news_types.specs.Frames.{Frame, Writer}
use Rattle.news_types.specs.Calls.{Answer, Replied, Job, Idle, Full, Fault, Fate, IsKept, IsFull, IsFailed}
use Rattle.world_laws.specs.World.{World, Event, Requests, Claims, Sends, FrameComes, ReceiptComes, Reopens, ReceiverReopens, after, happens}

-- a writer that sends the headline alone
abbrev pub headlines : Writer
headlines = λ format p. p.story.headline

abbrev pub story : Bytes → Story
story headline = record { kind = Text; urgency = 3; slugline = []; headline = headline; byline = []; language = []; category = []; body = []; html = true; copyright = [] }

abbrev pub fire : Bytes
fire = codes "Fire"

abbrev pub goal : Bytes
goal = codes "Goal"

abbrev pub alpha : Bytes
alpha = codes "alpha"

abbrev pub city : Bytes
city = codes "city"

abbrev pub session : Bytes
session = codes "s"

-- the administrator's request at 1000
abbrev pub asks : ℕ → Command → Fate → Event
asks number command fate = Requests admin number command 1000 fate

-- subscriber alpha has one story with an embargo until 2000, as entry 6
abbrev pub morning : List Event
morning =
    asks 1 (AddDesk city) IsKept ∷
    asks 2 (SetMember city admin true) IsKept ∷
    asks 3 (AddSubscriber alpha Ninjs (codes "all" ∷ []) 0) IsKept ∷
    asks 4 (Create city (story fire)) IsKept ∷
    asks 5 (Lock 1 session) IsKept ∷
    asks 6 (Publish 1 session None (Some 2000) []) IsKept ∷ []

abbrev pub day : List Event
day =
    asks 1 (AddDesk city) IsKept ∷
    asks 2 (SetMember city admin true) IsKept ∷
    asks 3 (AddSubscriber alpha Ninjs (codes "all" ∷ []) 0) IsKept ∷
    asks 4 (Create city (story fire)) IsKept ∷
    asks 5 (Lock 1 session) IsKept ∷
    asks 6 (Publish 1 session None (Some 2000) []) IsKept ∷
    -- a flash whose append fails, which a stop finds all the same: asked again it is a repeat
    asks 7 (Flash (story goal) []) IsFailed ∷
    Reopens (Some 0) ∷
    asks 7 (Flash (story goal) []) IsKept ∷
    -- its frame is claimed and sent; the receiver fails to keep it, and finds it at its own stop
    Claims (alpha ∷ []) 1500 IsKept IsKept ∷
    Sends alpha 1 ∷
    FrameComes 0 alpha IsFailed ∷
    ReceiverReopens alpha (Some 0) ∷
    -- the frame comes again: its receipt goes out, and is kept
    FrameComes 0 alpha IsKept ∷
    ReceiptComes 0 1500 IsKept ∷
    -- the embargo is not over; then the tick's entry is kept and the attempt is refused as full; then it is kept
    Claims (alpha ∷ []) 1999 IsKept IsKept ∷
    Claims (alpha ∷ []) 2000 IsKept IsFull ∷
    Claims (alpha ∷ []) 2000 IsKept IsKept ∷
    -- both frames come, the newer one first
    Sends alpha 2 ∷
    FrameComes 0 alpha IsKept ∷
    FrameComes 1 alpha IsKept ∷
    Reopens None ∷
    ReceiptComes 0 2000 IsKept ∷ []

abbrev pub evening : World
evening = after (happens headlines) day

-- the answers in the order in which they were given
abbrev pub answers_of : World → List Answer
answers_of w = reverse (map (λ g. g.answer) w.out)

abbrev pub contents : List Frame → List Bytes
contents frames = map (λ f. f.payload) frames

abbrev pub done : ℕ → ℕ → ℕ → ℕ → Answer
done entry item publication release = Replied (Done (record { entry = entry; item = item; publication = publication; release = release }))

abbrev pub frame_of : ℕ → Bytes → Option Frame
frame_of k payload = Some (record { to = alpha; k = k; payload = payload })

abbrev pub day_answers : List Answer
day_answers =
    done 1 0 0 0 ∷ done 2 0 0 0 ∷ done 3 0 0 0 ∷ done 4 1 0 0 ∷ done 5 1 0 0 ∷ done 6 1 1 2000 ∷
    Fault ∷
    Replied (Repeat (record { entry = 7; item = 2; publication = 2; release = 1000 })) ∷
    Job alpha 1 (frame_of 1 goal) 8 ∷
    done 9 0 0 0 ∷
    Idle (Some 2000) ∷
    Full ∷
    Job alpha 2 (frame_of 2 fire) 11 ∷
    done 12 0 0 0 ∷ []
