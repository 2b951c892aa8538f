-- What holds of the world after every list of events.
use Rattle.std.specs.Prelude.{slice_get, ◌≡◌, ◌≤◌, ◌<◌, ◌⊎◌, ◌+◌, ℕ, List, [], ◌∷◌, length, nat_le, if◌then◌else◌, Some, IsTrue}
use Rattle.std.specs.List.{list_all}
use Rattle.news_types.specs.declared.entry.Act.TheVariants.{Advance, Attempt, Receipt, Halt, Ingest, Request}
use Rattle.news_types.specs.declared.entry.Act.{Act}
use Rattle.news_types.specs.declared.entry.Entry.{Entry}
use Rattle.news_types.specs.declared.entry.Reply.{Reply}
use Rattle.news_types.specs.declared.command.Command.{Command}
use Rattle.news_types.specs.declared.query.Query.TheVariants as question
use Rattle.news_types.specs.declared.query.Answer.TheVariants as told
use Rattle.news_types.specs.Names.{Bytes, is_in}
use Rattle.news_types.specs.Members.{Each}
use Rattle.news_types.specs.History.{History, moment, moment_at}
use Rattle.news_types.specs.Feeds.{Dispatch, feed}
use Rattle.news_types.specs.Delivery.{acked}
use Rattle.news_types.specs.Outcome.{Answered, Done, Repeat, Denied, no_entry, reply_to}
use Rattle.news_types.specs.Legal.{IsLegal}
use Rattle.news_types.specs.Frames.{Frame, Writer, numbered, format, framed, frame_at, frame_bytes}
use Rattle.news_types.specs.Calls.{Call, Requested, Ingested, Receipted, Ticked, Halted, Asked, Claimed, Answer, Replied, Job, Idle, Tells, Full, Fault, Memory, place_of, follow, ticked, answer, front, entry_at}
use Rattle.world_laws.specs.World.{World, Event, Given, after, is_honest}
use Rattle.world_laws.specs.FeedOrder.{ComesBefore, IsInOrder, AreReleased, CorrectionsFollow}

-- ---- frames

-- the frame is that of its entry in the feed of the list
abbrev pub IsFrame : Writer → History → Frame → Type 0
IsFrame write h f = frame_at write h f.to f.k ≡ Some f

-- frame f, with number k in the feed of s, is a publication of it, written in the format of s, and released to s
pub record Shows (write : Writer) (h : History) (s : Bytes) (k : ℕ) (f : Frame) : Type 0 where
  pub shown : Dispatch
  pub in_feed : numbered (feed h s) k ≡ Some shown
  pub written : f ≡ framed write (format h s) s k shown
  pub released : shown.release ≤ moment h

-- frames k and l show two publications, the first of which comes before the second in the feed
pub record ShowInOrder (write : Writer) (h : History) (s : Bytes) (k l : ℕ) (f g : Frame) : Type 0 where
  pub earlier : Shows write h s k f
  pub later : Shows write h s l g
  pub order : ComesBefore earlier.shown later.shown
  pub differ : earlier.shown.shown.number ≡ later.shown.shown.number → ⊥

-- ---- what was asked for

-- the act is what the call asks for: of a claim its tick, or an attempt at one of its names
abbrev pub AsksFor : Call → Act → Type 0
AsksFor (Requested caller number command) act = act ≡ Request caller number command
AsksFor (Ingested name come) act = act ≡ Ingest name come
AsksFor (Receipted s n) act = act ≡ Receipt s n
AsksFor Ticked act = act ≡ Advance
AsksFor Halted act = act ≡ Halt
AsksFor (Asked query) act = ⊥
AsksFor (Claimed names) act = (act ≡ Advance) ⊎ ((s : Bytes) × (k : ℕ) × IsTrue (is_in s names) × (act ≡ Attempt s k))

-- entry n is the next one of the list of so many entries at which its call was asked; a claim's attempt may follow its tick
abbrev pub IsNext : Call → Act → ℕ → ℕ → Type 0
IsNext (Claimed names) (Attempt s k) at n = (n ≡ at + 1) ⊎ (n ≡ at + 2)
IsNext call act at n = n ≡ at + 1

-- the call was answered with the entry's number, or that its keeping failed; a claim is told nothing of its tick
abbrev pub IsTold : Call → Act → Answer → ℕ → Type 0
IsTold (Claimed names) Advance a n = Unit {0}
IsTold call act a n = (place_of a ≡ n) ⊎ (a ≡ Fault)

-- entry n is what a call among the answers asked for, at the moment of that call's reading and at its place in the list
pub record IsAskedFor (out : List Given) (h : History) (n : ℕ) (e : Entry) : Type 0 where
  pub which : ℕ
  pub given : Given
  pub there : slice_get out which ≡ Some given
  pub asks : AsksFor given.call e.act
  pub moment : e.moment ≡ moment_at (front h given.at) given.reading
  pub next : IsNext given.call e.act given.at n
  pub told : IsTold given.call e.act given.answer n

-- ---- answers

-- an entry would follow the list behind the call
abbrev pub WouldKeep : History → Call → ℕ → Type 0
WouldKeep h (Claimed names) m = ((e : Entry) × (follow h Ticked m ≡ Some e)) ⊎ ((e : Entry) × (follow (ticked h m) (Claimed names) m ≡ Some e))
WouldKeep h call m = (e : Entry) × (follow h call m ≡ Some e)

-- the answer to a call at a moment is that of the list; or want of memory; or its entry was refused as full, or failed
abbrev pub IsAnswerAt : Writer → History → Call → ℕ → Answer → Type 0
IsAnswerAt write h call m a = (a ≡ answer write h call m) ⊎ ((a ≡ Memory) ⊎ (((a ≡ Full) ⊎ (a ≡ Fault)) × WouldKeep h call m))

-- the answer is that of the list as it was when the call was asked, or one of the other three
abbrev pub IsAnswer : Writer → History → Given → Type 0
IsAnswer write h g = (g.at ≤ length h) × IsAnswerAt write (front h g.at) g.call (moment_at (front h g.at) g.reading) g.answer

-- the act of the entry that a call was answered to have: of a claim the attempt of its job
abbrev pub Says : Call → Answer → Act → Type 0
Says (Claimed names) (Job s k frame n) act = act ≡ Attempt s k
Says (Claimed names) a act = ⊥
Says call a act = AsksFor call act

-- the entry whose number an answer names stands at that number
abbrev pub StandsAsAnswered : History → Given → Type 0
StandsAsAnswered h g = 0 < place_of g.answer → (e : Entry) × (entry_at h (place_of g.answer) ≡ Some e) × Says g.call g.answer e.act

-- the list, behind a tick that is due there, answered the claim: a job, or when there may be one
abbrev pub IsByTick : Call → Answer → Type 0
IsByTick (Claimed names) (Job s k frame n) = Unit {0}
IsByTick (Claimed names) (Idle next) = Unit {0}
IsByTick call a = ⊥

-- then the tick that was due stands behind the list at which the claim was asked
abbrev pub TickStands : History → Given → Type 0
TickStands h g = IsByTick g.call g.answer → (e : Entry) → follow (front h g.at) Ticked (moment_at (front h g.at) g.reading) ≡ Some e → entry_at h (g.at + 1) ≡ Some e

-- the reply that belongs to entry n of a list
abbrev pub reply_at : History → ℕ → Reply
reply_at [] n = no_entry 0
reply_at (e ∷ h) n = if nat_le n (length h) then reply_at h n else reply_to h e.moment e.act

-- the request stands at the number that the reply names, and the reply is that of this entry
abbrev pub IsReplyTo : History → Bytes → ℕ → Command → Reply → Type 0
IsReplyTo h caller number command reply =
    (m : ℕ) × (entry_at h reply.entry ≡ Some (record { moment = m; act = Request caller number command })) × (reply ≡ reply_at h reply.entry)

-- the request that was answered Done stands with its reply, and so does one that was answered as a repeat, with the same reply
abbrev pub IsReply : History → Bytes → ℕ → Command → Answered → Type 0
IsReply h caller number command (Done reply) = IsReplyTo h caller number command reply
IsReply h caller number command (Repeat reply) = IsReplyTo h caller number command reply
IsReply h caller number command (Denied denial) = Unit {0}

abbrev pub IsReplied : History → Answer → Call → Type 0
IsReplied h (Replied answered) (Requested caller number command) = IsReply h caller number command answered
IsReplied h a call = Unit {0}

-- a job has its frame, and an answered frame is one: that of the feed as it now is
abbrev pub IsShown : Writer → History → Answer → Call → Type 0
IsShown write h (Job s k frame n) call = (f : Frame) × (frame ≡ Some f) × (frame_at write h s k ≡ Some f)
IsShown write h (Tells (told.Frame bytes)) (Asked (question.Frame s k)) = (f : Frame) × (bytes ≡ frame_bytes f) × (frame_at write h s k ≡ Some f)
IsShown write h a call = Unit {0}

-- a later answer with an entry has a later entry
abbrev pub AnswersInOrder : List Given → Type 0
AnswersInOrder [] = Unit {0}
AnswersInOrder (g ∷ older) = (0 < place_of g.answer → Each (λ o. place_of o.answer < place_of g.answer) older) × AnswersInOrder older

-- a later call is asked at a list that is no shorter, and has every entry that was answered before
abbrev pub CallsInTurn : List Given → Type 0
CallsInTurn [] = Unit {0}
CallsInTurn (g ∷ older) = Each (λ o. (o.at ≤ g.at) × (place_of o.answer ≤ g.at)) older × CallsInTurn older

-- of two requests of a caller the later has the greater number, so each number stands there once
abbrev pub NumbersRise : History → Type 0
NumbersRise h = (i j m n : ℕ) (caller : Bytes) (a b : ℕ) (c d : Command) → i < j →
    entry_at h i ≡ Some (record { moment = m; act = Request caller a c }) →
    entry_at h j ≡ Some (record { moment = n; act = Request caller b d }) → a < b

-- the call was answered Done with the reply, or as a repeat
abbrev pub WasDone : Given → Bytes → ℕ → Reply → Type 0
WasDone g caller number reply = ((command : Command) × (g.call ≡ Requested caller number command)) × (g.answer ≡ Replied (Done reply))

abbrev pub WasRepeated : Given → Bytes → ℕ → Reply → Type 0
WasRepeated g caller number reply = ((command : Command) × (g.call ≡ Requested caller number command)) × (g.answer ≡ Replied (Repeat reply))

-- a repeat has the reply that was given when the number was answered Done
abbrev pub RepeatsAgree : List Given → Type 0
RepeatsAgree out = (i j : ℕ) (again first : Given) (caller : Bytes) (number : ℕ) (r s : Reply) →
    slice_get out i ≡ Some again → slice_get out j ≡ Some first → WasRepeated again caller number r → WasDone first caller number s → r ≡ s

-- a caller's number is answered Done once
abbrev pub DoneOnce : List Given → Type 0
DoneOnce out = (i j : ℕ) (one two : Given) (caller : Bytes) (number : ℕ) (r s : Reply) →
    slice_get out i ≡ Some one → slice_get out j ≡ Some two → WasDone one caller number r → WasDone two caller number s → i ≡ j

-- ---- the headline

pub record Headline (write : Writer) (w : World) : Type 0 where
  -- the list is legal, and so it is with any one entry that is in doubt
  pub legal : IsLegal w.server.list
  pub doubt : Each (λ e. IsLegal (e ∷ w.server.list)) w.server.doubt
  -- what a receiver holds is a prefix of its subscriber's feed: frame k is that of entry k
  pub within : (s : Bytes) → length (w.receivers s).held ≤ length (feed w.server.list s)
  pub prefix : (s : Bytes) (k : ℕ) → 0 < k → k ≤ length (w.receivers s).held → numbered (w.receivers s).held k ≡ frame_at write w.server.list s k
  pub shown : (s : Bytes) (k : ℕ) (f : Frame) → numbered (w.receivers s).held k ≡ Some f → Shows write w.server.list s k f
  -- it holds each publication once, and what comes before another in front of it
  pub held : (s : Bytes) (k l : ℕ) (f g : Frame) → k < l → numbered (w.receivers s).held k ≡ Some f → numbered (w.receivers s).held l ≡ Some g → ShowInOrder write w.server.list s k l f g
  -- each publication stands in a feed once, none before its release for that subscriber, what corrects or takes back behind what it concerns
  pub in_order : (s : Bytes) → IsInOrder (feed w.server.list s)
  pub released : (s : Bytes) → AreReleased (moment w.server.list) (feed w.server.list s)
  pub behind : (s : Bytes) → CorrectionsFollow (feed w.server.list s)
  -- every frame that was ever sent is one of the feeds as they now are, and so is each that a claim or a question was answered
  pub frames : Each (IsFrame write w.server.list) w.frames
  pub jobs : Each (λ g. IsShown write w.server.list g.answer g.call) w.out
  -- no receipt that was ever sent says more than its receiver holds
  pub receipts : Each (λ r. r.count ≤ length (w.receivers r.from).held) w.receipts
  -- every answer is the newsroom's at its place in the list, and no answer is from an older place than one before
  pub answers : Each (IsAnswer write w.server.list) w.out
  pub places : CallsInTurn w.out
  -- each entry was asked for by a call at its place, and so was each that is in doubt: nothing is invented
  pub asked : (n : ℕ) (e : Entry) → entry_at w.server.list n ≡ Some e → IsAskedFor w.out w.server.list n e
  pub doubt_asked : Each (IsAskedFor w.out w.server.list (length w.server.list + 1)) w.server.doubt
  -- what was acknowledged is kept: it stands at its number, with its own reply, in order, once
  pub entries : Each (StandsAsAnswered w.server.list) w.out
  pub ticks : Each (TickStands w.server.list) w.out
  pub replies : Each (λ g. IsReplied w.server.list g.answer g.call) w.out
  pub order : AnswersInOrder w.out
  pub numbers : NumbersRise w.server.list
  pub once : DoneOnce w.out
  pub repeats : RepeatsAgree w.out

-- the headline holds after every list of events, where each does what the function says
abbrev pub HeadlineHolds : (Writer → World → Event → World) → Type 0
HeadlineHolds step = (write : Writer) (events : List Event) → Headline write (after (step write) events)

-- what is acknowledged for a subscriber is held by its receiver, and so it is with any one entry that is in doubt
pub record IsHeard (w : World) (s : Bytes) : Type 0 where
  pub heard : acked w.server.list s ≤ length (w.receivers s).held
  pub doubt : Each (λ e. acked (e ∷ w.server.list) s ≤ length (w.receivers s).held) w.server.doubt

-- where none of its receipts is forged, nothing of a subscriber is acknowledged that is not held
abbrev pub ReceiptsHold : (Writer → World → Event → World) → Type 0
ReceiptsHold step = (write : Writer) (s : Bytes) (events : List Event) → IsTrue (list_all (is_honest s) events) → IsHeard (after (step write) events) s

-- the same without that premise
abbrev pub ReceiptsHoldAnyhow : (Writer → World → Event → World) → Type 0
ReceiptsHoldAnyhow step = (write : Writer) (s : Bytes) (events : List Event) → IsHeard (after (step write) events) s
