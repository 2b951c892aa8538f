-- The tick of a claim that the list answered is kept.
use Rattle.std.proofs.Common.{◌≡◌, ℕ, ◌+◌, ◌≤◌, Bool, true, false, Option, Some, None, List, [], ◌∷◌, ◌++◌, length, refl, sym, ◌∙◌, subst, arith}
use Rattle.std.specs.List.{slice_get}
use Rattle.news_types.specs.declared.entry.Entry.{Entry}
use Rattle.news_types.specs.Names.{Bytes}
use Rattle.news_types.specs.Members.{Each}
use Rattle.news_types.specs.History.{History, moment_at}
use Rattle.news_types.specs.Frames.{Frame, Writer, frame_at}
use Rattle.news_types.specs.Calls.{Call, Requested, Ingested, Receipted, Ticked, Halted, Asked, Claimed, Answer, follow, Fate, IsKept, IsFull, IsFailed, IsStarved, list_after, front, entry_at}
use Rattle.news_types.specs.Server.{Server, call_answer, claimed_at, claim_answer_at}
use Rattle.news_types.proofs.Members.{none_some}
use Rattle.world_laws.specs.World.{World, Given, SentReceipt, Event, Requests, Ingests, Ticks, Halts, Asks, Claims, Sends, FrameComes, ReceiptComes, Forges, Reopens, ReceiverReopens, calls, send, receipted, frame_comes, receipt_comes, happens, run_by, opening}
use Rattle.world_laws.specs.Headline.{IsByTick, TickStands}
use Rattle.world_laws.proofs.Answers.{Fair, front_more, front_all, entry_more, entry_new, entry_within}
use Rattle.world_laws.proofs.Steps.{Stands}
use Rattle.world_laws.proofs.Replies.{IsPlain}
use Rattle.world_laws.proofs.Events.{happens_stands, opening_stands}
use Rattle.world_laws.proofs.Growth.{event_on}
use Rattle.world_laws.proofs.Asked.{claim_given}

abbrev pub TicksStand : World → Type 0
TicksStand w = Each (TickStands w.server.list) w.out

-- ---- what stands stays so

tick_more : (e : Entry) (h : History) (g : Given) → g.at ≤ length h → TickStands h g → TickStands (e ∷ h) g
tick_more e h g le stands by x is =
    let there = stands by x (subst (λ (f : History). follow f Ticked (moment_at f g.reading) ≡ Some x) (front_more e h g.at le) is) in
    entry_more e h (g.at + 1) (entry_within h (g.at + 1) x there) ∙ there

longer : (new : List Entry) (h : History) (n : ℕ) → n ≤ length h → n ≤ length (new ++ h)
longer [] h n le = le
longer (e ∷ new) h n le = let rest = longer new h n le in omega (arith, rest)

tick_on : (new : List Entry) (h : History) (g : Given) → g.at ≤ length h → TickStands h g → TickStands (new ++ h) g
tick_on [] h g le stands = stands
tick_on (e ∷ new) h g le stands = tick_more e (new ++ h) g (longer new h g.at le) (tick_on new h g le stands)

-- by every event
module _ (write : Writer) (w : World) (event : Event) (stands : Stands write w) (ticks : TicksStand w) where
  old_ticks : Each (TickStands (happens write w event).server.list) w.out
  old_ticks =
      let goes = (event_on write w event).list in
      subst (λ (h : History). Each (TickStands h) w.out) (sym goes.1)
      (two (Fair write w.server.list) (TickStands w.server.list) (TickStands (goes.0 ++ w.server.list)) w.out (λ g fair old. tick_on goes.0 w.server.list g fair.is.0 old) stands.out ticks)
    where
      two : (P Q R : Given → Type 0) (out : List Given) → ((g : Given) → P g → Q g → R g) → Each P out → Each Q out → Each R out
      two P Q R [] go one other = tt
      two P Q R (g ∷ out) go one other = (go g one.0 other.0, two P Q R out go one.1 other.1)

-- ---- one answer more

no_tick : (call : Call) (a : Answer) → IsPlain call → IsByTick call a → ⊥
no_tick (Requested caller number command) a plain by = by
no_tick (Ingested name come) a plain by = by
no_tick (Receipted s n) a plain by = by
no_tick Ticked a plain by = by
no_tick Halted a plain by = by
no_tick (Asked query) a plain by = by
no_tick (Claimed names) a plain by = plain

plain_ticks : (write : Writer) (w : World) (call : Call) (reading : ℕ) (fate : Fate) → IsPlain call → Each (TickStands (calls write w call reading fate).server.list) w.out → TicksStand (calls write w call reading fate)
plain_ticks write w call reading fate plain old = ((λ by. absurd (no_tick call (call_answer write w.server call reading fate) plain by)), old)

-- the tick is the last entry, or the one before
tick_at : (h : History) (e : Entry) (attempt : Option Entry) (fate : Fate) → (entry_at (list_after (e ∷ h) attempt fate) (length h + 1) ≡ Some e) × (front (list_after (e ∷ h) attempt fate) (length h) ≡ h)
tick_at h e attempt fate = by attempt fate
  where
    last : (entry_at (e ∷ h) (length h + 1) ≡ Some e) × (front (e ∷ h) (length h) ≡ h)
    last = (entry_new e h (length h + 1) refl, front_more e h (length h) (omega arith) ∙ front_all h)

    by : (attempt : Option Entry) (fate : Fate) → (entry_at (list_after (e ∷ h) attempt fate) (length h + 1) ≡ Some e) × (front (list_after (e ∷ h) attempt fate) (length h) ≡ h)
    by None fate = last
    by (Some a) IsKept = (entry_more a (e ∷ h) (length h + 1) (omega arith) ∙ last.0, front_more a (e ∷ h) (length h) (omega arith) ∙ last.1)
    by (Some a) IsFull = last
    by (Some a) IsFailed = last
    by (Some a) IsStarved = last

claim_tick : (write : Writer) (c : Server) (names : List Bytes) (reading : ℕ) (tick : Option Entry) (first second : Fate) → follow c.list Ticked (moment_at c.list reading) ≡ tick
    → TickStands (claimed_at c names (moment_at c.list reading) tick first second).list (claim_given c.list names reading (claim_answer_at write c.list names (moment_at c.list reading) tick first second))
claim_tick write c names reading (Some e) IsKept second is by x due =
    let there = tick_at c.list e (follow (e ∷ c.list) (Claimed names) (moment_at c.list reading)) second in
    let here = subst (λ (f : History). follow f Ticked (moment_at f reading) ≡ Some x) there.1 due in
    there.0 ∙ sym is ∙ here
claim_tick write c names reading (Some e) IsFull second is by x due = absurd by
claim_tick write c names reading (Some e) IsFailed second is by x due = absurd by
claim_tick write c names reading (Some e) IsStarved second is by x due = absurd by
claim_tick write c names reading None first second is by x due = none_due (follow c.list (Claimed names) (moment_at c.list reading)) second due
  where
    none_due : (attempt : Option Entry) (fate : Fate) → follow (front (list_after c.list attempt fate) (length c.list)) Ticked (moment_at (front (list_after c.list attempt fate) (length c.list)) reading) ≡ Some x
        → entry_at (list_after c.list attempt fate) (length c.list + 1) ≡ Some x
    none_due attempt fate due =
        let begins = front_after attempt fate in
        absurd (none_some x (sym is ∙ subst (λ (f : History). follow f Ticked (moment_at f reading) ≡ Some x) begins due))
      where
        front_after : (attempt : Option Entry) (fate : Fate) → front (list_after c.list attempt fate) (length c.list) ≡ c.list
        front_after None fate = front_all c.list
        front_after (Some a) IsKept = front_more a c.list (length c.list) (omega arith) ∙ front_all c.list
        front_after (Some a) IsFull = front_all c.list
        front_after (Some a) IsFailed = front_all c.list
        front_after (Some a) IsStarved = front_all c.list

-- ---- every event

send_ticks : (w : World) (frame : Option Frame) → TicksStand w → TicksStand (send frame w)
send_ticks w None ticks = ticks
send_ticks w (Some f) ticks = ticks

receipted_ticks : (w : World) (b : Bool) (s : Bytes) → TicksStand w → TicksStand (receipted b s w)
receipted_ticks w false s ticks = ticks
receipted_ticks w true s ticks = ticks

frame_ticks : (w : World) (s : Bytes) (fate : Fate) (frame : Option Frame) → TicksStand w → TicksStand (frame_comes w s fate frame)
frame_ticks w s fate None ticks = ticks
frame_ticks w s fate (Some f) ticks = receipted_ticks _ _ s ticks

receipt_ticks : (write : Writer) (w : World) (reading : ℕ) (fate : Fate) (receipt : Option SentReceipt) → Each (TickStands (receipt_comes write w reading fate receipt).server.list) w.out → TicksStand (receipt_comes write w reading fate receipt)
receipt_ticks write w reading fate None old = old
receipt_ticks write w reading fate (Some receipt) old = plain_ticks write w (Receipted receipt.from receipt.count) reading fate tt old

happens_ticks : (write : Writer) (w : World) (event : Event) → Stands write w → TicksStand w → TicksStand (happens write w event)
happens_ticks write w (Requests caller number command reading fate) stands ticks = plain_ticks write w (Requested caller number command) reading fate tt (old_ticks write w (Requests caller number command reading fate) stands ticks)
happens_ticks write w (Ingests name come reading fate) stands ticks = plain_ticks write w (Ingested name come) reading fate tt (old_ticks write w (Ingests name come reading fate) stands ticks)
happens_ticks write w (Ticks reading fate) stands ticks = plain_ticks write w Ticked reading fate tt (old_ticks write w (Ticks reading fate) stands ticks)
happens_ticks write w (Halts reading fate) stands ticks = plain_ticks write w Halted reading fate tt (old_ticks write w (Halts reading fate) stands ticks)
happens_ticks write w (Asks query reading fate) stands ticks = plain_ticks write w (Asked query) reading fate tt (old_ticks write w (Asks query reading fate) stands ticks)
happens_ticks write w (Claims names reading first second) stands ticks =
    (claim_tick write w.server names reading (follow w.server.list Ticked (moment_at w.server.list reading)) first second refl, old_ticks write w (Claims names reading first second) stands ticks)
happens_ticks write w (Sends s k) stands ticks = send_ticks w (frame_at write w.server.list s k) ticks
happens_ticks write w (FrameComes which s fate) stands ticks = frame_ticks w s fate (slice_get w.frames which) ticks
happens_ticks write w (ReceiptComes which reading fate) stands ticks = receipt_ticks write w reading fate (slice_get w.receipts which) (old_ticks write w (ReceiptComes which reading fate) stands ticks)
happens_ticks write w (Forges s n reading fate) stands ticks = plain_ticks write w (Receipted s n) reading fate tt (old_ticks write w (Forges s n reading fate) stands ticks)
happens_ticks write w (Reopens which) stands ticks = old_ticks write w (Reopens which) stands ticks
happens_ticks write w (ReceiverReopens s which) stands ticks = ticks

run_ticks : (write : Writer) (events : List Event) (w : World) → Stands write w → TicksStand w → TicksStand (run_by (happens write) events w)
run_ticks write [] w stands ticks = ticks
run_ticks write (e ∷ events) w stands ticks = run_ticks write events (happens write w e) (happens_stands write w e stands) (happens_ticks write w e stands ticks)

pub all_ticks_stand : (write : Writer) (events : List Event) → TicksStand (run_by (happens write) events opening)
all_ticks_stand write events = run_ticks write events opening (opening_stands write) tt
