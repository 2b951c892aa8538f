-- What was kept, answered, sent or held stays so.
use Rattle.std.proofs.Common.{◌≡◌, ℕ, Bool, true, false, Option, Some, None, List, [], ◌∷◌, ◌++◌, length, refl, sym, ap, ◌∙◌, append_assoc, append-nil}
use Rattle.std.specs.List.{slice_get}
use Rattle.news_types.specs.declared.entry.Entry.{Entry}
use Rattle.news_types.specs.Names.{Bytes}
use Rattle.news_types.specs.History.{History, moment_at}
use Rattle.news_types.specs.Frames.{Frame, Writer, frame_at}
use Rattle.news_types.specs.Calls.{Call, Requested, Ingested, Receipted, Ticked, Halted, Asked, Claimed, follow, Fate, IsKept, IsFull, IsFailed, IsStarved, list_after}
use Rattle.news_types.specs.Server.{Server, claimed_at}
use Rattle.news_types.specs.Receiver.{Receiver, Taken, NotMine, Known, Ahead, Accepted, reaction, accepted, reacted, is_receipted, restarted}
use Rattle.world_laws.specs.World.{World, Event, Given, SentReceipt, Requests, Ingests, Ticks, Halts, Asks, Claims, Sends, FrameComes, ReceiptComes, Forges, Reopens, ReceiverReopens, calls, send, receives, receipted, frame_comes, receipt_comes, one_of, reopened, happens, run}
use Rattle.world_laws.specs.Growth.{GoesOn, NothingIsLost}
use Rattle.world_laws.proofs.Events.{set_holds}

-- a list has more in front, or more at its end
abbrev pub Fronted : {A : Type 0} → List A → List A → Type 0
Fronted {A = A} old new = (more : List A) × (new ≡ more ++ old)

abbrev Ended : {A : Type 0} → List A → List A → Type 0
Ended {A = A} old new = (more : List A) × (new ≡ old ++ more)

same_front : {A : Type 0} (xs : List A) → Fronted xs xs
same_front xs = ([], refl)

same_end : {A : Type 0} (xs : List A) → Ended xs xs
same_end xs = ([], sym (append-nil xs))

front_on : {A : Type 0} (xs ys zs : List A) → Fronted xs ys → Fronted ys zs → Fronted xs zs
front_on xs ys zs one two = (two.0 ++ one.0, two.1 ∙ ap (λ l. two.0 ++ l) one.1 ∙ sym (append_assoc two.0 one.0 xs))

end_on : {A : Type 0} (xs ys zs : List A) → Ended xs ys → Ended ys zs → Ended xs zs
end_on xs ys zs one two = (one.0 ++ two.0, two.1 ∙ ap (λ l. l ++ two.0) one.1 ∙ append_assoc xs one.0 two.0)

goes_nowhere : (w : World) → GoesOn w w
goes_nowhere w = record {
  list = same_front w.server.list;
  out = same_front w.out;
  frames = same_front w.frames;
  receipts = same_front w.receipts;
  held = λ s. same_end (w.receivers s).held;
}

goes_further : (a b c : World) → GoesOn a b → GoesOn b c → GoesOn a c
goes_further a b c one two = record {
  list = front_on a.server.list b.server.list c.server.list one.list two.list;
  out = front_on a.out b.out c.out one.out two.out;
  frames = front_on a.frames b.frames c.frames one.frames two.frames;
  receipts = front_on a.receipts b.receipts c.receipts one.receipts two.receipts;
  held = λ s. end_on (a.receivers s).held (b.receivers s).held (c.receivers s).held (one.held s) (two.held s);
}

-- ---- the server

entry_on : (h : History) (entry : Option Entry) (fate : Fate) → Fronted h (list_after h entry fate)
entry_on h None fate = same_front h
entry_on h (Some e) IsKept = (e ∷ [], refl)
entry_on h (Some e) IsFull = same_front h
entry_on h (Some e) IsFailed = same_front h
entry_on h (Some e) IsStarved = same_front h

claimed_on : (c : Server) (names : List Bytes) (m : ℕ) (tick : Option Entry) (first second : Fate) → Fronted c.list (claimed_at c names m tick first second).list
claimed_on c names m None first second = entry_on c.list (follow c.list (Claimed names) m) second
claimed_on c names m (Some e) IsKept second =
    front_on c.list (e ∷ c.list) _ (e ∷ [], refl) (entry_on (e ∷ c.list) (follow (e ∷ c.list) (Claimed names) m) second)
claimed_on c names m (Some e) IsFull second = same_front c.list
claimed_on c names m (Some e) IsFailed second = same_front c.list
claimed_on c names m (Some e) IsStarved second = same_front c.list

reopened_on : (c : Server) (found : Option Entry) → Fronted c.list (reopened c found).list
reopened_on c None = same_front c.list
reopened_on c (Some e) = (e ∷ [], refl)

-- a call has one answer more
answered_on : (w : World) (c : Server) (g : Given) → Fronted w.server.list c.list → GoesOn w (record w { server = c; out = g ∷ w.out })
answered_on w c g list = record {
  list = list;
  out = (g ∷ [], refl);
  frames = same_front w.frames;
  receipts = same_front w.receipts;
  held = λ s. same_end (w.receivers s).held;
}

calls_on : (write : Writer) (w : World) (call : Call) (reading : ℕ) (fate : Fate) → GoesOn w (calls write w call reading fate)
calls_on write w call reading fate = answered_on w _ _ (entry_on w.server.list (follow w.server.list call (moment_at w.server.list reading)) fate)

-- ---- frames and receivers

send_on : (w : World) (frame : Option Frame) → GoesOn w (send frame w)
send_on w None = goes_nowhere w
send_on w (Some f) = record {
  list = same_front w.server.list;
  out = same_front w.out;
  frames = (f ∷ [], refl);
  receipts = same_front w.receipts;
  held = λ s. same_end (w.receivers s).held;
}

receives_on : (w : World) (s : Bytes) (r : Receiver) → Ended (w.receivers s).held r.held → GoesOn w (receives w s r)
receives_on w s r more = record {
  list = same_front w.server.list;
  out = same_front w.out;
  frames = same_front w.frames;
  receipts = same_front w.receipts;
  held = set_holds (λ (t : Bytes) (x : Receiver). Ended (w.receivers t).held x.held) w.receivers s r more (λ t. same_end (w.receivers t).held);
}

receipted_on : (w : World) (b : Bool) (s : Bytes) → GoesOn w (receipted b s w)
receipted_on w false s = goes_nowhere w
receipted_on w true s = record {
  list = same_front w.server.list;
  out = same_front w.out;
  frames = same_front w.frames;
  receipts = (_ ∷ [], refl);
  held = λ t. same_end (w.receivers t).held;
}

accepted_on : (r : Receiver) (f : Frame) (fate : Fate) → Ended r.held (accepted r f fate).held
accepted_on r f IsKept = (f ∷ [], refl)
accepted_on r f IsFull = same_end r.held
accepted_on r f IsFailed = same_end r.held
accepted_on r f IsStarved = same_end r.held

reacted_on : (r : Receiver) (f : Frame) (fate : Fate) (t : Taken) → Ended r.held (reacted r f fate t).held
reacted_on r f fate Accepted = accepted_on r f fate
reacted_on r f fate NotMine = same_end r.held
reacted_on r f fate Known = same_end r.held
reacted_on r f fate Ahead = same_end r.held

restarted_on : (r : Receiver) (found : Option Frame) → Ended r.held (restarted r found).held
restarted_on r None = same_end r.held
restarted_on r (Some f) = (f ∷ [], refl)

frame_on : (w : World) (s : Bytes) (fate : Fate) (frame : Option Frame) → GoesOn w (frame_comes w s fate frame)
frame_on w s fate None = goes_nowhere w
frame_on w s fate (Some f) =
    let t : Taken = reaction s (length (w.receivers s).held) f in
    let r : Receiver = reacted (w.receivers s) f fate t in
    goes_further w (receives w s r) _ (receives_on w s r (reacted_on (w.receivers s) f fate t)) (receipted_on (receives w s r) (is_receipted fate t) s)

receipt_on : (write : Writer) (w : World) (reading : ℕ) (fate : Fate) (receipt : Option SentReceipt) → GoesOn w (receipt_comes write w reading fate receipt)
receipt_on write w reading fate None = goes_nowhere w
receipt_on write w reading fate (Some receipt) = calls_on write w (Receipted receipt.from receipt.count) reading fate

-- ---- every event

pub event_on : (write : Writer) (w : World) (event : Event) → GoesOn w (happens write w event)
event_on write w (Requests caller number command reading fate) = calls_on write w (Requested caller number command) reading fate
event_on write w (Ingests name come reading fate) = calls_on write w (Ingested name come) reading fate
event_on write w (Ticks reading fate) = calls_on write w Ticked reading fate
event_on write w (Halts reading fate) = calls_on write w Halted reading fate
event_on write w (Asks query reading fate) = calls_on write w (Asked query) reading fate
event_on write w (Claims names reading first second) =
    let m : ℕ = moment_at w.server.list reading in
    answered_on w _ _ (claimed_on w.server names m (follow w.server.list Ticked m) first second)
event_on write w (Sends s k) = send_on w (frame_at write w.server.list s k)
event_on write w (FrameComes which s fate) = frame_on w s fate (slice_get w.frames which)
event_on write w (ReceiptComes which reading fate) = receipt_on write w reading fate (slice_get w.receipts which)
event_on write w (Forges s n reading fate) = calls_on write w (Receipted s n) reading fate
event_on write w (Reopens which) = record {
  list = reopened_on w.server (one_of w.server.doubt which);
  out = same_front w.out;
  frames = same_front w.frames;
  receipts = same_front w.receipts;
  held = λ s. same_end (w.receivers s).held;
}
event_on write w (ReceiverReopens s which) =
    let r : Receiver = w.receivers s in
    receives_on w s (restarted r (one_of r.doubt which)) (restarted_on r (one_of r.doubt which))

pub nothing_is_lost : NothingIsLost
nothing_is_lost write w [] = goes_nowhere w
nothing_is_lost write w (e ∷ events) =
    goes_further w (happens write w e) (run write events (happens write w e)) (event_on write w e) (nothing_is_lost write (happens write w e) events)
