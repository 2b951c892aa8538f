-- Each event keeps what holds of the world.
use Rattle.std.proofs.Common.{◌≡◌, ℕ, suc, ◌+◌, ◌≤◌, inl, inr, Bool, true, false, not, cond, Option, Some, None, List, [], ◌∷◌, ◌++◌, length, length-append, refl, sym, ap, ◌∙◌, subst, arith}
use Rattle.std.specs.Prelude.{nat_le, nat_lt}
use Rattle.std.specs.List.{slice_get}
use Rattle.std.proofs.lemmas.Bool.Decides.{nat_tests}
use Rattle.news_types.specs.declared.entry.Entry.{Entry}
use Rattle.news_types.specs.Names.{Bytes, same}
use Rattle.news_types.specs.Members.{Each}
use Rattle.news_types.specs.History.{History, moment, moment_at}
use Rattle.news_types.specs.Delivery.{choice}
use Rattle.news_types.specs.Legal.{IsLegal, some_waits}
use Rattle.news_types.specs.Frames.{Frame, Writer, frame_at}
use Rattle.news_types.specs.Calls.{Call, Requested, Ingested, Receipted, Ticked, Halted, Asked, Claimed, Full, Fault, Memory, follow, more, ticked, job, answer, Fate, IsKept, IsFull, IsFailed, IsStarved, given}
use Rattle.news_types.specs.Server.{claimed_at, claim_answer_at}
use Rattle.news_types.proofs.Members.{same_is, none_some, each_map, each_get}
use Rattle.news_types.specs.Receiver.{Receiver, Taken, NotMine, Known, Ahead, Accepted, reaction, accepted, reacted, restarted}
use Rattle.world_laws.specs.World.{World, SentReceipt, Event, Requests, Ingests, Ticks, Halts, Asks, Claims, Sends, FrameComes, ReceiptComes, Forges, Reopens, ReceiverReopens, calls, claims, send, set_at, receives, receipted, frame_comes, receipt_comes, one_of, reopened, happens, run_by, opening}
use Rattle.world_laws.specs.Headline.{IsFrame, WouldKeep}
use Rattle.world_laws.proofs.Frames.{frame_is, are_more}
use Rattle.world_laws.proofs.Followers.{choice_ready, follow_legal, moment_grows, tick_moment}
use Rattle.world_laws.proofs.Steps.{Holds, Stands, with_entry, say, grown, entry_stands, say_none, sound_memory, sound_full, sound_fault, call_stands, Counts, IsFrontOf, front_self, front_next}
use Rattle.world_laws.proofs.Replies.{counts, counts_claim, IsPlain}

-- ---- calls

would_keep : (h : History) (call : Call) (m : ℕ) (e : Entry) → IsPlain call → follow h call m ≡ Some e → WouldKeep h call m
would_keep h (Claimed names) m e plain is = absurd plain
would_keep h (Requested caller number command) m e plain is = (e, is)
would_keep h (Ingested name come) m e plain is = (e, is)
would_keep h (Receipted s n) m e plain is = (e, is)
would_keep h Ticked m e plain is = (e, is)
would_keep h Halted m e plain is = (e, is)
would_keep h (Asked query) m e plain is = (e, is)

-- a call that is no claim
calls_stand : (write : Writer) (w : World) (call : Call) (reading : ℕ) (fate : Fate) → Stands write w → IsPlain call → Stands write (calls write w call reading fate)
calls_stand write w call reading fate stands plain =
    let h : History = w.server.list in
    let m : ℕ = moment_at h reading in
    call_stands write w (follow h call m) fate h call reading (answer write h call m) stands
    (λ e is. follow_legal h call m e stands.legal (moment_grows h reading) is)
    (front_self h) refl (counts write h call m plain) (λ e is. would_keep h call m e plain is)

-- a claim behind its tick, which was asked at the list `start`
tried_stands : (write : Writer) (w : World) (start : History) (names : List Bytes) (reading m : ℕ) (fate : Fate) → Stands write w → IsFrontOf start w.server.list → ticked start m ≡ w.server.list → m ≡ moment_at start reading → moment w.server.list ≤ m
    → Stands write (say (with_entry w (follow w.server.list (Claimed names) m) fate) (record { at = length start; call = Claimed names; reading = reading; answer = given (follow w.server.list (Claimed names) m) fate (answer write start (Claimed names) m) }))
tried_stands write w start names reading m fate stands begins behind at le =
    let g : History = w.server.list in
    let legal : (e : Entry) → follow g (Claimed names) m ≡ Some e → IsLegal (e ∷ g) = λ e is. follow_legal g (Claimed names) m e stands.legal le is in
    let counted : Counts write g (Claimed names) (answer write start (Claimed names) m) (follow g (Claimed names) m) =
    subst (λ (x : History). Counts write g (Claimed names) (job write x (choice x names m)) (follow g (Claimed names) m)) (sym behind)
    (counts_claim write g names m (choice g names m) (choice_ready g names m) legal) in
    call_stands write w (follow g (Claimed names) m) fate start (Claimed names) reading (answer write start (Claimed names) m) stands legal begins
    (ap (answer write start (Claimed names)) at) counted
    (λ e is. subst (λ (n : ℕ). WouldKeep start (Claimed names) n) at (inr (e, ap (λ (x : History). follow x (Claimed names) m) behind ∙ is)))

-- the world behind a claim whose tick has this entry
abbrev claims_at : Writer → World → List Bytes → ℕ → ℕ → Option Entry → Fate → Fate → World
claims_at write w names reading m tick first second = record w {
  server = claimed_at w.server names m tick first second;
  out = record { at = length w.server.list; call = Claimed names; reading = reading; answer = claim_answer_at write w.server.list names m tick first second } ∷ w.out;
}

claims_stand_at : (write : Writer) (w : World) (names : List Bytes) (reading : ℕ) (tick : Option Entry) (first second : Fate) → Stands write w → follow w.server.list Ticked (moment_at w.server.list reading) ≡ tick
    → ((e : Entry) → tick ≡ Some e → IsLegal (e ∷ w.server.list) × (e.moment ≡ moment_at w.server.list reading))
    → Stands write (claims_at write w names reading (moment_at w.server.list reading) tick first second)
claims_stand_at write w names reading None first second stands is legal =
    let h : History = w.server.list in
    tried_stands write w h names reading (moment_at h reading) second stands (front_self h) (ap (λ (t : Option Entry). more t h) is) refl (moment_grows h reading)
claims_stand_at write w names reading (Some e) IsKept second stands is legal =
    let h : History = w.server.list in
    let here = legal e refl in
    tried_stands write (with_entry w (Some e) IsKept) h names reading (moment_at h reading) second (grown write w e stands here.0)
    (front_next h e h (front_self h)) (ap (λ (t : Option Entry). more t h) is) refl (omega (arith, here.1))
claims_stand_at write w names reading (Some e) IsFull second stands is legal =
    let h : History = w.server.list in
    say_none write w h (Claimed names) reading Full stands (front_self h) (inr (inr (inl refl, inl (e, is)))) (sound_full write h (Claimed names)) refl
claims_stand_at write w names reading (Some e) IsStarved second stands is legal =
    let h : History = w.server.list in
    say_none write w h (Claimed names) reading Memory stands (front_self h) (inr (inl refl)) (sound_memory write h (Claimed names)) refl
claims_stand_at write w names reading (Some e) IsFailed second stands is legal =
    let h : History = w.server.list in
    say_none write (with_entry w (Some e) IsFailed) h (Claimed names) reading Fault (entry_stands write w (Some e) IsFailed stands (λ x same. (legal x same).0))
    (front_self h) (inr (inr (inr refl, inl (e, is)))) (sound_fault write h (Claimed names)) refl

claims_stand : (write : Writer) (w : World) (names : List Bytes) (reading : ℕ) (first second : Fate) → Stands write w → Stands write (claims write w names reading first second)
claims_stand write w names reading first second stands =
    let h : History = w.server.list in
    let m : ℕ = moment_at h reading in
    claims_stand_at write w names reading (follow h Ticked m) first second stands refl
    (λ e is. (follow_legal h Ticked m e stands.legal (moment_grows h reading) is, tick_moment (some_waits h m) m e is))

-- ---- frames

send_stands : (write : Writer) (w : World) (frame : Option Frame) → Stands write w → ((f : Frame) → frame ≡ Some f → IsFrame write w.server.list f) → Stands write (send frame w)
send_stands write w None stands is = stands
send_stands write w (Some f) stands is = record {
  legal = stands.legal;
  doubt = stands.doubt;
  out = stands.out;
  order = stands.order;
  frames = (is f refl, stands.frames);
  receipts = stands.receipts;
  receivers = stands.receivers;
}

-- ---- receivers

-- what holds at one name for the new value, and for the old values at all names
pub set_holds : {A : Type 0} (P : Bytes → A → Type 0) (f : Bytes → A) (s : Bytes) (x : A) → P s x → ((t : Bytes) → P t (f t)) → (t : Bytes) → P t (set_at f s x t)
set_holds P f s x new old t =
    elim (same s t) as (λ b. same s t ≡ b → P t (cond b x (f t))) [
      | true ↦ λ alike. subst (λ (u : Bytes). P u x) (same_is s t alike) new
      | false ↦ λ other. old t
    ] refl

-- what a receiver holds only grows
accepted_grows : (r : Receiver) (f : Frame) (fate : Fate) → length r.held ≤ length (accepted r f fate).held
accepted_grows r f IsKept = omega (arith, length-append r.held (f ∷ []))
accepted_grows r f IsFailed = omega arith
accepted_grows r f IsFull = omega arith
accepted_grows r f IsStarved = omega arith

pub reacted_grows : (r : Receiver) (f : Frame) (fate : Fate) (t : Taken) → length r.held ≤ length (reacted r f fate t).held
reacted_grows r f fate Accepted = accepted_grows r f fate
reacted_grows r f fate NotMine = omega arith
reacted_grows r f fate Known = omega arith
reacted_grows r f fate Ahead = omega arith

pub restarted_grows : (r : Receiver) (found : Option Frame) → length r.held ≤ length (restarted r found).held
restarted_grows r None = omega arith
restarted_grows r (Some f) = omega (arith, length-append r.held (f ∷ []))

receives_stand : (write : Writer) (w : World) (s : Bytes) (r : Receiver) → Stands write w → Holds write w.server.list s r → length (w.receivers s).held ≤ length r.held → Stands write (receives w s r)
receives_stand write w s r stands holds le =
    let more : (t : Bytes) → length (w.receivers t).held ≤ length (set_at w.receivers s r t).held =
    set_holds (λ (t : Bytes) (x : Receiver). length (w.receivers t).held ≤ length x.held) w.receivers s r le (λ t. omega arith) in
    record {
      legal = stands.legal;
      doubt = stands.doubt;
      out = stands.out;
      order = stands.order;
      frames = stands.frames;
      receipts = each_map (λ (x : SentReceipt). x.count ≤ length (w.receivers x.from).held) (λ (x : SentReceipt). x.count ≤ length (set_at w.receivers s r x.from).held) w.receipts (λ x old. omega (arith, old, more x.from)) stands.receipts;
      receivers = set_holds (Holds write w.server.list) w.receivers s r holds stands.receivers;
    }

receipted_stand : (write : Writer) (w : World) (b : Bool) (s : Bytes) → Stands write w → Stands write (receipted b s w)
receipted_stand write w false s stands = stands
receipted_stand write w true s stands = record {
  legal = stands.legal;
  doubt = stands.doubt;
  out = stands.out;
  order = stands.order;
  frames = stands.frames;
  receipts = (omega arith, stands.receipts);
  receivers = stands.receivers;
}

-- the next frame is kept
held_more : (write : Writer) (h : History) (s : Bytes) (r : Receiver) (f : Frame) → Holds write h s r → frame_at write h s (suc (length r.held)) ≡ Some f → Holds write h s (record { held = r.held ++ f ∷ []; doubt = [] })
held_more write h s r f holds is = record {
  frames = are_more write h s 1 (suc (length r.held)) r.held f (omega arith) holds.frames is;
  next = tt;
}

accepted_holds : (write : Writer) (h : History) (s : Bytes) (r : Receiver) (f : Frame) (fate : Fate) → Holds write h s r → frame_at write h s (suc (length r.held)) ≡ Some f → Holds write h s (accepted r f fate)
accepted_holds write h s r f IsKept holds is = held_more write h s r f holds is
accepted_holds write h s r f IsFailed holds is = record { frames = holds.frames; next = (is, holds.next) }
accepted_holds write h s r f IsFull holds is = holds
accepted_holds write h s r f IsStarved holds is = holds

-- an accepted frame is the receiver's next one
next_one : (s : Bytes) (n : ℕ) (f : Frame) → reaction s n f ≡ Accepted → (same s f.to ≡ true) × (f.k ≡ suc n)
next_one s n f =
    elim (same s f.to) as (λ b. cond (not b) NotMine (cond (nat_le f.k n) Known (cond (nat_lt (n + 1) f.k) Ahead Accepted)) ≡ Accepted → (b ≡ true) × (f.k ≡ suc n)) [
      | false ↦ λ h. cc
      | true ↦
          elim (nat_le f.k n) as (λ b. nat_le f.k n ≡ b → cond b Known (cond (nat_lt (n + 1) f.k) Ahead Accepted) ≡ Accepted → (true ≡ true) × (f.k ≡ suc n)) [
            | true ↦ λ x h. cc
            | false ↦ λ above.
                elim (nat_lt (n + 1) f.k) as (λ b. nat_lt (n + 1) f.k ≡ b → cond b Ahead Accepted ≡ Accepted → (true ≡ true) × (f.k ≡ suc n)) [
                  | true ↦ λ y h. cc
                  | false ↦ λ below h. (refl, grind (arith, nat_tests))
                ] refl
          ] refl
    ]

reacted_holds : (write : Writer) (h : History) (s : Bytes) (r : Receiver) (f : Frame) (fate : Fate) (t : Taken) → reaction s (length r.held) f ≡ t → Holds write h s r → IsFrame write h f → Holds write h s (reacted r f fate t)
reacted_holds write h s r f fate Accepted is holds frame =
    let mine = next_one s (length r.held) f is in
    accepted_holds write h s r f fate holds
    (ap (λ (t : Bytes). frame_at write h t (suc (length r.held))) (same_is s f.to mine.0) ∙ ap (λ (k : ℕ). frame_at write h f.to k) (sym mine.1) ∙ frame)
reacted_holds write h s r f fate NotMine is holds frame = holds
reacted_holds write h s r f fate Known is holds frame = holds
reacted_holds write h s r f fate Ahead is holds frame = holds

frame_comes_stands : (write : Writer) (w : World) (s : Bytes) (fate : Fate) (frame : Option Frame) → ((f : Frame) → frame ≡ Some f → IsFrame write w.server.list f) → Stands write w → Stands write (frame_comes w s fate frame)
frame_comes_stands write w s fate None is stands = stands
frame_comes_stands write w s fate (Some f) is stands =
    let t : Taken = reaction s (length (w.receivers s).held) f in
    receipted_stand write _ _ s (receives_stand write w s (reacted (w.receivers s) f fate t) stands
    (reacted_holds write w.server.list s (w.receivers s) f fate t refl (stands.receivers s) (is f refl)) (reacted_grows (w.receivers s) f fate t))

receipt_comes_stands : (write : Writer) (w : World) (reading : ℕ) (fate : Fate) (receipt : Option SentReceipt) → Stands write w → Stands write (receipt_comes write w reading fate receipt)
receipt_comes_stands write w reading fate None stands = stands
receipt_comes_stands write w reading fate (Some receipt) stands = calls_stand write w (Receipted receipt.from receipt.count) reading fate stands tt

-- ---- stops

one_is : {A : Type 0} (P : A → Type 0) (doubt : List A) (which : Option ℕ) (x : A) → Each P doubt → one_of doubt which ≡ Some x → P x
one_is P doubt None x all is = absurd (none_some x is)
one_is P doubt (Some i) x all is = each_get P doubt i x all is

reopened_stands : (write : Writer) (w : World) (found : Option Entry) → ((e : Entry) → found ≡ Some e → IsLegal (e ∷ w.server.list)) → Stands write w → Stands write (record w { server = reopened w.server found })
reopened_stands write w None legal stands = record {
  legal = stands.legal;
  doubt = tt;
  out = stands.out;
  order = stands.order;
  frames = stands.frames;
  receipts = stands.receipts;
  receivers = stands.receivers;
}
reopened_stands write w (Some e) legal stands = grown write w e stands (legal e refl)

restarted_holds : (write : Writer) (h : History) (s : Bytes) (r : Receiver) (found : Option Frame) → ((f : Frame) → found ≡ Some f → frame_at write h s (suc (length r.held)) ≡ Some f) → Holds write h s r → Holds write h s (restarted r found)
restarted_holds write h s r None is holds = record { frames = holds.frames; next = tt }
restarted_holds write h s r (Some f) is holds = held_more write h s r f holds (is f refl)

-- ---- every event

pub happens_stands : (write : Writer) (w : World) (event : Event) → Stands write w → Stands write (happens write w event)
happens_stands write w (Requests caller number command reading fate) stands = calls_stand write w (Requested caller number command) reading fate stands tt
happens_stands write w (Ingests name come reading fate) stands = calls_stand write w (Ingested name come) reading fate stands tt
happens_stands write w (Ticks reading fate) stands = calls_stand write w Ticked reading fate stands tt
happens_stands write w (Halts reading fate) stands = calls_stand write w Halted reading fate stands tt
happens_stands write w (Asks query reading fate) stands = calls_stand write w (Asked query) reading fate stands tt
happens_stands write w (Claims names reading first second) stands = claims_stand write w names reading first second stands
happens_stands write w (Sends s k) stands = send_stands write w (frame_at write w.server.list s k) stands (λ f is. frame_is write w.server.list s k f is)
happens_stands write w (FrameComes which s fate) stands =
    frame_comes_stands write w s fate (slice_get w.frames which) (λ f is. each_get (IsFrame write w.server.list) w.frames which f stands.frames is) stands
happens_stands write w (ReceiptComes which reading fate) stands = receipt_comes_stands write w reading fate (slice_get w.receipts which) stands
happens_stands write w (Forges s n reading fate) stands = calls_stand write w (Receipted s n) reading fate stands tt
happens_stands write w (Reopens which) stands =
    reopened_stands write w (one_of w.server.doubt which) (λ e is. one_is (λ (x : Entry). IsLegal (x ∷ w.server.list)) w.server.doubt which e stands.doubt is) stands
happens_stands write w (ReceiverReopens s which) stands =
    let r : Receiver = w.receivers s in
    receives_stand write w s (restarted r (one_of r.doubt which)) stands
    (restarted_holds write w.server.list s r (one_of r.doubt which)
    (λ f is. one_is (λ (x : Frame). frame_at write w.server.list s (suc (length r.held)) ≡ Some x) r.doubt which f (stands.receivers s).next is) (stands.receivers s)) (restarted_grows r (one_of r.doubt which))

pub opening_stands : (write : Writer) → Stands write opening
opening_stands write = record {
  legal = tt;
  doubt = tt;
  out = tt;
  order = tt;
  frames = tt;
  receipts = tt;
  receivers = λ s. record { frames = tt; next = tt };
}

pub run_stands : (write : Writer) (events : List Event) (w : World) → Stands write w → Stands write (run_by (happens write) events w)
run_stands write [] w stands = stands
run_stands write (e ∷ events) w stands = run_stands write events (happens write w e) (happens_stands write w e stands)

pub all_stands : (write : Writer) (events : List Event) → Stands write (run_by (happens write) events opening)
all_stands write events = run_stands write events opening (opening_stands write)
