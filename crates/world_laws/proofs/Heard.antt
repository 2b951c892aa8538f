-- Where no receipt is forged, what is acknowledged is held.
use Rattle.std.proofs.Common.{◌≡◌, ℕ, ◌≤◌, max, Bool, true, false, not, ◌&&◌, cond, Option, Some, None, List, [], ◌∷◌, length, refl, sym, ◌∙◌, subst, arith}
use Rattle.std.specs.List.{slice_get, list_all}
use mathlib.Core.Bool.{true≢false}
use Rattle.news_types.specs.declared.entry.Entry.{Entry}
use Rattle.news_types.specs.declared.entry.Act.{Act}
use Rattle.news_types.specs.declared.entry.Act.TheVariants.{Advance, Receipt}
use Rattle.news_types.specs.declared.query.Ready.{Ready}
use Rattle.news_types.specs.declared.query.Ready.TheVariants.{Now, Later}
use Rattle.news_types.specs.Names.{Bytes, same}
use Rattle.news_types.specs.Members.{Each}
use Rattle.news_types.specs.History.{History, moment_at}
use Rattle.news_types.specs.Delivery.{acked, acked_after, choice}
use Rattle.news_types.specs.Frames.{Frame, Writer, frame_at}
use Rattle.news_types.specs.Calls.{Call, Requested, Ingested, Receipted, Ticked, Halted, Asked, Claimed, Answer, place_of, answer, entry_if, attempt_of, follow, Fate, IsKept, IsFull, IsFailed, IsStarved}
use Rattle.news_types.specs.Server.{Server, put, called, claimed_at}
use Rattle.news_types.specs.Legal.{some_waits}
use Rattle.news_types.proofs.Members.{same_is, some_is, none_some, each_map, each_get}
use Rattle.news_types.specs.Receiver.{Receiver, Taken, reaction, reacted, is_receipted, restarted}
use Rattle.world_laws.specs.World.{World, SentReceipt, Event, Requests, Ingests, Ticks, Halts, Asks, Claims, Sends, FrameComes, ReceiptComes, Forges, Reopens, ReceiverReopens, send, set_at, receives, receipted, frame_comes, receipt_comes, one_of, reopened, happens, run_by, opening, is_honest}
use Rattle.world_laws.specs.Headline.{Says, ReceiptsHold}
use Rattle.world_laws.proofs.Answers.{entry_new}
use Rattle.world_laws.proofs.Steps.{Counts, Stands}
use Rattle.world_laws.proofs.Replies.{counts, IsPlain}
use Rattle.world_laws.proofs.Events.{set_holds, reacted_grows, restarted_grows, happens_stands, opening_stands}

-- what an act acknowledges for the subscriber is no more than n
abbrev IsHeld : Bytes → ℕ → Act → Type 0
IsHeld s n (Receipt t k) = same t s ≡ true → k ≤ n
IsHeld s n _ = Unit {0}

acked_step : (s : Bytes) (n : ℕ) (act : Act) (before : ℕ) → IsHeld s n act → before ≤ n → acked_after s act before ≤ n
acked_step s n (Receipt t k) before has le =
    elim (same t s) as (λ b. same t s ≡ b → cond b (max k before) before ≤ n) [
      | true ↦ λ alike. omega (arith, has alike, le)
      | false ↦ λ other. le
    ] refl
acked_step s n _ before has le = le

-- ---- what follows a call

-- of a call that a receipt made
abbrev CallHeld : Bytes → ℕ → Call → Type 0
CallHeld s n (Receipted t k) = same t s ≡ true → k ≤ n
CallHeld s n _ = Unit {0}

says_held : (s : Bytes) (n : ℕ) (call : Call) (a : Answer) (act : Act) → IsPlain call → CallHeld s n call → Says call a act → IsHeld s n act
says_held s n (Requested caller number command) a act plain has says = subst (IsHeld s n) (sym says) tt
says_held s n (Ingested name come) a act plain has says = subst (IsHeld s n) (sym says) tt
says_held s n (Receipted t k) a act plain has says = subst (IsHeld s n) (sym says) has
says_held s n Ticked a act plain has says = subst (IsHeld s n) (sym says) tt
says_held s n Halted a act plain has says = subst (IsHeld s n) (sym says) tt
says_held s n (Asked query) a act plain has says = absurd says
says_held s n (Claimed names) a act plain has says = absurd plain

-- the entry of a call says what the call says
follow_says : (write : Writer) (h : History) (call : Call) (m : ℕ) (e : Entry) → IsPlain call → follow h call m ≡ Some e → Says call (answer write h call m) e.act
follow_says write h call m e plain is =
    let a : Answer = answer write h call m in
    let counted : Counts write h call a (Some e) = subst (λ (o : Option Entry). Counts write h call a o) is (counts write h call m plain) in
    let kept = counted.0.kept (omega (arith, counted.1)) in
    subst (λ (x : Entry). Says call a x.act) (some_is kept.0 e (sym kept.1 ∙ entry_new e h (place_of a) counted.1)) kept.2

attempt_held : (s : Bytes) (n m : ℕ) (r : Ready) (e : Entry) → attempt_of m r ≡ Some e → IsHeld s n e.act
attempt_held s n m (Later next) e is = absurd (none_some e is)
attempt_held s n m (Now t k) e is = subst (λ (x : Entry). IsHeld s n x.act) (some_is _ e is) tt

tick_held : (s : Bytes) (n : ℕ) (b : Bool) (m : ℕ) (e : Entry) → entry_if b m Advance ≡ Some e → IsHeld s n e.act
tick_held s n true m e is = subst (λ (x : Entry). IsHeld s n x.act) (some_is _ e is) tt
tick_held s n false m e is = absurd (none_some e is)

-- ---- the server

-- no more than n is acknowledged for the subscriber, nor with any one entry that is in doubt
record IsUpTo (c : Server) (s : Bytes) (n : ℕ) : Type 0 where
  pub heard : acked c.list s ≤ n
  pub doubt : Each (λ e. acked (e ∷ c.list) s ≤ n) c.doubt

put_up_to : (c : Server) (s : Bytes) (n : ℕ) (entry : Option Entry) (fate : Fate) → IsUpTo c s n → ((e : Entry) → entry ≡ Some e → IsHeld s n e.act) → IsUpTo (put c entry fate) s n
put_up_to c s n None fate up held = up
put_up_to c s n (Some e) IsKept up held = record { heard = acked_step s n e.act (acked c.list s) (held e refl) up.heard; doubt = tt }
put_up_to c s n (Some e) IsFull up held = up
put_up_to c s n (Some e) IsStarved up held = up
put_up_to c s n (Some e) IsFailed up held = record { heard = up.heard; doubt = (acked_step s n e.act (acked c.list s) (held e refl) up.heard, up.doubt) }

called_up_to : (write : Writer) (c : Server) (s : Bytes) (n : ℕ) (call : Call) (reading : ℕ) (fate : Fate) → IsUpTo c s n → IsPlain call → CallHeld s n call → IsUpTo (called c call reading fate) s n
called_up_to write c s n call reading fate up plain has =
    let m : ℕ = moment_at c.list reading in
    put_up_to c s n (follow c.list call m) fate up (λ e is. says_held s n call (answer write c.list call m) e.act plain has (follow_says write c.list call m e plain is))

claimed_up_to : (c : Server) (s : Bytes) (n : ℕ) (names : List Bytes) (m : ℕ) (tick : Option Entry) (first second : Fate) → IsUpTo c s n → ((e : Entry) → tick ≡ Some e → IsHeld s n e.act) → IsUpTo (claimed_at c names m tick first second) s n
claimed_up_to c s n names m None first second up held = put_up_to c s n (follow c.list (Claimed names) m) second up (attempt_held s n m (choice c.list names m))
claimed_up_to c s n names m (Some e) IsKept second up held =
    put_up_to (put c (Some e) IsKept) s n (follow (e ∷ c.list) (Claimed names) m) second (put_up_to c s n (Some e) IsKept up held) (attempt_held s n m (choice (e ∷ c.list) names m))
claimed_up_to c s n names m (Some e) IsFull second up held = put_up_to c s n (Some e) IsFull up held
claimed_up_to c s n names m (Some e) IsFailed second up held = put_up_to c s n (Some e) IsFailed up held
claimed_up_to c s n names m (Some e) IsStarved second up held = put_up_to c s n (Some e) IsStarved up held

reopened_up_to : (c : Server) (s : Bytes) (n : ℕ) (which : Option ℕ) → IsUpTo c s n → IsUpTo (reopened c (one_of c.doubt which)) s n
reopened_up_to c s n which up = by (one_of c.doubt which) (found which)
  where
    found : (which : Option ℕ) (e : Entry) → one_of c.doubt which ≡ Some e → acked (e ∷ c.list) s ≤ n
    found None e is = absurd (none_some e is)
    found (Some i) e is = each_get (λ (x : Entry). acked (x ∷ c.list) s ≤ n) c.doubt i e up.doubt is

    by : (o : Option Entry) → ((e : Entry) → o ≡ Some e → acked (e ∷ c.list) s ≤ n) → IsUpTo (reopened c o) s n
    by None is = record { heard = up.heard; doubt = tt }
    by (Some e) is = record { heard = is e refl; doubt = tt }

-- ---- every event

abbrev Heard : World → Bytes → Type 0
Heard w s = IsUpTo w.server s (length (w.receivers s).held)

up_more : (c : Server) (s : Bytes) (n m : ℕ) → n ≤ m → IsUpTo c s n → IsUpTo c s m
up_more c s n m le up = record {
  heard = omega (arith, up.heard, le);
  doubt = each_map (λ (e : Entry). acked (e ∷ c.list) s ≤ n) (λ (e : Entry). acked (e ∷ c.list) s ≤ m) c.doubt (λ e old. omega (arith, old, le)) up.doubt;
}

-- what the receiver of t holds has grown
receives_heard : (w : World) (s t : Bytes) (r : Receiver) → length (w.receivers t).held ≤ length r.held → Heard w s → Heard (receives w t r) s
receives_heard w s t r le heard =
    up_more w.server s (length (w.receivers s).held) (length (set_at w.receivers t r s).held)
    (set_holds (λ (u : Bytes) (x : Receiver). length (w.receivers u).held ≤ length x.held) w.receivers t r le (λ u. omega arith) s) heard

receipted_heard : (w : World) (b : Bool) (t s : Bytes) → Heard w s → Heard (receipted b t w) s
receipted_heard w false t s heard = heard
receipted_heard w true t s heard = heard

send_heard : (w : World) (frame : Option Frame) (s : Bytes) → Heard w s → Heard (send frame w) s
send_heard w None s heard = heard
send_heard w (Some f) s heard = heard

frame_heard : (w : World) (t : Bytes) (fate : Fate) (frame : Option Frame) (s : Bytes) → Heard w s → Heard (frame_comes w t fate frame) s
frame_heard w t fate None s heard = heard
frame_heard w t fate (Some f) s heard =
    let taken : Taken = reaction t (length (w.receivers t).held) f in
    receipted_heard (receives w t (reacted (w.receivers t) f fate taken)) (is_receipted fate taken) t s
    (receives_heard w s t (reacted (w.receivers t) f fate taken) (reacted_grows (w.receivers t) f fate taken) heard)

receipt_heard : (write : Writer) (w : World) (reading : ℕ) (fate : Fate) (receipt : Option SentReceipt) (s : Bytes) → ((r : SentReceipt) → receipt ≡ Some r → r.count ≤ length (w.receivers r.from).held) → Heard w s → Heard (receipt_comes write w reading fate receipt) s
receipt_heard write w reading fate None s held heard = heard
receipt_heard write w reading fate (Some r) s held heard =
    called_up_to write w.server s (length (w.receivers s).held) (Receipted r.from r.count) reading fate heard tt
    (λ alike. subst (λ (u : Bytes). r.count ≤ length (w.receivers u).held) (same_is r.from s alike) (held r refl))

not_same : (b : Bool) → not b ≡ true → b ≡ true → ⊥
not_same true other alike = true≢false (sym other)
not_same false other alike = true≢false (sym alike)

happens_heard : (write : Writer) (w : World) (event : Event) (s : Bytes) → is_honest s event ≡ true → Stands write w → Heard w s → Heard (happens write w event) s
happens_heard write w (Requests caller number command reading fate) s honest stands heard = called_up_to write w.server s _ (Requested caller number command) reading fate heard tt tt
happens_heard write w (Ingests name come reading fate) s honest stands heard = called_up_to write w.server s _ (Ingested name come) reading fate heard tt tt
happens_heard write w (Ticks reading fate) s honest stands heard = called_up_to write w.server s _ Ticked reading fate heard tt tt
happens_heard write w (Halts reading fate) s honest stands heard = called_up_to write w.server s _ Halted reading fate heard tt tt
happens_heard write w (Asks query reading fate) s honest stands heard = called_up_to write w.server s _ (Asked query) reading fate heard tt tt
happens_heard write w (Claims names reading first second) s honest stands heard =
    let m : ℕ = moment_at w.server.list reading in
    claimed_up_to w.server s _ names m (follow w.server.list Ticked m) first second heard (λ e is. tick_held s _ (some_waits w.server.list m) m e is)
happens_heard write w (Sends t k) s honest stands heard = send_heard w (frame_at write w.server.list t k) s heard
happens_heard write w (FrameComes which t fate) s honest stands heard = frame_heard w t fate (slice_get w.frames which) s heard
happens_heard write w (ReceiptComes which reading fate) s honest stands heard =
    receipt_heard write w reading fate (slice_get w.receipts which) s (λ r is. each_get (λ (x : SentReceipt). x.count ≤ length (w.receivers x.from).held) w.receipts which r stands.receipts is) heard
happens_heard write w (Forges t k reading fate) s honest stands heard =
    called_up_to write w.server s _ (Receipted t k) reading fate heard tt (λ alike. absurd (not_same (same t s) honest alike))
happens_heard write w (Reopens which) s honest stands heard = reopened_up_to w.server s _ which heard
happens_heard write w (ReceiverReopens t which) s honest stands heard =
    let r : Receiver = w.receivers t in
    receives_heard w s t (restarted r (one_of r.doubt which)) (restarted_grows r (one_of r.doubt which)) heard

and_both : (a b : Bool) → (a && b) ≡ true → (a ≡ true) × (b ≡ true)
and_both true true e = (refl, refl)
and_both true false e = absurd (true≢false (sym e))
and_both false b e = absurd (true≢false (sym e))

run_heard : (write : Writer) (events : List Event) (w : World) (s : Bytes) → list_all (is_honest s) events ≡ true → Stands write w → Heard w s → Heard (run_by (happens write) events w) s
run_heard write [] w s honest stands heard = heard
run_heard write (e ∷ events) w s honest stands heard =
    let both = and_both (is_honest s e) (list_all (is_honest s) events) honest in
    run_heard write events (happens write w e) s both.1 (happens_stands write w e stands) (happens_heard write w e s both.0 stands heard)

pub receipts_hold : ReceiptsHold happens
receipts_hold write s events honest =
    let heard = run_heard write events opening s honest (opening_stands write) (record { heard = omega arith; doubt = tt }) in
    record { heard = heard.heard; doubt = heard.doubt }
