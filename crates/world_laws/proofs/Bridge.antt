-- What the calls cite is what the events of the world do.
use Rattle.std.proofs.Common.{◌≡◌, inl, inr, ℕ, suc, Bool, true, false, cond, List, [], ◌∷◌, ◌++◌, map, length, Option, Some, None, refl, sym, ap, ◌∙◌, subst}
use Rattle.std.specs.List.{slice_get}
use Rattle.news_types.specs.declared.entry.Entry.{Entry}
use Rattle.news_types.specs.declared.query.Query.TheVariants as question
use Rattle.news_types.specs.declared.query.Answer.TheVariants as told
use Rattle.news_types.specs.Names.{Bytes, same}
use Rattle.news_types.specs.History.{History}
use Rattle.news_types.specs.Legal.{IsLegal}
use Rattle.news_types.specs.Frames.{Frame, Writer, frame_at, frame_bytes}
use Rattle.news_types.specs.Calls.{Call, Receipted, Asked, Claimed, Answer, Job, Tells, Fate, IsKept, IsFull, IsFailed, IsStarved}
use Rattle.news_types.specs.Server.{Server, put, call_answer, claim_answer}
use Rattle.news_types.specs.Receiver.{Receiver, accepted, reaction, taken, is_receipted, restarted}
use Rattle.news_types.specs.Doubt.{IsAmong, Leaves, payloads}
use Rattle.news_types.proofs.Members.{same_is, same_self}
use Rattle.news_types.proofs.Doubt.{place_in}
use Rattle.world_laws.specs.World.{World, Event, SentReceipt, Asks, Claims, Reopens, ReceiverReopens, send, set_at, receives, receipted, frame_comes, receipt_comes, reopened, happens, run, after}
use Rattle.world_laws.specs.Headline.{IsShown}
use Rattle.world_laws.specs.Bridge.{IsCall, OneChanges, IsTake, IsOpened, IsSent, LeavesOf, LeavesFrames, IsAmongFrames, StaysInDoubt, CallsAreEvents}
use Rattle.world_laws.proofs.Answers.{shown_more}
use Rattle.world_laws.proofs.Steps.{Stands}
use Rattle.world_laws.proofs.Events.{happens_stands, run_stands, all_stands}
use Rattle.world_laws.proofs.Growth.{nothing_is_lost}

receipt_is : (write : Writer) (w : World) (reading : ℕ) (fate : Fate) (receipt : SentReceipt) (found : Option SentReceipt) → found ≡ Some receipt → IsCall write w (receipt_comes write w reading fate found) (Receipted receipt.from receipt.count) reading fate
receipt_is write w reading fate receipt found is =
    subst (λ (o : Option SentReceipt). IsCall write w (receipt_comes write w reading fate o) (Receipted receipt.from receipt.count) reading fate) (sym is)
    (record { server = refl; out = refl; frames = refl; receipts = refl; receivers = refl })

-- a receiver that has changed is at its own name
one_changes : (w : World) (s : Bytes) (r : Receiver) → OneChanges w (receives w s r) s r
one_changes w s r = record { server = refl; out = refl; frames = refl; mine = rw (same_self s) refl; others = other }
  where
    other : (t : Bytes) → (s ≡ t → ⊥) → set_at w.receivers s r t ≡ w.receivers t
    other t differ = elim (same s t) as (λ b. same s t ≡ b → cond b r (w.receivers t) ≡ w.receivers t) [
      | true ↦ λ alike. absurd (differ (same_is s t alike))
      | false ↦ λ unlike. refl
    ] refl

-- whether a receipt goes out or not
receipted_is : (b : Bool) (w : World) (s : Bytes) (f : Frame) (fate : Fate) → b ≡ is_receipted fate (reaction s (length (w.receivers s).held) f) → IsTake w (receipted b s (receives w s (taken s (w.receivers s) f fate))) s f fate
receipted_is b w s f fate is = by b is
  where
    r : Receiver
    r = taken s (w.receivers s) f fate

    change : OneChanges w (receives w s (taken s (w.receivers s) f fate)) s (taken s (w.receivers s) f fate)
    change = one_changes w s (taken s (w.receivers s) f fate)

    by : (b : Bool) → b ≡ is_receipted fate (reaction s (length (w.receivers s).held) f) → IsTake w (receipted b s (receives w s (taken s (w.receivers s) f fate))) s f fate
    by true is = record {
      change = record { server = refl; out = refl; frames = refl; mine = change.mine; others = change.others };
      receipts = rw (sym is) (ap (λ (x : Receiver). record { from = s; count = length x.held } ∷ w.receipts) change.mine);
    }
    by false is = record { change = change; receipts = rw (sym is) refl }

take_is : (w : World) (s : Bytes) (fate : Fate) (f : Frame) (found : Option Frame) → found ≡ Some f → IsTake w (frame_comes w s fate found) s f fate
take_is w s fate f found is =
    subst (λ (o : Option Frame). IsTake w (frame_comes w s fate o) s f fate) (sym is) (receipted_is (is_receipted fate (reaction s (length (w.receivers s).held) f)) w s f fate refl)

-- ---- frames that were answered

-- what is shown stays so as the list goes on
shown_on : (write : Writer) (new h : History) (a : Answer) (call : Call) → IsLegal (new ++ h) → IsShown write h a call → IsShown write (new ++ h) a call
shown_on write [] h a call legal shown = shown
shown_on write (e ∷ new) h a call legal shown = shown_more write e (new ++ h) a call legal (shown_on write new h a call legal.0 shown)

-- and so as anything happens
shown_later : (write : Writer) (w : World) (more : List Event) (a : Answer) (call : Call) → Stands write w → IsShown write w.server.list a call → IsShown write (run write more w).server.list a call
shown_later write w more a call stands shown =
    let later = run_stands write more w stands in
    let goes = (nothing_is_lost write w more).list in
    subst (λ (h : History). IsShown write h a call) (sym goes.1) (shown_on write goes.0 w.server.list a call (subst IsLegal goes.1 later.legal) shown)

sent_is : (write : Writer) (w : World) (s : Bytes) (k : ℕ) (f : Frame) → frame_at write w.server.list s k ≡ Some f → IsSent write w s k f
sent_is write w s k f is = ap (λ (o : Option Frame). (send o w).frames) is

job_is : (write : Writer) (w : World) (names : List Bytes) (s : Bytes) (k front : ℕ) (f : Frame) (a : Answer) → IsShown write w.server.list a (Claimed names) → a ≡ Job s k (Some f) front → IsSent write w s k f
job_is write w names s k front f a shown is =
    let there = subst (λ (x : Answer). IsShown write w.server.list x (Claimed names)) is shown in
    sent_is write w s k f (there.2 ∙ sym there.1)

asked_is : (write : Writer) (w : World) (s : Bytes) (k : ℕ) (bytes : Bytes) (a : Answer) → IsShown write w.server.list a (Asked (question.Frame s k)) → a ≡ Tells (told.Frame bytes) → (f : Frame) × (bytes ≡ frame_bytes f) × IsSent write w s k f
asked_is write w s k bytes a shown is =
    let there = subst (λ (x : Answer). IsShown write w.server.list x (Asked (question.Frame s k))) is shown in
    (there.0, there.1, sent_is write w s k there.0 there.2)

-- ---- stops

stop_is : (write : Writer) (spelled : Entry → Bytes) (w : World) (opened : List Bytes) → LeavesOf spelled w.server opened → (which : Option ℕ) × (opened ≡ payloads spelled (happens write w (Reopens which)).server.list)
stop_is write spelled w opened (inl is) = (None, is)
stop_is write spelled w opened (inr one) = (Some one.0, one.3 ∙ ap (λ (o : Option Entry). payloads spelled (reopened w.server o).list) (sym one.2))

opened_is : (w : World) (s : Bytes) (found : Option Frame) (opened : List Frame) → restarted (w.receivers s) found ≡ record { held = opened; doubt = [] } → IsOpened w (receives w s (restarted (w.receivers s) found)) s opened
opened_is w s found opened is = record { change = subst (OneChanges w (receives w s (restarted (w.receivers s) found)) s) is (one_changes w s (restarted (w.receivers s) found)); receipts = refl }

receiver_stop_is : (write : Writer) (w : World) (s : Bytes) (opened : List Frame) → LeavesFrames (w.receivers s) opened → (which : Option ℕ) × IsOpened w (happens write w (ReceiverReopens s which)) s opened
receiver_stop_is write w s opened (inl is) = (None, opened_is w s None opened (ap (λ (l : List Frame). record { held = l; doubt = [] }) (sym is)))
receiver_stop_is write w s opened (inr one) =
    (Some one.0, opened_is w s (slice_get (w.receivers s).doubt one.0) opened (ap (restarted (w.receivers s)) one.2 ∙ ap (λ (l : List Frame). record { held = l; doubt = [] }) (sym one.3)))

append_is : (spelled : Entry → Bytes) (c : Server) (e : Entry) (fate : Fate) (x : Bytes) → StaysInDoubt fate (IsAmong spelled c.doubt x) (x ≡ spelled e) → IsAmong spelled (put c (Some e) fate).doubt x
append_is spelled c e IsKept x stays = absurd stays
append_is spelled c e IsFailed x (inl before) = inr before
append_is spelled c e IsFailed x (inr tried) = inl tried
append_is spelled c e IsFull x stays = stays
append_is spelled c e IsStarved x stays = stays

-- what a crash leaves of a keeper is the list behind some reopening
reopen_is : (write : Writer) (spelled : Entry → Bytes) (w : World) (opened : List Bytes) → Leaves (payloads spelled w.server.list) (IsAmong spelled w.server.doubt) opened → (which : Option ℕ) × (opened ≡ payloads spelled (happens write w (Reopens which)).server.list)
reopen_is write spelled w opened (inl is) = stop_is write spelled w opened (inl is)
reopen_is write spelled w opened (inr one) =
    let place = place_in spelled w.server.doubt one.0 one.1 in
    stop_is write spelled w opened (inr (place.0, place.1, place.2, one.2 ∙ ap (λ (x : Bytes). payloads spelled w.server.list ++ x ∷ []) place.3))

receiver_append_is : (spelled : Frame → Bytes) (r : Receiver) (f : Frame) (fate : Fate) (x : Bytes) → StaysInDoubt fate (IsAmongFrames spelled r.doubt x) (x ≡ spelled f) → IsAmongFrames spelled (accepted r f fate).doubt x
receiver_append_is spelled r f IsKept x stays = absurd stays
receiver_append_is spelled r f IsFailed x (inl before) = (suc before.0, before.1, before.2, before.3)
receiver_append_is spelled r f IsFailed x (inr tried) = (0, f, refl, tried)
receiver_append_is spelled r f IsFull x stays = stays
receiver_append_is spelled r f IsStarved x stays = stays

map_more : (spelled : Frame → Bytes) (frames : List Frame) (f : Frame) → map spelled (frames ++ f ∷ []) ≡ map spelled frames ++ spelled f ∷ []
map_more spelled [] f = refl
map_more spelled (g ∷ frames) f = ap (λ l. spelled g ∷ l) (map_more spelled frames f)

receiver_reopen_is : (write : Writer) (spelled : Frame → Bytes) (w : World) (s : Bytes) (opened : List Bytes) → Leaves (map spelled (w.receivers s).held) (IsAmongFrames spelled (w.receivers s).doubt) opened
    → (frames : List Frame) × (opened ≡ map spelled frames) × (which : Option ℕ) × IsOpened w (happens write w (ReceiverReopens s which)) s frames
receiver_reopen_is write spelled w s opened (inl is) =
    let stop = receiver_stop_is write w s (w.receivers s).held (inl refl) in ((w.receivers s).held, is, stop.0, stop.1)
receiver_reopen_is write spelled w s opened (inr one) =
    let place = one.1 in
    let frames : List Frame = (w.receivers s).held ++ place.1 ∷ [] in
    let stop = receiver_stop_is write w s frames (inr (place.0, place.1, place.2, refl)) in
    (frames, one.2 ∙ ap (λ (x : Bytes). map spelled (w.receivers s).held ++ x ∷ []) place.3 ∙ sym (map_more spelled (w.receivers s).held place.1), stop.0, stop.1)

runs_are : (write : Writer) (first second : List Event) (w : World) → run write (first ++ second) w ≡ run write second (run write first w)
runs_are write [] second w = refl
runs_are write (e ∷ first) second w = runs_are write first second (happens write w e)

pub calls_are_events : CallsAreEvents
calls_are_events = record {
  request = λ write w caller number command reading fate. record { server = refl; out = refl; frames = refl; receipts = refl; receivers = refl };
  ingest = λ write w name come reading fate. record { server = refl; out = refl; frames = refl; receipts = refl; receivers = refl };
  tick = λ write w reading fate. record { server = refl; out = refl; frames = refl; receipts = refl; receivers = refl };
  halt = λ write w reading fate. record { server = refl; out = refl; frames = refl; receipts = refl; receivers = refl };
  ask = λ write w query reading fate. record { server = refl; out = refl; frames = refl; receipts = refl; receivers = refl };
  claim = λ write w names reading first second. record { server = refl; out = refl; frames = refl; receipts = refl; receivers = refl };
  receipt = λ write w which receipt reading fate is. receipt_is write w reading fate receipt (slice_get w.receipts which) is;
  job = λ write events more names reading first second s k front f is.
      let w : World = after (happens write) events in
      let v : World = happens write w (Claims names reading first second) in
      let stands = happens_stands write w (Claims names reading first second) (all_stands write events) in
      let a : Answer = claim_answer write w.server names reading first second in
      job_is write (run write more v) names s k front f a (shown_later write v more a (Claimed names) stands stands.out.0.sound.shown) is;
  asked = λ write events more s k reading fate bytes is.
      let w : World = after (happens write) events in
      let v : World = happens write w (Asks (question.Frame s k) reading fate) in
      let stands = happens_stands write w (Asks (question.Frame s k) reading fate) (all_stands write events) in
      let a : Answer = call_answer write w.server (Asked (question.Frame s k)) reading fate in
      asked_is write (run write more v) s k bytes a (shown_later write v more a (Asked (question.Frame s k)) stands stands.out.0.sound.shown) is;
  take = λ write w which f s fate is. take_is w s fate f (slice_get w.frames which) is;
  stop = stop_is;
  receiver_stop = receiver_stop_is;
  append = append_is;
  reopen = reopen_is;
  receiver_append = receiver_append_is;
  receiver_reopen = receiver_reopen_is;
  runs = runs_are;
}
