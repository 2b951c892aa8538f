-- A turn is a list of events of the world.
use Rattle.std.proofs.Common.{◌≡◌, ℕ, List, [], ◌∷◌, ◌++◌, Option, Some, None, refl, sym, ap, ◌∙◌, subst}
use Rattle.news_types.specs.declared.entry.Entry.{Entry}
use Rattle.news_types.specs.Names.{Bytes}
use Rattle.news_types.specs.History.{History}
use Rattle.news_types.specs.Books.{Book, onto}
use Rattle.news_types.specs.Frames.{Frame, Writer, frame_at, frame_bytes}
use Rattle.news_types.specs.Calls as call
use Rattle.news_types.specs.Calls.{Fate, IsKept}
use Rattle.news_types.specs.Server.{Server, called, claimed}
use Rattle.news_types.proofs.Books.{onto_more}
use Rattle.feed_frames.specs.Writer.{the_writer}
use Rattle.news_io.specs.Keeper.{KeeperMeaning}
use Rattle.news_room.specs.Claims.{IsClaimEvent}
use Rattle.news_room.specs.Events.{Serves, IsEvent}
use Rattle.news_room.specs.Said.{said_kept}
use Rattle.news_room.specs.declared.answers.Kept.{Kept}
use Rattle.news_room.specs.declared.claim.Claimed.{Claimed}
use Rattle.news_room.specs.declared.room.Room.{Room}
use Rattle.world_laws.specs.World.{World, Event, Sends, send, claims, happens, run}
use Rattle.world_laws.proofs.Bridge.{calls_are_events}
use Rattle.publish_workers.specs.Turns.{Exchange, Unsent, Unread, Replied, Receipted, Turn, frames_of}
use Rattle.publish_workers.specs.Events.{sendings, beginning, Brings, WasSent, IsForged, IsEnding, AreSent, AnswersReceipt, IsTurnOfWorld}

-- no receipt came
abbrev pub IsQuiet : Exchange → Type 0
IsQuiet Unsent = Unit {0}
IsQuiet Unread = Unit {0}
IsQuiet (Replied reply) = Unit {0}
IsQuiet (Receipted reply n at kept) = ⊥

-- ---- the beginning

send_server : (w : World) (o : Option Frame) → (send o w).server ≡ w.server
send_server w None = refl
send_server w (Some f) = refl

-- a sending leaves the server as it is
sendings_server : (write : Writer) (w : World) (c : Claimed) (x : Exchange) → (run write (sendings c x) w).server ≡ w.server
sendings_server write w (Claimed.Job s k frame front) Unsent = refl
sendings_server write w (Claimed.Job s k frame front) Unread = send_server w _
sendings_server write w (Claimed.Job s k frame front) (Replied reply) = send_server w _
sendings_server write w (Claimed.Job s k frame front) (Receipted reply n at kept) = send_server w _
sendings_server write w (Claimed.Idle next) x = refl
sendings_server write w Claimed.Fault x = refl
sendings_server write w (Claimed.Full size count) x = refl
sendings_server write w Claimed.Memory x = refl

begun_server : (write : Writer) (w : World) (names : List Bytes) (t : Turn) (first second : Fate) → (run write (beginning names t first second) w).server ≡ claimed w.server names t.reading first second
begun_server write w names t first second = sendings_server write (claims write w names t.reading first second) t.claimed t.exchange

-- the frame of a job, in the list that its claim left
abbrev pub HasFrame : Writer → History → Claimed → Type 0
HasFrame write g (Claimed.Job s k frame front) = (f : Frame) × (frame_at write g s k ≡ Some f) × (frame ≡ frame_bytes f)
HasFrame write g (Claimed.Idle next) = Unit {0}
HasFrame write g Claimed.Fault = Unit {0}
HasFrame write g (Claimed.Full size count) = Unit {0}
HasFrame write g Claimed.Memory = Unit {0}

one_sent : (write : Writer) (w v : World) (s : Bytes) (k : ℕ) (f : Frame) → v.frames ≡ w.frames → frame_at write v.server.list s k ≡ Some f → (run write (Sends s k ∷ []) v).frames ≡ f ∷ w.frames
one_sent write w v s k f same is = ap (λ (o : Option Frame). (send o v).frames) is ∙ ap (λ (fs : List Frame). f ∷ fs) same

are_sent : (write : Writer) (w v : World) (c : Claimed) (x : Exchange) → v.frames ≡ w.frames → HasFrame write v.server.list c → AreSent (frames_of c x) w (run write (sendings c x) v)
are_sent write w v (Claimed.Job s k frame front) Unsent same has = same
are_sent write w v (Claimed.Job s k frame front) Unread same has = (has.0, has.2, one_sent write w v s k has.0 same has.1, refl)
are_sent write w v (Claimed.Job s k frame front) (Replied reply) same has = (has.0, has.2, one_sent write w v s k has.0 same has.1, refl)
are_sent write w v (Claimed.Job s k frame front) (Receipted reply n at kept) same has = (has.0, has.2, one_sent write w v s k has.0 same has.1, refl)
are_sent write w v (Claimed.Idle next) x same has = same
are_sent write w v Claimed.Fault x same has = same
are_sent write w v (Claimed.Full size count) x same has = same
are_sent write w v Claimed.Memory x same has = same

-- ---- the end

no_ending : (w : World) (c : Claimed) (x : Exchange) (fate : Fate) (ending : List Event) → IsQuiet x → IsEnding w c x fate ending → ending ≡ []
no_ending w (Claimed.Job s k frame front) Unsent fate ending quiet is = is
no_ending w (Claimed.Job s k frame front) Unread fate ending quiet is = is
no_ending w (Claimed.Job s k frame front) (Replied reply) fate ending quiet is = is
no_ending w (Claimed.Job s k frame front) (Receipted reply n at kept) fate ending quiet is = absurd quiet
no_ending w (Claimed.Idle next) x fate ending quiet is = is
no_ending w Claimed.Fault x fate ending quiet is = is
no_ending w (Claimed.Full size count) x fate ending quiet is = is
no_ending w Claimed.Memory x fate ending quiet is = is

no_answer : (write : Writer) (w : World) (c : Claimed) (x : Exchange) (fate : Fate) → IsQuiet x → AnswersReceipt write w c x fate
no_answer write w (Claimed.Job s k frame front) Unsent fate quiet = tt
no_answer write w (Claimed.Job s k frame front) Unread fate quiet = tt
no_answer write w (Claimed.Job s k frame front) (Replied reply) fate quiet = tt
no_answer write w (Claimed.Job s k frame front) (Receipted reply n at kept) fate quiet = absurd quiet
no_answer write w (Claimed.Idle next) x fate quiet = tt
no_answer write w Claimed.Fault x fate quiet = tt
no_answer write w (Claimed.Full size count) x fate quiet = tt
no_answer write w Claimed.Memory x fate quiet = tt

-- the arrival of a receipt is a call
brought : (write : Writer) (w : World) (s : Bytes) (n at : ℕ) (fate : Fate) {last : Event} → Brings w s n at fate last → (happens write w last).server ≡ called w.server (call.Receipted s n) at fate
brought write w s n at fate (WasSent which is) = (calls_are_events.receipt write w which (record { from = s; count = n }) at fate is).server
brought write w s n at fate IsForged = refl

module _ {K : Type 0} (keeper : KeeperMeaning K) (old between : Room K) (b : Book) (names : List Bytes) (t : Turn) (first : List Entry) (claim : IsClaimEvent keeper old between b first names t.reading t.claimed)
    (has : HasFrame (the_writer b.store) (onto first b).list t.claimed) where
  -- the room behind the claim serves what the world's beginning leaves
  begun : (w : World) → Serves keeper old b w.server → Serves keeper between (onto first b) (run (the_writer b.store) (beginning names t claim.first claim.second) w).server
  begun w is = subst (λ (c : Server). Serves keeper between (onto first b) c) (sym (begun_server (the_writer b.store) w names t claim.first claim.second)) (claim.serves w.server is)

  begun_sent : (w : World) → Serves keeper old b w.server → AreSent (frames_of t.claimed t.exchange) w (run (the_writer b.store) (beginning names t claim.first claim.second) w)
  begun_sent w is =
      let write : Writer = the_writer b.store in
      let v : World = claims write w names t.reading claim.first claim.second in
      let list : v.server.list ≡ (onto first b).list = (claim.serves w.server is).list_is in
      are_sent write w v t.claimed t.exchange refl (subst (λ (g : History). HasFrame write g t.claimed) (sym list) has)

  -- a turn without a receipt
  pub quiet_world : IsQuiet t.exchange → IsTurnOfWorld keeper old between b first names t
  quiet_world quiet = record {
    first = claim.first;
    second = claim.second;
    third = IsKept;
    claimed = λ w is. claim.answers w.server is;
    sent = begun_sent;
    received = λ w others is still.
        let write : Writer = the_writer b.store in no_answer write (run write others (run write (beginning names t claim.first claim.second) w)) t.claimed t.exchange IsKept quiet;
    serves = λ w others ending is still ends.
        let write : Writer = the_writer b.store in
        let behind : World = run write others (run write (beginning names t claim.first claim.second) w) in
        subst (λ (es : List Event). Serves keeper between (onto first b) (run write es behind).server) (sym (no_ending behind t.claimed t.exchange IsKept ending quiet ends))
        (subst (λ (c : Server). Serves keeper between (onto first b) c) (sym still) (begun w is));
  }

module _ {K : Type 0} (keeper : KeeperMeaning K) (old between new : Room K) (b : Book) (names : List Bytes) (reading : ℕ) (s : Bytes) (k : ℕ) (frame : Bytes) (front : ℕ) (reply : Bytes) (n at : ℕ) (kept : Kept)
    (first later : List Entry) where
  -- a turn with a receipt
  pub receipted_world : (claim : IsClaimEvent keeper old between b first names reading (Claimed.Job s k frame front)) → HasFrame (the_writer b.store) (onto first b).list (Claimed.Job s k frame front)
      → IsEvent keeper between new (onto first b) later (call.Receipted s n) at (said_kept kept)
      → IsTurnOfWorld keeper old new b (first ++ later) names (record { reading = reading; claimed = Claimed.Job s k frame front; exchange = Receipted reply n at kept })
  receipted_world claim has receipt =
      let t : Turn = record { reading = reading; claimed = Claimed.Job s k frame front; exchange = Receipted reply n at kept } in
      let write : Writer = the_writer b.store in
      record {
        first = claim.first;
        second = claim.second;
        third = receipt.fate;
        claimed = λ w is. claim.answers w.server is;
        sent = begun_sent keeper old between b names t first claim has;
        received = λ w others is still. receipt.answers _ (subst (λ (c : Server). Serves keeper between (onto first b) c) (sym still) (begun keeper old between b names t first claim has w is));
        serves = λ w others ending is still ends.
            let behind : World = run write others (run write (beginning names t claim.first claim.second) w) in
            let here : Serves keeper between (onto first b) behind.server = subst (λ (c : Server). Serves keeper between (onto first b) c) (sym still) (begun keeper old between b names t first claim has w is) in
            subst (λ (es : List Event). Serves keeper new (onto (first ++ later) b) (run write es behind).server) (sym ends.1)
            (subst (λ (c : Server). Serves keeper new (onto (first ++ later) b) c) (sym (brought write behind s n at receipt.fate ends.2))
            (subst (λ (d : Book). Serves keeper new d (called behind.server (call.Receipted s n) at receipt.fate)) (onto_more first later b) (receipt.serves behind.server here)));
      }
