-- A turn of a worker is a push of the world.
use Rattle.std.proofs.Common.{◌≡◌, ℕ, ◌+◌, true, List, [], ◌∷◌, ◌++◌, Option, Some, None, refl, sym, ap, ◌∙◌, subst, append-nil}
use Rattle.news_types.specs.declared.entry.Entry.{Entry}
use Rattle.news_types.specs.declared.entry.Act.TheVariants.{Attempt}
use Rattle.news_types.specs.declared.query.Ready.{Ready}
use Rattle.news_types.specs.declared.query.Ready.TheVariants.{Now}
use Rattle.news_types.specs.Names.{Bytes}
use Rattle.news_types.specs.History.{History, moment_at}
use Rattle.news_types.specs.Books.{Book, followed_by, onto}
use Rattle.news_types.specs.Delivery.{choice}
use Rattle.news_types.specs.Frames.{Frame, Writer, frame_at}
use Rattle.news_types.specs.Legal.{IsLegal}
use Rattle.news_types.specs.Outcome.{entry_of}
use Rattle.news_types.specs.Calls as call
use Rattle.news_types.specs.Calls.{Answer, Fate, IsKept, IsFull, IsFailed, IsStarved, follow, given, job, answer, ticked, more as with_entry}
use Rattle.news_types.specs.Server.{Server, called, claimed as claims, call_answer, claim_answer, claim_answer_at}
use Rattle.news_types.proofs.Books.{behind_more, onto_more}
use Rattle.feed_frames.specs.Writer.{the_writer}
use Rattle.news_io.specs.Keeper.{KeeperMeaning}
use Rattle.news_room.specs.Beside.{Beside}
use Rattle.news_room.specs.Log.{sizes}
use Rattle.news_room.specs.Claims.{IsSaid, ClaimStep, ClaimHappens, claim_entries, attempt_entries, is_claim_fault}
use Rattle.news_room.specs.Events.{Serves, Happens}
use Rattle.news_room.specs.Said.{said_kept}
use Rattle.news_room.specs.Stands.{numbers}
use Rattle.news_room.specs.Steps.{ReceiptStep, entries, tick_entries}
use Rattle.news_room.specs.declared.answers.Kept.{Kept}
use Rattle.news_room.specs.declared.claim.Claimed.{Claimed}
use Rattle.news_room.specs.declared.room.Room.{Room}
use Rattle.news_room.proofs.Claims.{attempt_is, behind_tick}
use Rattle.world_laws.proofs.Frames.{frame_stays}
use Rattle.world_laws.specs.World.{World, Claims, Sends, send, happens, run}
use Rattle.publish_workers.specs.Receipts.{Acknowledges}
use Rattle.publish_workers.specs.Steps.{IsReceiptAnswer, Exchanges}
use Rattle.publish_workers.specs.Turns as turn
use Rattle.publish_workers.specs.Turns.{Turn, word, word_of, word_of_receipt, passed_of, receipt_readings, readings}
use Rattle.program_events.specs.Drains.{WorldTurn, events_in}
use Rattle.program_events.proofs.Doubting.{Doubted, claim_doubted, receipt_doubted}
use Rattle.program_run.specs.Opens.{size_of}
use Rattle.program_run.specs.Pushed.{Exchange, Unsent, Unread, NoReceipt, Receipted, Push, sends, claimed, claim, push_events, receipt_reading, IsWithin, IsReceipt, IsExchange, IsExchangeOf, IsPush, came_of_receipt, came_by, came_in, passed_by}
use Rattle.program_run.proofs.PushWithin.{uses_more, claim_kept, receipt_kept, given_within, full_within, failed_within}
use Rattle.program_run.proofs.PushWords.{came_word}

-- ---- the frame that was claimed

given_job : (o : Option Entry) (fate : Fate) (a : Answer) (s : Bytes) (k : ℕ) (x : Option Frame) (n : ℕ) → given o fate a ≡ call.Job s k x n → a ≡ call.Job s k x n
given_job None IsKept a s k x n is = is
given_job None IsFull a s k x n is = is
given_job None IsFailed a s k x n is = is
given_job None IsStarved a s k x n is = absurd cc
given_job (Some e) IsKept a s k x n is = is
given_job (Some e) IsFull a s k x n is = absurd cc
given_job (Some e) IsFailed a s k x n is = absurd cc
given_job (Some e) IsStarved a s k x n is = absurd cc

claim_job : (write : Writer) (h : History) (names : List Bytes) (m : ℕ) (o : Option Entry) (first second : Fate) (s : Bytes) (k : ℕ) (x : Option Frame) (n : ℕ) → claim_answer_at write h names m o first second ≡ call.Job s k x n
    → answer write h (call.Claimed names) m ≡ call.Job s k x n
claim_job write h names m None first second s k x n is = given_job (follow h (call.Claimed names) m) second (answer write h (call.Claimed names) m) s k x n is
claim_job write h names m (Some e) IsKept second s k x n is = given_job (follow (e ∷ h) (call.Claimed names) m) second (answer write h (call.Claimed names) m) s k x n is
claim_job write h names m (Some e) IsFull second s k x n is = absurd cc
claim_job write h names m (Some e) IsFailed second s k x n is = absurd cc
claim_job write h names m (Some e) IsStarved second s k x n is = absurd cc

-- the frame of the answer is that of the feed at the list behind the tick
job_frame : (write : Writer) (g : History) (s : Bytes) (k : ℕ) (r : Ready) (x : Option Frame) (n : ℕ) → r ≡ Now s k → job write g r ≡ call.Job s k x n → frame_at write g s k ≡ x
job_frame write g s k r x n chosen is = let said : call.Job s k (frame_at write g s k) _ ≡ call.Job s k x n = ap (job write g) (sym chosen) ∙ is in cc said

claim_list : (h : History) (names : List Bytes) (m : ℕ) (s : Bytes) (k : ℕ) → choice (ticked h m) names m ≡ Now s k → followed_by (claim_entries h names m) h ≡ entry_of m (Attempt s k) ∷ ticked h m
claim_list h names m s k is =
    sym (behind_more (tick_entries h m) (attempt_entries (ticked h m) names m) h)
    ∙ ap (followed_by (attempt_entries (ticked h m) names m)) (behind_tick h m (tick_entries h m) refl)
    ∙ ap (λ (l : List Entry). followed_by l (ticked h m)) (attempt_is (ticked h m) names m s k is)

-- so it is at the list that the claim left
claimed_frame : (write : Writer) (h : History) (names : List Bytes) (m : ℕ) (first second : Fate) (left : History) (s : Bytes) (k : ℕ) (f : Frame) (n : ℕ) → choice (ticked h m) names m ≡ Now s k → left ≡ followed_by (claim_entries h names m) h → IsLegal left
    → claim_answer_at write h names m (follow h call.Ticked m) first second ≡ call.Job s k (Some f) n → frame_at write left s k ≡ Some f
claimed_frame write h names m first second left s k f n chosen is legal said =
    let g : History = ticked h m in
    let e : Entry = entry_of m (Attempt s k) in
    let here : left ≡ e ∷ g = is ∙ claim_list h names m s k chosen in
    let there : frame_at write g s k ≡ Some f = job_frame write g s k (choice g names m) (Some f) n chosen (claim_job write h names m (follow h call.Ticked m) first second s k (Some f) n said) in
    ap (λ (l : History). frame_at write l s k) here ∙ frame_stays write e g s k f (subst IsLegal here legal) there

tick_list : (h : History) (o : Option Entry) → followed_by (entries o) h ≡ with_entry o h
tick_list h None = refl
tick_list h (Some e) = refl

-- ---- a push

send_server : (o : Option Frame) (v : World) → (send o v).server ≡ v.server
send_server None v = refl
send_server (Some f) v = refl

sent_server : (write : Writer) (v : World) (s : Bytes) (k : ℕ) → (happens write v (Sends s k)).server ≡ v.server
sent_server write v s k = send_server (frame_at write v.server.list s k) v

module _ {K : Type 0} (keeper : KeeperMeaning K) where
  abbrev pub InWorld : Room K → Server → Type 0
  InWorld r c = Doubted (keeper.doubts r.keeper) c

  -- what a keeper uses is what the list takes of the log
  abbrev pub Uses : Room K → Book → Type 0
  Uses r b = keeper.used r.keeper ≡ size_of b.list

  -- of a turn that left the room so, with these entries more, in this world: a push
  pub record OnePush (old new : Room K) (b : Book) (more : List Entry) (names : List Bytes) (t : Turn) (v : World) : Type 0 where
    pub push : Push
    pub names_is : push.names ≡ names
    pub is : IsPush (the_writer b.store) v push
    pub came : came_in (the_writer b.store) v push ≡ came_word (word t)
    pub passed : passed_by (claimed (the_writer b.store) v push) push.exchange ≡ passed_of t.claimed t.exchange
    pub took : push.reading ∷ receipt_reading push.exchange ≡ readings t
    pub events : (x : WorldTurn) × (push_events (the_writer b.store) v push ≡ events_in x)
    pub serves : Serves keeper new (onto more b) (run (the_writer b.store) (push_events (the_writer b.store) v push) v).server
    pub uses : Uses new (onto more b)
    pub doubted : b.told ≡ true → InWorld old v.server → InWorld new (run (the_writer b.store) (push_events (the_writer b.store) v push) v).server

  module _ (old between new : Room K) (b : Book) (names : List Bytes) (at : ℕ) (first later : List Entry) (v : World) (here : Serves keeper old b v.server) (was : Uses old b) where
    abbrev write : Writer
    write = the_writer b.store

    abbrev n : Beside
    n = numbers keeper old between

    abbrev ClaimIs : Claimed → Type 0
    ClaimIs c = ClaimHappens keeper old between b first names at c (ClaimStep n b at names first c)

    -- of what was answered
    record By (q : Push) (c : Claimed) (x : turn.Exchange) (a : Answer) : Type 0 where
      within : IsWithin v.server.list (claim write v q).server.list (claims v.server q.names q.reading IsKept IsKept).list a
      exchanged : IsExchangeOf write v.server.list (claim write v q).server q a
      came : came_by write (claim write v q).server a q.exchange ≡ came_word (word_of c x)
      passed : passed_by a q.exchange ≡ passed_of c x
      event : (e : WorldTurn) × (Claims q.names q.reading q.tick q.attempt ∷ sends a q.exchange ≡ events_in e)
      serves : Serves keeper new (onto (first ++ later) b) (run write (sends a q.exchange) (claim write v q)).server
      doubted : b.told ≡ true → InWorld old v.server → InWorld new (run write (sends a q.exchange) (claim write v q)).server

    push_by : (q : Push) (c : Claimed) (x : turn.Exchange) (a : Answer) → claimed write v q ≡ a → By q c x a → q.names ≡ names → q.reading ∷ receipt_reading q.exchange ≡ at ∷ receipt_readings x → Uses new (onto (first ++ later) b)
        → OnePush old new b (first ++ later) names (record { reading = at; claimed = c; exchange = x }) v
    push_by q c x a said by named took uses =
        let it : By q c x (claimed write v q) = subst (By q c x) (sym said) by in
        record {
          push = q;
          names_is = named;
          is = record { within = it.within; exchanged = it.exchanged };
          came = it.came;
          passed = it.passed;
          took = took;
          events = it.event;
          serves = it.serves;
          uses = uses;
          doubted = it.doubted;
        }

    -- ---- lists

    module _ (c : Claimed) (h : ClaimIs c) where
      abbrev left : Server
      left = claims v.server names at h.event.first h.event.second

      served : Serves keeper between (onto first b) left
      served = h.event.serves v.server here

      -- the list behind the claim, from the world's list on
      left_list : left.list ≡ followed_by first v.server.list
      left_list = served.list_is ∙ ap (followed_by first) (sym here.list_is)

      abbrev should : List Entry
      should = claim_entries b.list names (moment_at b.list at)

      should_list : should ≡ claim_entries v.server.list names (moment_at v.server.list at)
      should_list = ap (λ (g : History). claim_entries g names (moment_at g at)) (sym here.list_is)

      whole : (claims v.server names at IsKept IsKept).list ≡ followed_by should v.server.list
      whole = claim_kept v.server names at ∙ ap (λ (l : List Entry). followed_by l v.server.list) (sym should_list)

      used : n.used ≡ size_of v.server.list
      used = was ∙ ap size_of (sym here.list_is)

      within_as : (a : Answer) → IsWithin v.server.list (followed_by first v.server.list) (claims v.server names at IsKept IsKept).list a → IsWithin v.server.list left.list (claims v.server names at IsKept IsKept).list a
      within_as a w = subst (λ (g : History). IsWithin v.server.list g (claims v.server names at IsKept IsKept).list a) (sym left_list) w

      uses_between : n.later_used ≡ n.used + sizes first → Uses between (onto first b)
      uses_between grown = uses_more n.used n.later_used b.list first was grown

      behind_claim : b.told ≡ true → InWorld old v.server → InWorld between left
      behind_claim told old_in =
          claim_doubted write (keeper.doubts old.keeper) (keeper.doubts between.keeper) v.server b.list here.list_is names at h.event.first h.event.second first (is_claim_fault c) left_list (h.told told).doubt
          (fault_of c (h.event.answers v.server here)) old_in
        where
          fault_of : (c : Claimed) → IsSaid c (claim_answer write v.server names at h.event.first h.event.second) → is_claim_fault c ≡ true → claim_answer write v.server names at h.event.first h.event.second ≡ call.Fault
          fault_of (Claimed.Job s k frame front) said is = absurd cc
          fault_of (Claimed.Idle next) said is = absurd cc
          fault_of Claimed.Fault said is = said
          fault_of (Claimed.Full size count) said is = absurd cc
          fault_of Claimed.Memory said is = absurd cc

      -- ---- without an exchange

      module _ (x : turn.Exchange) (none : x ≡ turn.Unsent) (same : new ≡ between) (no_more : later ≡ []) where
        abbrev quiet : Push
        quiet = record { names = names; reading = at; tick = h.event.first; attempt = h.event.second; exchange = Unsent }

        abbrev all : List Entry
        all = first ++ later

        all_is : first ≡ all
        all_is = sym (append-nil first) ∙ ap (λ (l : List Entry). first ++ l) (sym no_more)

        quiet_serves : Serves keeper new (onto all b) left
        quiet_serves = subst (λ (r : Room K). Serves keeper r (onto all b) left) (sym same) (subst (λ (l : List Entry). Serves keeper between (onto l b) left) all_is served)

        quiet_uses : n.later_used ≡ n.used + sizes first → Uses new (onto all b)
        quiet_uses grown = subst (λ (r : Room K). Uses r (onto all b)) (sym same) (subst (λ (l : List Entry). Uses between (onto l b)) all_is (uses_between grown))

        quiet_doubted : b.told ≡ true → InWorld old v.server → InWorld new left
        quiet_doubted told old_in = subst (λ (r : Room K). InWorld r left) (sym same) (behind_claim told old_in)

        quiet_took : at ∷ [] ≡ at ∷ receipt_readings x
        quiet_took = ap (λ (e : turn.Exchange). at ∷ receipt_readings e) (sym none)

    abbrev world_turn : Claimed → turn.Exchange → Fate → Fate → Fate → WorldTurn
    world_turn c x one two three = record { names = names; turn = record { reading = at; claimed = c; exchange = x }; first = one; second = two; third = three }

    abbrev OneOf : Claimed → turn.Exchange → Type 0
    OneOf c x = OnePush old new b (first ++ later) names (record { reading = at; claimed = c; exchange = x }) v

    idle_push : (next : Option ℕ) (x : turn.Exchange) → ClaimIs (Claimed.Idle next) → (x ≡ turn.Unsent) × (new ≡ between) × (later ≡ []) → OneOf (Claimed.Idle next) x
    idle_push next x h e =
        let c : Claimed = Claimed.Idle next in
        push_by (quiet c h x e.0 e.1 e.2) c x (call.Idle next) (h.event.answers v.server here)
        (record {
          within = within_as c h (call.Idle next) (given_within n v.server.list (used c h) (should c h) first h.step.1);
          exchanged = refl;
          came = refl;
          passed = refl;
          event = (world_turn c x h.event.first h.event.second IsKept, refl);
          serves = quiet_serves c h x e.0 e.1 e.2;
          doubted = quiet_doubted c h x e.0 e.1 e.2;
        }) refl (quiet_took c h x e.0 e.1 e.2) (quiet_uses c h x e.0 e.1 e.2 h.step.1.whole.grown)

    fault_push : (x : turn.Exchange) → ClaimIs Claimed.Fault → (x ≡ turn.Unsent) × (new ≡ between) × (later ≡ []) → OneOf Claimed.Fault x
    fault_push x h e =
        let c : Claimed = Claimed.Fault in
        push_by (quiet c h x e.0 e.1 e.2) c x call.Fault (h.event.answers v.server here)
        (record {
          within = within_as c h call.Fault (failed_within n v.server.list (used c h) (should c h) first (claims v.server names at IsKept IsKept).list (whole c h) h.step);
          exchanged = refl;
          came = refl;
          passed = refl;
          event = (world_turn c x h.event.first h.event.second IsKept, refl);
          serves = quiet_serves c h x e.0 e.1 e.2;
          doubted = quiet_doubted c h x e.0 e.1 e.2;
        }) refl (quiet_took c h x e.0 e.1 e.2) (quiet_uses c h x e.0 e.1 e.2 h.step.grown)

    full_push : (size count : ℕ) (x : turn.Exchange) → ClaimIs (Claimed.Full size count) → (x ≡ turn.Unsent) × (new ≡ between) × (later ≡ []) → OneOf (Claimed.Full size count) x
    full_push size count x h e =
        let c : Claimed = Claimed.Full size count in
        push_by (quiet c h x e.0 e.1 e.2) c x call.Full (h.event.answers v.server here)
        (record {
          within = within_as c h call.Full (full_within n v.server.list (used c h) (should c h) first size count (claims v.server names at IsKept IsKept).list (whole c h) h.step);
          exchanged = refl;
          came = refl;
          passed = refl;
          event = (world_turn c x h.event.first h.event.second IsKept, refl);
          serves = quiet_serves c h x e.0 e.1 e.2;
          doubted = quiet_doubted c h x e.0 e.1 e.2;
        }) refl (quiet_took c h x e.0 e.1 e.2) (quiet_uses c h x e.0 e.1 e.2 h.step.grown)

    starved_push : (x : turn.Exchange) → ClaimIs Claimed.Memory → (x ≡ turn.Unsent) × (new ≡ between) × (later ≡ []) → OneOf Claimed.Memory x
    starved_push x h e =
        let c : Claimed = Claimed.Memory in
        let m : ℕ = moment_at b.list at in
        let ticks : (left c h).list ≡ ticked v.server.list (moment_at v.server.list at) =
        (served c h).list_is ∙ ap (λ (l : List Entry). followed_by l b.list) h.step.whole.is ∙ tick_list b.list (follow b.list call.Ticked m) ∙ ap (λ (g : History). ticked g (moment_at g at)) (sym here.list_is) in
        push_by (quiet c h x e.0 e.1 e.2) c x call.Memory (h.event.answers v.server here)
        (record {
          within = within_as c h call.Memory (given_within n v.server.list (used c h) (tick_entries b.list m) first h.step);
          exchanged = (refl, ticks);
          came = refl;
          passed = refl;
          event = (world_turn c x h.event.first h.event.second IsKept, refl);
          serves = quiet_serves c h x e.0 e.1 e.2;
          doubted = quiet_doubted c h x e.0 e.1 e.2;
        }) refl (quiet_took c h x e.0 e.1 e.2) (quiet_uses c h x e.0 e.1 e.2 h.step.whole.grown)

    -- ---- with an exchange

    module _ (s : Bytes) (k : ℕ) (frame : Bytes) (front : ℕ) (h : ClaimIs (Claimed.Job s k frame front)) where
      abbrev jobbed : Claimed
      jobbed = Claimed.Job s k frame front

      -- what the claim was answered in the world
      said : IsSaid jobbed (claim_answer write v.server names at h.event.first h.event.second)
      said = h.event.answers v.server here

      abbrev job_answer : Answer
      job_answer = call.Job s k (Some said.0) front

      abbrev there : Server
      there = left jobbed h

      between_list : there.list ≡ (onto first b).list
      between_list = (served jobbed h).list_is

      frame_there : frame_at write there.list s k ≡ Some said.0
      frame_there =
          let m : ℕ = moment_at b.list at in
          let legal : IsLegal there.list = subst IsLegal (sym between_list) h.stands.kept.legal in
          let left_is : there.list ≡ followed_by (claim_entries b.list names m) b.list = between_list ∙ ap (λ (l : List Entry). followed_by l b.list) h.step.3.whole.is in
          let heard : claim_answer_at write b.list names m (follow b.list call.Ticked m) h.event.first h.event.second ≡ job_answer =
          ap (λ (g : History). claim_answer_at write g names (moment_at g at) (follow g call.Ticked (moment_at g at)) h.event.first h.event.second) (sym here.list_is) ∙ said.2 in
          claimed_frame write b.list names m h.event.first h.event.second there.list s k said.0 front h.step.0 left_is legal heard

      claim_within : IsWithin v.server.list there.list (claims v.server names at IsKept IsKept).list job_answer
      claim_within = within_as jobbed h job_answer (given_within n v.server.list (used jobbed h) (should jobbed h) first h.step.3)

      abbrev job_push : Exchange → Push
      job_push e = record { names = names; reading = at; tick = h.event.first; attempt = h.event.second; exchange = e }

      abbrev claim_world : World
      claim_world = happens write v (Claims names at h.event.first h.event.second)

      -- only the claim was a call of the room
      module _ (x : turn.Exchange) (same : new ≡ between) (no_more : later ≡ []) where
        still_serves : Serves keeper new (onto (first ++ later) b) there
        still_serves = quiet_serves jobbed h turn.Unsent refl same no_more

        still_uses : Uses new (onto (first ++ later) b)
        still_uses = quiet_uses jobbed h turn.Unsent refl same no_more h.step.3.whole.grown

        still_doubted : b.told ≡ true → InWorld old v.server → InWorld new there
        still_doubted = quiet_doubted jobbed h turn.Unsent refl same no_more

      sent_still : (happens write claim_world (Sends s k)).server ≡ there
      sent_still = sent_server write claim_world s k

      unsent_push : (new ≡ between) × (later ≡ []) → OneOf jobbed turn.Unsent
      unsent_push e =
          push_by (job_push Unsent) jobbed turn.Unsent job_answer said.2
          (record {
            within = claim_within;
            exchanged = (frame_there, tt);
            came = refl;
            passed = refl;
            event = (world_turn jobbed turn.Unsent h.event.first h.event.second IsKept, refl);
            serves = still_serves turn.Unsent e.0 e.1;
            doubted = still_doubted turn.Unsent e.0 e.1;
          }) refl refl (still_uses turn.Unsent e.0 e.1)

      unread_push : (new ≡ between) × (later ≡ []) → OneOf jobbed turn.Unread
      unread_push e =
          push_by (job_push Unread) jobbed turn.Unread job_answer said.2
          (record {
            within = claim_within;
            exchanged = (frame_there, tt);
            came = refl;
            passed = ap (λ (bytes : Bytes). passed_of (Claimed.Job s k bytes front) turn.Unread) (sym said.1);
            event = (world_turn jobbed turn.Unread h.event.first h.event.second IsKept, refl);
            serves = subst (Serves keeper new (onto (first ++ later) b)) (sym sent_still) (still_serves turn.Unread e.0 e.1);
            doubted = λ told old_in. subst (InWorld new) (sym sent_still) (still_doubted turn.Unread e.0 e.1 told old_in);
          }) refl refl (still_uses turn.Unread e.0 e.1)

      replied_push : (reply : Bytes) → (new ≡ between) × (later ≡ []) → ((j : ℕ) → Acknowledges (onto first b).list s k j reply → ⊥) → OneOf jobbed (turn.Replied reply)
      replied_push reply e never =
          push_by (job_push (NoReceipt reply)) jobbed (turn.Replied reply) job_answer said.2
          (record {
            within = claim_within;
            exchanged = (frame_there, λ j is. never j (subst (λ (g : History). Acknowledges g s k j reply) between_list is));
            came = refl;
            passed = ap (λ (bytes : Bytes). passed_of (Claimed.Job s k bytes front) (turn.Replied reply)) (sym said.1);
            event = (world_turn jobbed (turn.Replied reply) h.event.first h.event.second IsKept, refl);
            serves = subst (Serves keeper new (onto (first ++ later) b)) (sym sent_still) (still_serves (turn.Replied reply) e.0 e.1);
            doubted = λ told old_in. subst (InWorld new) (sym sent_still) (still_doubted (turn.Replied reply) e.0 e.1 told old_in);
          }) refl refl (still_uses (turn.Replied reply) e.0 e.1)

      -- the receipt was brought to the room
      module _ (reply : Bytes) (count read : ℕ) (kept : Kept)
          (r : Happens keeper between new (onto first b) later (call.Receipted s count) read (said_kept kept) (ReceiptStep (numbers keeper between new) (onto first b) read s count later kept))
          (answered : IsReceiptAnswer (onto first b).list s k reply count kept) where
        abbrev fate : Fate
        fate = r.event.fate

        abbrev taken : turn.Exchange
        taken = turn.Receipted reply count read kept

        abbrev q : Push
        q = job_push (Receipted reply count read fate)

        abbrev after : Server
        after = called there (call.Receipted s count) read fate

        come : Serves keeper new (onto later (onto first b)) after
        come = r.event.serves there (served jobbed h)

        reply_is : call_answer write there (call.Receipted s count) read fate ≡ said_kept kept
        reply_is = r.event.answers there (served jobbed h)

        abbrev due : List Entry
        due = entries (follow (onto first b).list (call.Receipted s count) (moment_at (onto first b).list read))

        after_list : after.list ≡ followed_by later there.list
        after_list = come.list_is ∙ ap (followed_by later) (sym between_list)

        all_kept : (called there (call.Receipted s count) read IsKept).list ≡ followed_by due there.list
        all_kept = receipt_kept there s count read ∙ ap (λ (g : History). followed_by (entries (follow g (call.Receipted s count) (moment_at g read))) there.list) between_list

        used_between : (numbers keeper between new).used ≡ size_of there.list
        used_between = uses_between jobbed h h.step.3.whole.grown ∙ ap size_of (sym between_list)

        uses_behind : keeper.used new.keeper ≡ keeper.used between.keeper + sizes later → Uses new (onto (first ++ later) b)
        uses_behind grown =
            uses_more (keeper.used between.keeper) (keeper.used new.keeper) (onto first b).list later (uses_between jobbed h h.step.3.whole.grown) grown ∙ ap size_of (behind_more first later b.list)

        -- by the room's answer
        receipt_is : (told : Kept) → IsReceiptAnswer (onto first b).list s k reply count told → IsReceipt there.list s k reply count (said_kept told)
        receipt_is (Kept.Done done) a = subst (λ (g : History). Acknowledges g s k count reply) (sym between_list) a
        receipt_is (Kept.Denied why) a = λ j is. a j (subst (λ (g : History). Acknowledges g s k j reply) between_list is)
        receipt_is Kept.Fault a = subst (λ (g : History). Acknowledges g s k count reply) (sym between_list) a
        receipt_is (Kept.Full size length) a = subst (λ (g : History). Acknowledges g s k count reply) (sym between_list) a

        within_by : (told : Kept) → ReceiptStep (numbers keeper between new) (onto first b) read s count later told
            → IsWithin there.list (followed_by later there.list) (called there (call.Receipted s count) read IsKept).list (said_kept told)
        within_by (Kept.Done done) step = given_within (numbers keeper between new) there.list used_between due later step.1
        within_by (Kept.Denied why) step = given_within (numbers keeper between new) there.list used_between due later step.1
        within_by Kept.Fault step = failed_within (numbers keeper between new) there.list used_between due later (called there (call.Receipted s count) read IsKept).list all_kept step
        within_by (Kept.Full size length) step = full_within (numbers keeper between new) there.list used_between due later size length (called there (call.Receipted s count) read IsKept).list all_kept step

        grown_by : (told : Kept) → ReceiptStep (numbers keeper between new) (onto first b) read s count later told → keeper.used new.keeper ≡ keeper.used between.keeper + sizes later
        grown_by (Kept.Done done) step = step.1.whole.grown
        grown_by (Kept.Denied why) step = step.1.whole.grown
        grown_by Kept.Fault step = step.grown
        grown_by (Kept.Full size length) step = step.grown

        came_kept : (told : Kept) → came_of_receipt s k (said_kept told) ≡ came_word (word_of_receipt s k reply count told)
        came_kept (Kept.Done done) = refl
        came_kept (Kept.Denied why) = refl
        came_kept Kept.Fault = refl
        came_kept (Kept.Full size length) = refl

        exchange_is : IsExchange write there s k (Receipted reply count read fate)
        exchange_is = (
          subst (IsReceipt there.list s k reply count) (sym reply_is) (receipt_is kept answered),
          subst (IsWithin there.list after.list (called there (call.Receipted s count) read IsKept).list) (sym reply_is)
              (subst (λ (g : History). IsWithin there.list g (called there (call.Receipted s count) read IsKept).list (said_kept kept)) (sym after_list) (within_by kept r.step)),
        )

        -- the world behind the receipt
        behind_is : (run write (sends job_answer (Receipted reply count read fate)) claim_world).server ≡ after
        behind_is = ap (λ (c : Server). called c (call.Receipted s count) read fate) sent_still

        receipted_serves : Serves keeper new (onto (first ++ later) b) after
        receipted_serves = subst (λ (c : Book). Serves keeper new c after) (onto_more first later b) come

        receipted_doubted : b.told ≡ true → InWorld old v.server → InWorld new after
        receipted_doubted told old_in =
            receipt_doubted write (keeper.doubts between.keeper) (keeper.doubts new.keeper) there (onto first b).list between_list s count read fate later kept after_list (r.told told).doubt reply_is
            (behind_claim jobbed h told old_in)

        receipted_push : OneOf jobbed taken
        receipted_push =
            push_by q jobbed taken job_answer said.2
            (record {
              within = claim_within;
              exchanged = (frame_there, exchange_is);
              came = ap (came_of_receipt s k) reply_is ∙ came_kept kept;
              passed = ap (λ (bytes : Bytes). passed_of (Claimed.Job s k bytes front) taken) (sym said.1);
              event = (world_turn jobbed taken h.event.first h.event.second fate, refl);
              serves = subst (Serves keeper new (onto (first ++ later) b)) (sym behind_is) receipted_serves;
              doubted = λ told old_in. subst (InWorld new) (sym behind_is) (receipted_doubted told old_in);
            }) refl refl (uses_behind (grown_by kept r.step))

      exchanged_push : (x : turn.Exchange) → Exchanges keeper between new (onto first b) jobbed x later → OneOf jobbed x
      exchanged_push turn.Unsent e = unsent_push e.0
      exchanged_push turn.Unread e = unread_push e.0
      exchanged_push (turn.Replied reply) e = replied_push reply e.0 e.1
      exchanged_push (turn.Receipted reply count read kept) e = receipted_push reply count read kept e.0 e.1

    -- ---- by the claim's answer

    pub one_push : (c : Claimed) (x : turn.Exchange) → ClaimIs c → Exchanges keeper between new (onto first b) c x later → OneOf c x
    one_push (Claimed.Job s k frame front) x h e = exchanged_push s k frame front h x e
    one_push (Claimed.Idle next) x h e = idle_push next x h e
    one_push Claimed.Fault x h e = fault_push x h e
    one_push (Claimed.Full size count) x h e = full_push size count x h e
    one_push Claimed.Memory x h e = starved_push x h e
