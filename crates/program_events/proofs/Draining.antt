-- What was pushed has happened in each world that has the list of its files.
use Rattle.std.proofs.Common.{◌≡◌, inl, inr, ℕ, Bool, true, false, List, [], ◌∷◌, ◌++◌, map, refl, sym, ap, ◌∙◌, subst, append_assoc, append-nil}
use Rattle.news_types.specs.declared.entry.Entry.{Entry}
use Rattle.news_types.specs.Books.{Book, followed_by, onto}
use Rattle.news_types.specs.Names.{Bytes}
use Rattle.news_types.specs.History.{History, moment_at}
use Rattle.news_types.specs.Frames.{Writer, frame_at}
use Rattle.news_types.specs.Calls as call
use Rattle.news_types.specs.Calls.{Fate}
use Rattle.news_types.specs.Server.{Server, claim_answer, called}
use Rattle.news_types.proofs.Books.{behind_more, onto_more}
use Rattle.feed_frames.specs.Writer.{the_writer}
use Rattle.news_io.specs.Clock.{ClockMeaning}
use Rattle.news_io.specs.Disk.{DiskMeaning}
use Rattle.news_io.specs.Keeper.{KeeperMeaning}
use Rattle.news_io.specs.Link.{LinkMeaning}
use Rattle.news_io.specs.Sink.{SinkMeaning}
use Rattle.news_pair.specs.Keeper.{pair_of}
use Rattle.entry_codec.specs.Spelling.{entry_bytes}
use Rattle.news_room.specs.Claims.{IsSaid, ClaimStep, ClaimHappens, claim_entries, is_claim_fault}
use Rattle.news_room.specs.Events.{Serves}
use Rattle.news_room.specs.Stands.{Stands, in_doubt, numbers}
use Rattle.news_room.specs.Steps.{DoubtStep}
use Rattle.news_room.specs.declared.claim.Claimed.{Claimed}
use Rattle.news_room.specs.declared.room.Room.{Room}
use Rattle.news_room.proofs.Lists.{same_list}
use Rattle.store_files.proofs.Holding.{calls_shut}
use Rattle.publish_workers.specs.Drains.{TurnsHappen}
use Rattle.publish_workers.specs.Events.{sendings, IsEnding, IsForged, AnswersReceipt}
use Rattle.publish_workers.specs.LinkDrains.{LinkDrain, DrainsHappen, LinksDrained}
use Rattle.publish_workers.specs.Steps.{Exchanges, TurnHappens}
use Rattle.publish_workers.specs.Turns.{Exchange, Unsent, Unread, Replied, Receipted, Turn}
use Rattle.world_laws.specs.World.{World, Event, Claims, Forges, send, happens, run}
use Rattle.newsdesk_cli.specs.Command.{HasDrained, IsDrain}
use Rattle.program_events.specs.Drains.{arrivals, WorldTurn, begun_by, events_in, pushed, AreTurnsIn, AreTurnsOf, AreTurnsOfAll, DrainHappened}
use Rattle.program_events.specs.Leads.{Lead}
use Rattle.program_events.specs.Runs.{DrainIsEvents}
use Rattle.program_events.proofs.Doubting.{Doubted, claim_doubted, claimed_whole, receipt_doubted}
use Rattle.program_events.proofs.Pushing.{send_server, lead_turns}
use Rattle.program_events.proofs.Turns.{run_on}

-- ---- the ends of turns

is_ending : (w : World) (claimed : Claimed) (exchange : Exchange) (fate : Fate) → IsEnding w claimed exchange fate (arrivals claimed exchange fate)
is_ending w (Claimed.Job s k frame front) Unsent fate = refl
is_ending w (Claimed.Job s k frame front) Unread fate = refl
is_ending w (Claimed.Job s k frame front) (Replied reply) fate = refl
is_ending w (Claimed.Job s k frame front) (Receipted reply n at kept) fate = (Forges s n at fate, refl, IsForged)
is_ending w (Claimed.Idle next) exchange fate = refl
is_ending w Claimed.Fault exchange fate = refl
is_ending w (Claimed.Full size count) exchange fate = refl
is_ending w Claimed.Memory exchange fate = refl

module _ {K : Type 0} (keeper : KeeperMeaning K) where
  -- what is in doubt in the room is in doubt in the world
  abbrev InWorld : Room K → Server → Type 0
  InWorld r c = Doubted (keeper.doubts r.keeper) c

  -- ---- what a turn leaves in doubt

  module _ (old between new : Room K) (b : Book) (names : List Bytes) (at : ℕ) (kept later : List Entry) (first second third : Fate) (v : World) (here : v.server.list ≡ b.list) (told : b.told ≡ true) where
    abbrev write : Writer
    write = the_writer b.store

    abbrev claim : World
    claim = happens write v (Claims names at first second)

    abbrev ClaimIs : Claimed → Type 0
    ClaimIs claimed = ClaimHappens keeper old between b kept names at claimed (ClaimStep (numbers keeper old between) b at names kept claimed)

    -- behind the claim, of which the world kept as much as the room
    behind_claim : (claimed : Claimed) (h : ClaimIs claimed) (failed : Bool) → is_claim_fault claimed ≡ failed → (failed ≡ true → claim_answer write v.server names at first second ≡ call.Fault) → claim.server.list ≡ followed_by kept v.server.list
        → InWorld old v.server → InWorld between claim.server
    behind_claim claimed h failed is answered list was =
        claim_doubted write (keeper.doubts old.keeper) (keeper.doubts between.keeper) v.server b.list here names at first second kept failed list
        (subst (DoubtStep (keeper.doubts old.keeper) (keeper.doubts between.keeper) (claim_entries b.list names (moment_at b.list at)) kept) is (h.told told).doubt) answered was

    -- without an exchange
    quiet : (claimed : Claimed) (h : ClaimIs claimed) (failed : Bool) → is_claim_fault claimed ≡ failed → (failed ≡ true → claim_answer write v.server names at first second ≡ call.Fault) → new ≡ between → later ≡ []
        → claim.server.list ≡ followed_by (kept ++ later) b.list → InWorld old v.server → InWorld new claim.server
    quiet claimed h failed is answered same none list was =
        let grown : claim.server.list ≡ followed_by kept v.server.list =
        list ∙ ap (λ (l : List Entry). followed_by (kept ++ l) b.list) none ∙ ap (λ (l : List Entry). followed_by l b.list) (append-nil kept) ∙ ap (followed_by kept) (sym here) in
        subst (λ (r : Room K). InWorld r claim.server) (sym same) (behind_claim claimed h failed is answered grown was)

    -- with one
    module _ (s : Bytes) (k : ℕ) (frame : Bytes) (front : ℕ) (h : ClaimIs (Claimed.Job s k frame front)) (said : IsSaid (Claimed.Job s k frame front) (claim_answer write v.server names at first second)) where
      -- the world's list behind the claim is the room's
      list_between : claim.server.list ≡ (onto kept b).list
      list_between =
          claimed_whole write v.server names at first second s k frame front said
          ∙ ap (λ (l : List Entry). followed_by l v.server.list) (ap (λ (g : History). claim_entries g names (moment_at g at)) here ∙ sym h.step.3.whole.is)
          ∙ ap (followed_by kept) here

      framed : InWorld old v.server → InWorld between claim.server
      framed was = behind_claim (Claimed.Job s k frame front) h false refl (λ no. absurd cc) (list_between ∙ ap (followed_by kept) (sym here)) was

      exchanged : (exchange : Exchange) → Exchanges keeper between new (onto kept b) (Claimed.Job s k frame front) exchange later
          → AnswersReceipt write (run write (sendings (Claimed.Job s k frame front) exchange) claim) (Claimed.Job s k frame front) exchange third
          → (run write (arrivals (Claimed.Job s k frame front) exchange third) (run write (sendings (Claimed.Job s k frame front) exchange) claim)).server.list ≡ followed_by (kept ++ later) b.list
          → InWorld old v.server → InWorld new (run write (arrivals (Claimed.Job s k frame front) exchange third) (run write (sendings (Claimed.Job s k frame front) exchange) claim)).server
      exchanged Unsent x answered list was = subst (λ (r : Room K). InWorld r claim.server) (sym x.0.0) (framed was)
      exchanged Unread x answered list was = subst (λ (r : Room K). InWorld r (send (frame_at write claim.server.list s k) claim).server) (sym x.0.0) (subst (InWorld between) (sym (send_server write v (frame_at write claim.server.list s k) claim)) (framed was))
      exchanged (Replied reply) x answered list was = subst (λ (r : Room K). InWorld r (send (frame_at write claim.server.list s k) claim).server) (sym x.0.0) (subst (InWorld between) (sym (send_server write v (frame_at write claim.server.list s k) claim)) (framed was))
      exchanged (Receipted reply n read kept_as) x answered list was =
          let u : World = send (frame_at write claim.server.list s k) claim in
          let same : u.server ≡ claim.server = send_server write v (frame_at write claim.server.list s k) claim in
          let there : u.server.list ≡ (onto kept b).list = ap (λ (c : Server). c.list) same ∙ list_between in
          let grown : (called u.server (call.Receipted s n) read third).list ≡ followed_by later u.server.list = list ∙ sym (behind_more kept later b.list) ∙ ap (followed_by later) (sym there) in
          receipt_doubted write (keeper.doubts between.keeper) (keeper.doubts new.keeper) u.server (onto kept b).list there s n read third later kept_as grown (x.0.told told).doubt answered (subst (InWorld between) (sym same) (framed was))

    -- ---- by the claim's answer

    turn_doubted : (claimed : Claimed) (exchange : Exchange) → ClaimIs claimed → Exchanges keeper between new (onto kept b) claimed exchange later → IsSaid claimed (claim_answer write v.server names at first second)
        → AnswersReceipt write (run write (sendings claimed exchange) claim) claimed exchange third
        → (run write (arrivals claimed exchange third) (run write (sendings claimed exchange) claim)).server.list ≡ followed_by (kept ++ later) b.list
        → InWorld old v.server → InWorld new (run write (arrivals claimed exchange third) (run write (sendings claimed exchange) claim)).server
    turn_doubted (Claimed.Job s k frame front) exchange h x said answered list was = exchanged s k frame front h said exchange x answered list was
    turn_doubted (Claimed.Idle next) exchange h x said answered list was = quiet (Claimed.Idle next) h false refl (λ no. absurd cc) x.1 x.2 list was
    turn_doubted Claimed.Fault exchange h x said answered list was = quiet Claimed.Fault h true refl (λ yes. said) x.1 x.2 list was
    turn_doubted (Claimed.Full size count) exchange h x said answered list was = quiet (Claimed.Full size count) h false refl (λ no. absurd cc) x.1 x.2 list was
    turn_doubted Claimed.Memory exchange h x said answered list was = quiet Claimed.Memory h false refl (λ no. absurd cc) x.1 x.2 list was

  -- ---- turns one after another

  module _ (b : Book) (told : b.told ≡ true) (w : World) where
    abbrev writer : Writer
    writer = the_writer b.store

    -- these turns were pushed, which left the room with these entries more
    record Pushed (new : Room K) (more : List Entry) (ts : List WorldTurn) : Type 0 where
      serves : Serves keeper new (onto more b) (run writer (pushed ts) w).server
      answered : AreTurnsIn writer w ts
      doubted : InWorld new (run writer (pushed ts) w).server

    one_more : (old between new : Room K) (more first later : List Entry) (names : List Bytes) (t : Turn) (ts : List WorldTurn) → Pushed old more ts → TurnHappens keeper old between new (onto more b) names t first later
        → (x : WorldTurn) × (x.names ≡ names) × (x.turn ≡ t) × Pushed new (more ++ (first ++ later)) (x ∷ ts)
    one_more old between new more first later names t ts p h =
        let T = h.events in
        let v : World = run writer (pushed ts) w in
        let x : WorldTurn = record { names = names; turn = t; first = T.first; second = T.second; third = T.third } in
        let begun : World = run writer (begun_by x) v in
        let end : World = run writer (arrivals t.claimed t.exchange T.third) begun in
        let end_is : run writer (pushed (x ∷ ts)) w ≡ end = run_on writer (pushed ts) (events_in x) w ∙ run_on writer (begun_by x) (arrivals t.claimed t.exchange T.third) v in
        let serves : Serves keeper new (onto (first ++ later) (onto more b)) end.server = T.serves v [] (arrivals t.claimed t.exchange T.third) p.serves refl (is_ending begun t.claimed t.exchange T.third) in
        let in_world : InWorld new end.server =
        turn_doubted old between new (onto more b) names t.reading first later T.first T.second T.third v p.serves.list_is told t.claimed t.exchange h.claim h.exchange (T.claimed v p.serves) (T.received v [] p.serves refl) serves.list_is p.doubted in (
          x,
          refl,
          refl,
          record {
            serves = subst (λ (u : World). Serves keeper new (onto (more ++ (first ++ later)) b) u.server) (sym end_is) (subst (λ (c : Book). Serves keeper new c end.server) (onto_more more (first ++ later) b) serves);
            answered = (p.answered, record { claimed = T.claimed v p.serves; sent = T.sent v p.serves; received = T.received v [] p.serves refl });
            doubted = subst (λ (u : World). InWorld new u.server) (sym end_is) in_world;
          },
        )

    -- the turns of a drain behind those that were pushed before
    turns_pushed : (names : List Bytes) (ts : List Turn) (left new : Room K) (before more : List Entry) (ws : List WorldTurn) → Pushed left before ws → TurnsHappen keeper left new (onto before b) names ts more
        → (these : List WorldTurn) × AreTurnsOf names ts these × Pushed new (before ++ more) (these ++ ws)
    turns_pushed names [] left new before more ws p h =
        ([], refl, subst (λ (r : Room K). Pushed r (before ++ more) ws) (sym h.0) (subst (λ (l : List Entry). Pushed left l ws) (sym (ap (λ (l : List Entry). before ++ l) h.1 ∙ append-nil before)) p))
    turns_pushed names (t ∷ ts) left new before more ws p h =
        let so_far = turns_pushed names ts left h.0 before h.2 ws p h.5 in
        let book : onto h.2 (onto before b) ≡ onto (before ++ h.2) b = onto_more before h.2 b in
        let one = one_more h.0 h.1 new (before ++ h.2) h.3 h.4 names t (so_far.0 ++ ws) so_far.2 (subst (λ (c : Book). TurnHappens keeper h.0 h.1 new c names t h.3 h.4) book h.6) in
        let whole : (before ++ h.2) ++ (h.3 ++ h.4) ≡ before ++ more = append_assoc before h.2 (h.3 ++ h.4) ∙ ap (λ (l : List Entry). before ++ l) (sym h.7) in
        (one.0 ∷ so_far.0, (one.1, one.2, so_far.1), subst (λ (l : List Entry). Pushed new l (one.0 ∷ (so_far.0 ++ ws))) whole one.3)

    drains_pushed : (served : List (List Bytes)) (ds : List LinkDrain) (old new : Room K) (more : List Entry) → Pushed old [] [] → DrainsHappen keeper old new b served ds more → (ws : List WorldTurn) × AreTurnsOfAll served ds ws × Pushed new more ws
    drains_pushed served [] old new more p h = ([], refl, subst (λ (r : Room K). Pushed r more []) (sym h.0) (subst (λ (l : List Entry). Pushed old l []) (sym h.1) p))
    drains_pushed served (d ∷ ds) old new more p h =
        let so_far = drains_pushed served ds old h.0 h.1 p h.3 in
        let drain = h.5 in
        let these = turns_pushed h.2 (d.last ∷ d.turns) h.0 new h.1 d.more so_far.0 so_far.2 (drain.left, drain.between, drain.before, drain.first, drain.later, drain.turns, drain.last, drain.more_is) in
        (these.0 ++ so_far.0, (h.2, h.4, so_far.0, these.0, so_far.1, these.1, refl), subst (λ (l : List Entry). Pushed new l (these.0 ++ so_far.0)) (sym h.6) these.2)

-- ---- a drain of the files' room

module _ {D O C L : Type 0} (disk : DiskMeaning D) (clock : ClockMeaning C) (sink : SinkMeaning O) (log log' side side' : D) (o o' : O) (c c' : C) (status : ℕ) (link : LinkMeaning L) (l l' : List L) where
  module _ (did : HasDrained disk clock sink log log' side side' o o' c c' status link l l') (tells : disk.tells log) (tells' : disk.tells side) (w : World) (same : w.server.list ≡ did.went.opened.history) where
    abbrev here : Book
    here = record { store = did.went.opened.store; told = true; list = did.went.opened.history }

    stands : Stands (pair_of disk) did.went.room here
    stands = (did.went.opened.holds true (λ is. (tells, tells'))).stands

    drained : LinksDrained (pair_of disk) did.went.room did.went.after here (map link.serves l) did.drained.drains did.drained.more
    drained = did.drained.room here stands

    none_before : (payload : Bytes) → (pair_of disk).doubts did.went.room.keeper payload → ⊥
    none_before payload doubt = calls_shut did.went.room.keeper.log.ajar did.went.opened.quiet doubt.is_ajar

    none_pushed : Pushed (pair_of disk) here refl w did.went.room [] []
    none_pushed = record {
      serves = record { list_is = same; doubt = λ told payload doubt. absurd (none_before payload doubt) };
      answered = tt;
      doubted = λ e d. absurd (none_before (entry_bytes e) d.1);
    }

    abbrev all : (ws : List WorldTurn) × AreTurnsOfAll (map link.serves l) did.drained.drains ws × Pushed (pair_of disk) here refl w did.went.after did.drained.more ws
    all = drains_pushed (pair_of disk) here refl w (map link.serves l) did.drained.drains did.went.room did.went.after did.drained.more none_pushed drained.drains

    -- the files are left with the list of the world
    one_list : (onto did.drained.more here).list ≡ (did.went.files tells tells').list
    one_list =
        let files = did.went.files tells tells' in
        let mine = drained.stands.told refl in
        let other = files.stands.told refl in
        same_list _ files.list drained.stands.kept.formed files.stands.kept.formed (sym mine.list_is ∙ other.list_is)

    pub drain_happened : (events : List Event) × DrainHappened (the_writer did.went.opened.store) w (map link.serves l) did.drained.drains (did.went.files tells tells').list (in_doubt (pair_of disk) did.went.after) events
    drain_happened = (
      pushed all.0,
      record {
        turns = all.0;
        are = all.1;
        events_are = refl;
        answered = all.2.answered;
        leads = record {
          lead = subst (Lead (the_writer here.store) w (pushed all.0)) (all.2.serves.list_is ∙ one_list) (lead_turns (the_writer here.store) w all.0);
          doubt = all.2.doubted;
        };
      },
    )

  pub drain_is_events : (did : IsDrain disk clock sink log log' side side' o o' c c' status link l l') → DrainIsEvents disk clock sink log log' side side' o o' c c' status link l l' did
  drain_is_events (inl refused) = tt
  drain_is_events (inr did) = λ tells tells' w same. drain_happened did tells tells' w same
