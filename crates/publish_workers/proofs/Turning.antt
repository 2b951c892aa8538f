-- A claim and its exchange make a turn.
use Rattle.std.proofs.Common.{◌≡◌, ℕ, Bool, true, false, List, [], ◌∷◌, ◌++◌, Option, Some, refl, sym, ap, ◌∙◌, subst, append-nil}
use Rattle.std.specs.Option.{option_map}
use Rattle.news_types.specs.declared.entry.Entry.{Entry}
use Rattle.news_types.specs.declared.entry.Act.TheVariants.{Attempt}
use Rattle.news_types.specs.declared.query.Ready.TheVariants.{Now}
use Rattle.news_types.specs.Names.{Bytes}
use Rattle.news_types.specs.History.{History, moment_at}
use Rattle.news_types.specs.Books.{Book, onto, followed_by}
use Rattle.news_types.specs.Products.{is_subscriber}
use Rattle.news_types.specs.Legal.{IsLegal}
use Rattle.news_types.specs.Frames.{Frame, Writer, frame_at, bytes_of, framed, format}
use Rattle.news_types.specs.Calls as call
use Rattle.news_types.specs.Calls.{ticked, follow}
use Rattle.news_types.specs.Delivery.{choice}
use Rattle.news_types.specs.Outcome.{entry_of}
use Rattle.news_types.proofs.Books.{behind_more}
use Rattle.feed_frames.specs.Writer.{the_writer}
use Rattle.news_io.specs.Faults.{Rose}
use Rattle.news_io.specs.Keeper.{KeeperMeaning}
use Rattle.news_room.specs.Beside.{Beside}
use Rattle.news_room.specs.Claims.{ClaimStep, ClaimHappens, claim_entries, attempt_entries, is_claim_fault}
use Rattle.news_room.specs.Events.{Happens}
use Rattle.news_room.specs.Said.{said_kept, is_failure}
use Rattle.news_room.specs.Stands.{Stands, numbers}
use Rattle.news_room.specs.Steps.{ReceiptStep, ToldStep, After, entries, tick_entries}
use Rattle.news_room.specs.declared.answers.Kept.{Kept}
use Rattle.news_room.specs.declared.claim.Claimed.{Claimed}
use Rattle.news_room.specs.declared.room.Room.{Room}
use Rattle.news_room.proofs.Chosen.{chosen_there, chosen_entry}
use Rattle.news_room.proofs.Claims.{attempt_is, behind_tick}
use Rattle.news_room.proofs.Going.{after_then}
use Rattle.world_laws.proofs.Frames.{frame_stays}
use Rattle.publish_workers.specs.Turns.{Exchange, Unsent, Unread, Replied, Receipted, Turn, word_of, word_of_receipt, word, is_store_fault}
use Rattle.publish_workers.specs.Links.{CountsFaults}
use Rattle.publish_workers.specs.Events.{IsTurnOfWorld}
use Rattle.publish_workers.specs.Steps.{later_entries, turn_entries, IsReceiptAnswer, IsReply, ExchangeStep, Exchanges, TurnHappens}
use Rattle.publish_workers.proofs.Worlds.{IsQuiet, HasFrame, quiet_world, receipted_world}

-- ---- the list behind a claim that gave a job

claim_list : (h : History) (names : List Bytes) (m : ℕ) (s : Bytes) (k : ℕ) → choice (ticked h m) names m ≡ Now s k → followed_by (claim_entries h names m) h ≡ entry_of m (Attempt s k) ∷ ticked h m
claim_list h names m s k is =
    sym (behind_more (tick_entries h m) (attempt_entries (ticked h m) names m) h) ∙ ap (followed_by (attempt_entries (ticked h m) names m)) (behind_tick h m (tick_entries h m) refl)
    ∙ ap (λ (l : List Entry). followed_by l (ticked h m)) (attempt_is (ticked h m) names m s k is)

module _ (x : Beside) (b : Book) (now : ℕ) (names : List Bytes) (first : List Entry) (s : Bytes) (k : ℕ) (frame : Bytes) (front : ℕ) (step : ClaimStep x b now names first (Claimed.Job s k frame front)) where
  pub left_is : (onto first b).list ≡ entry_of (moment_at b.list now) (Attempt s k) ∷ ticked b.list (moment_at b.list now)
  left_is = ap (λ (l : List Entry). followed_by l b.list) step.3.whole.is ∙ claim_list b.list names (moment_at b.list now) s k step.0

  -- whose frame it is, is a subscriber
  pub job_there : is_subscriber (onto first b).list s ≡ true
  job_there = ap (λ (g : History). is_subscriber g s) left_is ∙ (chosen_there (ticked b.list (moment_at b.list now)) names (moment_at b.list now) s k step.0).0

  -- the frame is that of its feed in the list that the claim left
  pub job_frame : {K : Type 0} (keeper : KeeperMeaning K) (between : Room K) → Stands keeper between (onto first b) → HasFrame (the_writer b.store) (onto first b).list (Claimed.Job s k frame front)
  job_frame keeper between stands =
      let write : Writer = the_writer b.store in
      let m : ℕ = moment_at b.list now in
      let g : History = ticked b.list m in
      let e : Entry = entry_of m (Attempt s k) in
      let there = chosen_entry g names m s k step.0 in
      let f : Frame = framed write (format g s) s k there.0 in
      let is : frame_at write g s k ≡ Some f = ap (option_map (framed write (format g s) s k)) there.1 in
      let legal : IsLegal (e ∷ g) = subst IsLegal left_is stands.kept.legal in
      (f, ap (λ (l : History). frame_at write l s k) left_is ∙ frame_stays write e g s k f legal is, step.1 ∙ ap (λ (o : Option Frame). bytes_of o) is)

-- ---- the told part, said otherwise

told_as : {K : Type 0} (keeper : KeeperMeaning K) (old new : Room K) (b : Book) (l l' m m' : List Entry) (failed failed' : Bool) → l ≡ l' → m ≡ m' → failed ≡ failed' → ToldStep keeper old new b l m failed → ToldStep keeper old new b l' m' failed'
told_as keeper old new b l l' m m' failed failed' same more fails told =
    subst (λ (f : Bool). ToldStep keeper old new b l' m' f) fails (subst (λ (x : List Entry). ToldStep keeper old new b l' x failed) more (subst (λ (x : List Entry). ToldStep keeper old new b x m failed) same told))

nothing_later : (g : History) (c : Claimed) (x : Exchange) → IsQuiet x → later_entries g c x ≡ []
nothing_later g (Claimed.Job s k frame front) Unsent quiet = refl
nothing_later g (Claimed.Job s k frame front) Unread quiet = refl
nothing_later g (Claimed.Job s k frame front) (Replied reply) quiet = refl
nothing_later g (Claimed.Job s k frame front) (Receipted reply n at kept) quiet = absurd quiet
nothing_later g (Claimed.Idle next) x quiet = refl
nothing_later g Claimed.Fault x quiet = refl
nothing_later g (Claimed.Full size count) x quiet = refl
nothing_later g Claimed.Memory x quiet = refl

claim_word : (c : Claimed) (x : Exchange) → IsQuiet x → is_claim_fault c ≡ is_store_fault (word_of c x)
claim_word (Claimed.Job s k frame front) Unsent quiet = refl
claim_word (Claimed.Job s k frame front) Unread quiet = refl
claim_word (Claimed.Job s k frame front) (Replied reply) quiet = refl
claim_word (Claimed.Job s k frame front) (Receipted reply n at kept) quiet = absurd quiet
claim_word (Claimed.Idle next) x quiet = refl
claim_word Claimed.Fault x quiet = refl
claim_word (Claimed.Full size count) x quiet = refl
claim_word Claimed.Memory x quiet = refl

receipt_word : (s : Bytes) (k : ℕ) (reply : Bytes) (n : ℕ) (kept : Kept) → is_failure (said_kept kept) ≡ is_store_fault (word_of_receipt s k reply n kept)
receipt_word s k reply n (Kept.Done done) = refl
receipt_word s k reply n (Kept.Denied why) = refl
receipt_word s k reply n Kept.Fault = refl
receipt_word s k reply n (Kept.Full size count) = refl

-- ---- turns

-- a claim at a reading, by a room that stood for the book
abbrev pub Claiming : {K : Type 0} → KeeperMeaning K → Room K → Room K → Book → List Entry → List Bytes → ℕ → Claimed → Type 0
Claiming keeper old between b first names reading c = ClaimHappens keeper old between b first names reading c (ClaimStep (numbers keeper old between) b reading names first c)

-- a receipt at a reading
abbrev pub Receiving : {K : Type 0} → KeeperMeaning K → Room K → Room K → Book → List Entry → Bytes → ℕ → ℕ → Kept → Type 0
Receiving keeper between new b more s n at kept = Happens keeper between new b more (call.Receipted s n) at (said_kept kept) (ReceiptStep (numbers keeper between new) b at s n more kept)

module _ {K : Type 0} (keeper : KeeperMeaning K) where
  -- no receipt came
  quiet_turn : (old between : Room K) (b : Book) (names : List Bytes) (t : Turn) (first : List Entry) → Claiming keeper old between b first names t.reading t.claimed → HasFrame (the_writer b.store) (onto first b).list t.claimed
      → IsQuiet t.exchange → Exchanges keeper between between (onto first b) t.claimed t.exchange [] → TurnHappens keeper old between between b names t first []
  quiet_turn old between b names t first claim has quiet exchanged =
      let none : first ≡ first ++ [] = sym (append-nil first) in
      let should : List Entry = claim_entries b.list names (moment_at b.list t.reading) in
      record {
        claim = claim;
        exchange = exchanged;
        stands = subst (λ (l : List Entry). Stands keeper between (onto l b)) none claim.stands;
        events = subst (λ (l : List Entry). IsTurnOfWorld keeper old between b l names t) none (quiet_world keeper old between b names t first claim.event has quiet);
        told = λ yes. told_as keeper old between b should (turn_entries b names t first) first (first ++ []) (is_claim_fault t.claimed) (is_store_fault (word t))
            (sym (ap (λ (l : List Entry). should ++ l) (nothing_later (onto first b).list t.claimed t.exchange quiet) ∙ append-nil should)) none (claim_word t.claimed t.exchange quiet) (claim.told yes);
      }

  -- of a claim that gave no job
  pub idle_turn : (old between : Room K) (b : Book) (names : List Bytes) (reading : ℕ) (first : List Entry) (next : Option ℕ) → Claiming keeper old between b first names reading (Claimed.Idle next)
      → TurnHappens keeper old between between b names (record { reading = reading; claimed = Claimed.Idle next; exchange = Unsent }) first []
  idle_turn old between b names reading first next claim = quiet_turn old between b names (record { reading = reading; claimed = Claimed.Idle next; exchange = Unsent }) first claim tt tt (refl, refl, refl)

  pub fault_turn : (old between : Room K) (b : Book) (names : List Bytes) (reading : ℕ) (first : List Entry) → Claiming keeper old between b first names reading Claimed.Fault
      → TurnHappens keeper old between between b names (record { reading = reading; claimed = Claimed.Fault; exchange = Unsent }) first []
  fault_turn old between b names reading first claim = quiet_turn old between b names (record { reading = reading; claimed = Claimed.Fault; exchange = Unsent }) first claim tt tt (refl, refl, refl)

  pub full_turn : (old between : Room K) (b : Book) (names : List Bytes) (reading : ℕ) (first : List Entry) (size count : ℕ) → Claiming keeper old between b first names reading (Claimed.Full size count)
      → TurnHappens keeper old between between b names (record { reading = reading; claimed = Claimed.Full size count; exchange = Unsent }) first []
  full_turn old between b names reading first size count claim = quiet_turn old between b names (record { reading = reading; claimed = Claimed.Full size count; exchange = Unsent }) first claim tt tt (refl, refl, refl)

  pub memory_turn : (old between : Room K) (b : Book) (names : List Bytes) (reading : ℕ) (first : List Entry) → Claiming keeper old between b first names reading Claimed.Memory
      → TurnHappens keeper old between between b names (record { reading = reading; claimed = Claimed.Memory; exchange = Unsent }) first []
  memory_turn old between b names reading first claim = quiet_turn old between b names (record { reading = reading; claimed = Claimed.Memory; exchange = Unsent }) first claim tt tt (refl, refl, refl)

module _ {K : Type 0} (keeper : KeeperMeaning K) (old between : Room K) (b : Book) (names : List Bytes) (reading : ℕ) (first : List Entry) (s : Bytes) (k : ℕ) (frame : Bytes) (front : ℕ)
    (claim : Claiming keeper old between b first names reading (Claimed.Job s k frame front)) where
  has : HasFrame (the_writer b.store) (onto first b).list (Claimed.Job s k frame front)
  has = job_frame (numbers keeper old between) b reading names first s k frame front claim.step keeper between claim.stands

  -- the room is as the claim left it
  still_turn : (new : Room K) (x : Exchange) (later : List Entry) → IsQuiet x → ExchangeStep keeper between between (onto first b) s x [] → IsReply (onto first b).list s k x → (new ≡ between) × (later ≡ [])
      → TurnHappens keeper old between new b names (record { reading = reading; claimed = Claimed.Job s k frame front; exchange = x }) first later
  still_turn new x later quiet follows replied same =
      let t : Turn = record { reading = reading; claimed = Claimed.Job s k frame front; exchange = x } in
      subst (λ (r : Room K). TurnHappens keeper old between r b names t first later) (sym same.0)
      (subst (λ (l : List Entry). TurnHappens keeper old between between b names t first l) (sym same.1)
      (quiet_turn keeper old between b names t first claim has quiet (follows, replied)))

  receipted_turn : (new : Room K) (reply : Bytes) (n at : ℕ) (kept : Kept) (later : List Entry) → Receiving keeper between new (onto first b) later s n at kept → IsReceiptAnswer (onto first b).list s k reply n kept
      → TurnHappens keeper old between new b names (record { reading = reading; claimed = Claimed.Job s k frame front; exchange = Receipted reply n at kept }) first later
  receipted_turn new reply n at kept later receipt answer =
      let t : Turn = record { reading = reading; claimed = Claimed.Job s k frame front; exchange = Receipted reply n at kept } in
      let should : List Entry = claim_entries b.list names (moment_at b.list reading) in
      let after : List Entry = entries (follow (onto first b).list (call.Receipted s n) (moment_at (onto first b).list at)) in
      let one : After keeper old between b should first false (Unit {0}) = record { stands = claim.stands; did = tt; told = claim.told } in
      let two : After keeper between new (onto first b) after later (is_failure (said_kept kept)) (Unit {0}) = record { stands = receipt.stands; did = tt; told = receipt.told } in
      let both : After keeper old new b (should ++ after) (first ++ later) (is_failure (said_kept kept)) (Unit {0}) =
      after_then keeper old between new b should after first later (is_failure (said_kept kept)) (Unit {0}) (Unit {0}) (Unit {0}) claim.step.3.whole.is one two tt in
      record {
        claim = claim;
        exchange = (receipt, answer);
        stands = both.stands;
        events = receipted_world keeper old between new b names reading s k frame front reply n at kept first later claim.event has receipt.event;
        told = λ yes. subst (λ (f : Bool). ToldStep keeper old new b (should ++ after) (first ++ later) f) (receipt_word s k reply n kept) (both.told yes);
      }

  pub job_turn : (new : Room K) (x : Exchange) (later : List Entry) → ExchangeStep keeper between new (onto first b) s x later → IsReply (onto first b).list s k x
      → TurnHappens keeper old between new b names (record { reading = reading; claimed = Claimed.Job s k frame front; exchange = x }) first later
  job_turn new Unsent later follows replied = still_turn new Unsent later tt (refl, refl) replied follows
  job_turn new Unread later follows replied = still_turn new Unread later tt (refl, refl) replied follows
  job_turn new (Replied reply) later follows replied = still_turn new (Replied reply) later tt (refl, refl) replied follows
  job_turn new (Receipted reply n at kept) later follows replied = receipted_turn new reply n at kept later follows replied

-- ---- the keeper's count

module _ {K : Type 0} (keeper : KeeperMeaning K) where
  receipt_counts : (faults : ℕ) (between new : Room K) (b : Book) (s : Bytes) (k : ℕ) (reply : Bytes) (n at : ℕ) (kept : Kept) (later : List Entry) → keeper.faults between.keeper ≡ faults → ReceiptStep (numbers keeper between new) b at s n later kept
      → CountsFaults (is_store_fault (word_of_receipt s k reply n kept)) faults (keeper.faults new.keeper)
  receipt_counts faults between new b s k reply n at (Kept.Done done) later same step = step.1.whole.calm ∙ same
  receipt_counts faults between new b s k reply n at (Kept.Denied why) later same step = step.1.whole.calm ∙ same
  receipt_counts faults between new b s k reply n at Kept.Fault later same step = subst (λ (x : ℕ). Rose x (keeper.faults new.keeper)) same step.rose
  receipt_counts faults between new b s k reply n at (Kept.Full size count) later same step = step.calm ∙ same

  -- it rose where the turn is told as its fault
  still_counts : (old between new : Room K) (worked : Bool) → new ≡ between → CountsFaults worked (keeper.faults old.keeper) (keeper.faults between.keeper) → CountsFaults worked (keeper.faults old.keeper) (keeper.faults new.keeper)
  still_counts old between new worked same counts = subst (λ (r : Room K). CountsFaults worked (keeper.faults old.keeper) (keeper.faults r.keeper)) (sym same) counts

  counts_by : (old between new : Room K) (b : Book) (names : List Bytes) (reading : ℕ) (first later : List Entry) (c : Claimed) (x : Exchange) → ClaimStep (numbers keeper old between) b reading names first c → Exchanges keeper between new (onto first b) c x later
      → CountsFaults (is_store_fault (word_of c x)) (keeper.faults old.keeper) (keeper.faults new.keeper)
  counts_by old between new b names reading first later (Claimed.Job s k frame front) Unsent step x = still_counts old between new false x.0.0 step.3.whole.calm
  counts_by old between new b names reading first later (Claimed.Job s k frame front) Unread step x = still_counts old between new false x.0.0 step.3.whole.calm
  counts_by old between new b names reading first later (Claimed.Job s k frame front) (Replied reply) step x = still_counts old between new false x.0.0 step.3.whole.calm
  counts_by old between new b names reading first later (Claimed.Job s k frame front) (Receipted reply n at kept) step x =
      receipt_counts (keeper.faults old.keeper) between new (onto first b) s k reply n at kept later step.3.whole.calm x.0.step
  counts_by old between new b names reading first later (Claimed.Idle next) e step x = still_counts old between new false x.1 step.1.whole.calm
  counts_by old between new b names reading first later Claimed.Fault e step x = still_counts old between new true x.1 step.rose
  counts_by old between new b names reading first later (Claimed.Full size count) e step x = still_counts old between new false x.1 step.calm
  counts_by old between new b names reading first later Claimed.Memory e step x = still_counts old between new false x.1 step.whole.calm

  pub turn_counts : (old between new : Room K) (b : Book) (names : List Bytes) (t : Turn) (first later : List Entry) → TurnHappens keeper old between new b names t first later
      → CountsFaults (is_store_fault (word t)) (keeper.faults old.keeper) (keeper.faults new.keeper)
  turn_counts old between new b names t first later happens = counts_by old between new b names t.reading first later t.claimed t.exchange happens.claim.step happens.exchange

-- ---- a claim, said otherwise

pub claimed_as : {K : Type 0} (keeper : KeeperMeaning K) (old between : Room K) (b : Book) (first : List Entry) (names names' : List Bytes) (reading : ℕ) (c c' : Claimed) → names ≡ names' → c ≡ c'
    → Claiming keeper old between b first names reading c → Claiming keeper old between b first names' reading c'
claimed_as keeper old between b first names names' reading c c' same is claim =
    subst (λ (ns : List Bytes). Claiming keeper old between b first ns reading c') same (subst (λ (x : Claimed). Claiming keeper old between b first names reading x) is claim)
