-- A claim, by its tick and by the keeping of its attempt.
use Rattle.std.proofs.Common.{◌≡◌, ℕ, ◌+◌, ◌≤◌, Bool, true, false, List, [], ◌∷◌, ◌++◌, length, Option, Some, None, Ok, Err, refl, sym, ap, ◌∙◌, subst, arith}
use Rattle.std.specs.Prelude.{Result}
use Rattle.std.proofs.lemmas.List.{append-nil}
use Rattle.news_types.specs.declared.entry.Entry.{Entry}
use Rattle.news_types.specs.declared.entry.Act.TheVariants.{Attempt}
use Rattle.news_types.specs.declared.query.Ready.{Ready}
use Rattle.news_types.specs.declared.query.Ready.TheVariants.{Now, Later}
use Rattle.news_types.specs.Names.{Bytes}
use Rattle.news_types.specs.History.{History, moment as last_moment, moment_at}
use Rattle.news_types.specs.Delivery.{choice}
use Rattle.news_types.specs.Feeds.{Dispatch}
use Rattle.news_types.specs.Legal.{some_waits}
use Rattle.news_types.specs.Frames.{Frame, Writer, format, framed, numbered, bytes_of, frame_at, frame_bytes_at}
use Rattle.news_types.specs.Calls.{Ticked, follow, ticked, attempt_of}
use Rattle.news_types.specs.Calls as call
use Rattle.news_types.specs.Outcome.{entry_of}
use Rattle.news_types.specs.Books.{Book, followed_by, onto}
use Rattle.news_types.proofs.Books.{behind_more}
use Rattle.news_types.proofs.Quiet.{attempt_feed, ticked_calm, ticked_moment}
use Rattle.std.specs.Option.{option_map}
use Rattle.feed_frames.specs.Writer.{the_writer}
use Rattle.news_io.specs.Keeper.{KeeperMeaning}
use Rattle.news_io.specs.declared.keeper.AppendFault.{AppendFault}
use Rattle.news_io.specs.declared.keeper.AppendFault.TheVariants.{Fault, Full}
use Rattle.news_room.specs.Stands.{LIMIT, numbers}
use Rattle.news_room.specs.Beside.{Beside, beside}
use Rattle.news_room.specs.Steps.{Given, Failed, Refused, PutStep, ReleaseStep, entries, tick_entries, After, is_append_fault}
use Rattle.news_room.specs.Claims.{ClaimAt, ClaimStep, attempt_entries, claim_entries, claimed_by, is_claim_fault}
use Rattle.news_room.specs.declared.claim.Claimed.{Claimed}
use Rattle.news_room.specs.declared.room.Room.{Room}
use Rattle.news_room.proofs.Steps.{given_given, given_failed, given_refused, failed_longer, refused_longer}
use Rattle.news_room.proofs.Going.{after_as, after_should, after_longer, after_then}

-- ---- the list behind a tick

followed_entries : (o : Option Entry) (h : History) → followed_by (entries o) h ≡ call.more o h
followed_entries None h = refl
followed_entries (Some e) h = refl

pub behind_tick : (h : History) (m : ℕ) (more : List Entry) → more ≡ tick_entries h m → followed_by more h ≡ ticked h m
behind_tick h m more is = ap (λ (l : List Entry). followed_by l h) is ∙ followed_entries (follow h Ticked m) h

pub behind_moment : (h : History) (m : ℕ) (more : List Entry) → more ≡ tick_entries h m → last_moment h ≤ m → last_moment (followed_by more h) ≤ m
behind_moment h m more is le = subst (λ (g : History). last_moment g ≤ m) (sym (behind_tick h m more is)) (ticked_moment h m le)

-- the room behind a tick at a moment, of which all was kept
abbrev pub Ticks : {K : Type 0} → KeeperMeaning K → Room K → Room K → Book → ℕ → List Entry → Type 0
Ticks keeper r s b m more = After keeper r s b (tick_entries b.list m) more false (Given (numbers keeper r s) LIMIT (tick_entries b.list m) more)

pub ticks_at : {K : Type 0} (keeper : KeeperMeaning K) (r s : Room K) (b : Book) (m m' : ℕ) (more : List Entry) (waits : Bool) → m ≡ m'
    → After keeper r s b (tick_entries b.list m) more false (ReleaseStep (numbers keeper r s) b m more (Ok waits)) → Ticks keeper r s b m' more
ticks_at keeper r s b m m' more waits at a = subst (λ (x : ℕ). Ticks keeper r s b x more) at (after_as keeper r s b (tick_entries b.list m) more false _ _ a a.did.1)

-- ---- the attempt

-- the attempt on who is chosen is the entry that follows
pub attempt_is : (g : History) (names : List Bytes) (m : ℕ) (s : Bytes) (k : ℕ) → choice g names m ≡ Now s k → attempt_entries g names m ≡ entry_of m (Attempt s k) ∷ []
attempt_is g names m s k is = ap (λ (r : Ready). entries (attempt_of m r)) is

pub attempt_none : (g : History) (names : List Bytes) (m : ℕ) (next : Option ℕ) → choice g names m ≡ Later next → attempt_entries g names m ≡ []
attempt_none g names m next is = ap (λ (r : Ready). entries (attempt_of m r)) is

-- the room behind an attempt at a list and a moment
abbrev pub Attempts : {K : Type 0} → KeeperMeaning K → Room K → Room K → Book → History → List Bytes → ℕ → List Entry → Claimed → Type 0
Attempts keeper r s b g names m more claimed =
    After keeper r s b (attempt_entries g names m) more (is_claim_fault claimed) (ClaimAt (the_writer b.store) (numbers keeper r s) g names m (attempt_entries g names m) [] more claimed)

-- the room behind the keeping of an attempt
abbrev pub PutsAttempt : {K : Type 0} → KeeperMeaning K → Room K → Room K → Book → ℕ → Bytes → ℕ → List Entry → Result (Unit {0}) AppendFault → Type 0
PutsAttempt keeper r s b m to k more did = After keeper r s b (entry_of m (Attempt to k) ∷ []) more (is_append_fault did) (PutStep (numbers keeper r s) LIMIT (entry_of m (Attempt to k)) more did)

module _ {K : Type 0} (keeper : KeeperMeaning K) (r s : Room K) (b : Book) (names : List Bytes) (m : ℕ) (to : Bytes) (k : ℕ) (chosen : choice b.list names m ≡ Now to k) where
  -- its frame goes out
  pub sent : (frame : Bytes) (front : ℕ) (more : List Entry) → frame ≡ frame_bytes_at (the_writer b.store) b.list to k → front ≡ length b.list + 1 → PutsAttempt keeper r s b m to k more (Ok tt)
      → Attempts keeper r s b b.list names m more (Claimed.Job to k frame front)
  sent frame front more bytes place a =
      let same = sym (attempt_is b.list names m to k chosen) in
      after_should keeper r s b (entry_of m (Attempt to k) ∷ []) (attempt_entries b.list names m) more false _ _ same a (chosen, bytes, place, subst (λ (l : List Entry). Given (numbers keeper r s) LIMIT l more) same a.did)

  -- it was not kept
  pub not_sent : (more : List Entry) (why : AppendFault) → PutsAttempt keeper r s b m to k more (Err why) → Attempts keeper r s b b.list names m more (claimed_by why)
  not_sent more Fault a =
      let same = sym (attempt_is b.list names m to k chosen) in
      after_should keeper r s b (entry_of m (Attempt to k) ∷ []) (attempt_entries b.list names m) more true _ _ same a (subst (λ (l : List Entry). Failed (numbers keeper r s) LIMIT l more) same a.did)
  not_sent more (Full size count) a =
      let same = sym (attempt_is b.list names m to k chosen) in
      after_should keeper r s b (entry_of m (Attempt to k) ∷ []) (attempt_entries b.list names m) more false _ _ same a (subst (λ (l : List Entry). Refused (numbers keeper r s) LIMIT l more size count) same a.did)

-- ---- the attempt behind the tick

module _ (f u g v k w : ℕ) (write : Writer) (h : History) (names : List Bytes) (m : ℕ) where
  claim_at_then : (s s' n n' : List Entry) (claimed : Claimed) → Given (beside f u g v) LIMIT s n → ClaimAt write (beside g v k w) h names m s' [] n' claimed → ClaimAt write (beside f u k w) h names m (s ++ s') s (n ++ n') claimed
  claim_at_then s s' n n' (Claimed.Job to number frame front) one two = (two.0, two.1, two.2, given_given f u g v k w LIMIT s s' n n' one two.3)
  claim_at_then s s' n n' (Claimed.Idle next) one two = (two.0, given_given f u g v k w LIMIT s s' n n' one two.1)
  claim_at_then s s' n n' Claimed.Fault one two = given_failed f u g v k w LIMIT s s' n n' one two
  claim_at_then s s' n n' (Claimed.Full size count) one two = given_refused f u g v k w LIMIT s s' n n' size count one two
  claim_at_then s s' n n' Claimed.Memory one two = subst (λ (l : List Entry). Given (beside f u k w) LIMIT l (n ++ n')) (append-nil s) (given_given f u g v k w LIMIT s [] n n' one two)

-- the room behind a claim
abbrev pub Claims : {K : Type 0} → KeeperMeaning K → Room K → Room K → Book → ℕ → List Bytes → List Entry → Claimed → Type 0
Claims keeper r t b now names more claimed = After keeper r t b (claim_entries b.list names (moment_at b.list now)) more (is_claim_fault claimed) (ClaimStep (numbers keeper r t) b now names more claimed)

module _ {K : Type 0} (keeper : KeeperMeaning K) where
  -- an attempt at a list and a moment that are said otherwise
  pub attempt_at : (r s : Room K) (b : Book) (g g' : History) (names : List Bytes) (m m' : ℕ) (more : List Entry) (claimed : Claimed) → g ≡ g' → m ≡ m' → Attempts keeper r s b g names m more claimed → Attempts keeper r s b g' names m' more claimed
  attempt_at r s b g g' names m m' more claimed same at a =
      subst (λ (x : ℕ). Attempts keeper r s b g' names x more claimed) at (subst (λ (l : History). Attempts keeper r s b l names m more claimed) same a)

  -- the tick kept what was due
  pub claimed_then : (r s t : Room K) (b : Book) (now : ℕ) (names : List Bytes) (more more' : List Entry) (claimed : Claimed) → Ticks keeper r s b (moment_at b.list now) more
      → Attempts keeper s t (onto more b) (ticked b.list (moment_at b.list now)) names (moment_at b.list now) more' claimed → Claims keeper r t b now names (more ++ more') claimed
  claimed_then r s t b now names more more' claimed one two =
      let m : ℕ = moment_at b.list now in
      after_then keeper r s t b (tick_entries b.list m) (attempt_entries (ticked b.list m) names m) more more' (is_claim_fault claimed) _ _ _ one.did.whole.is one two
      (claim_at_then (keeper.faults r.keeper) (keeper.used r.keeper) (keeper.faults s.keeper) (keeper.used s.keeper) (keeper.faults t.keeper) (keeper.used t.keeper) (the_writer b.store) (ticked b.list m) names m
      (tick_entries b.list m) (attempt_entries (ticked b.list m) names m) more more' claimed one.did two.did)

  -- or its entry was not kept
  pub not_claimed : (r s : Room K) (b : Book) (now : ℕ) (names : List Bytes) (more : List Entry) (why : AppendFault)
      → After keeper r s b (tick_entries b.list (moment_at b.list now)) more (is_append_fault {A = Bool} (Err why)) (ReleaseStep (numbers keeper r s) b (moment_at b.list now) more (Err why))
      → Claims keeper r s b now names more (claimed_by why)
  not_claimed r s b now names more Fault a =
      let m : ℕ = moment_at b.list now in
      let late : List Entry = attempt_entries (ticked b.list m) names m in
      after_longer keeper r s b (tick_entries b.list m) late more true _ _ a (failed_longer (numbers keeper r s) LIMIT (tick_entries b.list m) late more a.did)
  not_claimed r s b now names more (Full size count) a =
      let m : ℕ = moment_at b.list now in
      let late : List Entry = attempt_entries (ticked b.list m) names m in
      after_longer keeper r s b (tick_entries b.list m) late more false _ _ a (refused_longer (numbers keeper r s) LIMIT (tick_entries b.list m) late more size count a.did)

-- ---- the frame is that of the list which the claim left, too

-- an attempt changes no frame, where nothing that waits is released by its moment
attempt_frame : (write : Writer) (g : History) (m : ℕ) (t : Bytes) (j : ℕ) (s : Bytes) (k : ℕ) → last_moment g ≤ m → some_waits g m ≡ false → frame_at write (entry_of m (Attempt t j) ∷ g) s k ≡ frame_at write g s k
attempt_frame write g m t j s k le calm = ap (λ (ps : List Dispatch). option_map (framed write (format g s) s k) (numbered ps k)) (attempt_feed g m t j s le calm)

-- behind the whole of a claim
claim_list : (h : History) (names : List Bytes) (m : ℕ) (s : Bytes) (k : ℕ) → choice (ticked h m) names m ≡ Now s k → followed_by (claim_entries h names m) h ≡ entry_of m (Attempt s k) ∷ ticked h m
claim_list h names m s k is =
    sym (behind_more (tick_entries h m) (attempt_entries (ticked h m) names m) h) ∙ ap (followed_by (attempt_entries (ticked h m) names m)) (behind_tick h m (tick_entries h m) refl)
    ∙ ap (λ (l : List Entry). followed_by l (ticked h m)) (attempt_is (ticked h m) names m s k is)

pub claim_frame : (n : Beside) (b : Book) (now : ℕ) (names : List Bytes) (more : List Entry) (s : Bytes) (k : ℕ) (frame : Bytes) (front : ℕ) → ClaimStep n b now names more (Claimed.Job s k frame front)
    → frame ≡ frame_bytes_at (the_writer b.store) (onto more b).list s k
claim_frame n b now names more s k frame front step =
    let h : History = b.list in
    let m : ℕ = moment_at h now in
    let le : last_moment h ≤ m = omega arith in
    let left : (onto more b).list ≡ entry_of m (Attempt s k) ∷ ticked h m = ap (λ (l : List Entry). followed_by l h) step.3.whole.is ∙ claim_list h names m s k step.0 in
    step.1 ∙ ap (λ (o : Option Frame). bytes_of o) (sym (attempt_frame (the_writer b.store) (ticked h m) m s k s k (ticked_moment h m le) (ticked_calm h m)))
    ∙ ap (λ (g : History). frame_bytes_at (the_writer b.store) g s k) (sym left)
