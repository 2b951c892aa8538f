-- Turns one behind another.
use Rattle.std.proofs.Common.{◌≡◌, ℕ, ◌+◌, ◌<◌, ◌≤◌, Bool, true, false, ◌||◌, List, [], ◌∷◌, ◌++◌, take, drop, Some, None, refl, sym, ap, ◌∙◌, subst, append-nil, append_assoc, inl, inr, arith}
use Rattle.std.proofs.lemmas.List.{take-append-drop}
use Rattle.news_types.specs.declared.entry.Entry.{Entry}
use Rattle.news_types.specs.declared.entry.Act.TheVariants.{Attempt}
use Rattle.news_types.specs.Names.{Bytes}
use Rattle.news_types.specs.Books.{Book, onto}
use Rattle.news_types.specs.Calls.{ticked}
use Rattle.news_types.specs.History.{moment_at}
use Rattle.news_types.specs.Outcome.{entry_of}
use Rattle.news_io.specs.Faults.{Rose}
use Rattle.news_io.specs.Keeper.{KeeperMeaning}
use Rattle.news_io.specs.Link.{Passed, LinkMeaning}
use Rattle.news_io.specs.Sink.{SinkMeaning, AreFirst}
use Rattle.news_io.proofs.Runs.{elapses_same}
use Rattle.news_room.specs.Beside.{Beside}
use Rattle.news_room.specs.Claims.{ClaimStep, claim_entries}
use Rattle.news_room.specs.Log.{sizes}
use Rattle.news_room.specs.Stands.{Stands, LIMIT, numbers}
use Rattle.news_room.specs.Steps.{Given, Within, After, tick_entries}
use Rattle.news_room.specs.declared.answers.Kept.{Kept}
use Rattle.news_room.specs.declared.claim.Claimed.{Claimed}
use Rattle.news_room.specs.declared.room.Room.{Room}
use Rattle.news_room.proofs.Claims.{attempt_is}
use Rattle.news_room.proofs.Going.{after_then}
use Rattle.news_room.proofs.Steps.{sizes_more}
use Rattle.publish_workers.specs.declared.worked.Worked.{Worked}
use Rattle.publish_workers.specs.declared.worked.Worked.TheVariants.{Delivered, Idle, NoReceipt, LinkFault, StoreFault, Full, Memory}
use Rattle.publish_workers.specs.declared.drain.Drained as ends
use Rattle.publish_workers.specs.declared.drain.Drained.{Drained}
use Rattle.publish_workers.specs.declared.drain.Reported.{Reported}
use Rattle.publish_workers.specs.Turns.{Exchange, Unsent, Unread, Replied, Receipted, Turn, word, word_of, is_link_fault, is_store_fault}
use Rattle.publish_workers.specs.Links.{Passes, CountsFaults}
use Rattle.publish_workers.specs.Steps.{later_entries, turn_entries, Exchanges, TurnHappens}
use Rattle.publish_workers.specs.Drains.{report_of, IsReported, end_of, IsEnd, is_store_end, is_output_end, CountsLink, IsLineFault, Prints, TurnsHappen, DrainHappens}
use Rattle.publish_workers.proofs.Exchanging.{goes_then}

-- ---- words

none_some : {A : Type 0} (x : A) → None ≡ Some x → ⊥
none_some x h = cc

pub is_reported : (w : Worked) (r : Reported) → report_of w ≡ Some r → IsReported w
is_reported (Delivered s k n) r is = tt
is_reported (NoReceipt s k reply) r is = tt
is_reported (LinkFault s k) r is = tt
is_reported (Idle next) r is = none_some r is
is_reported StoreFault r is = none_some r is
is_reported (Full size count) r is = none_some r is
is_reported Memory r is = none_some r is

no_fault : (lost refused : Bool) (w : Worked) → ends.Drained.OutputFault ≡ end_of w lost refused → ⊥
no_fault lost refused (Delivered s k n) is = cc
no_fault lost refused (NoReceipt s k reply) is = cc
no_fault lost refused (LinkFault s k) is = cc
no_fault lost refused (Idle next) is = cc
no_fault lost refused StoreFault is = cc
no_fault lost refused (Full size count) is = cc
no_fault lost refused Memory is = cc

pub end_is : (lost refused : Bool) (w : Worked) (d : Drained) → d ≡ end_of w lost refused → IsEnd lost refused w d
end_is lost refused w ends.Drained.OutputFault is = absurd (no_fault lost refused w is)
end_is lost refused w (ends.Drained.Idle link_failed no_receipt) is = is
end_is lost refused w ends.Drained.StoreFault is = is
end_is lost refused w (ends.Drained.Full size count) is = is
end_is lost refused w ends.Drained.Memory is = is

no_memory : (lost refused : Bool) (w : Worked) → IsReported w → ends.Drained.Memory ≡ end_of w lost refused
no_memory lost refused (Delivered s k n) is = refl
no_memory lost refused (NoReceipt s k reply) is = refl
no_memory lost refused (LinkFault s k) is = refl
no_memory lost refused (Idle next) is = absurd is
no_memory lost refused StoreFault is = absurd is
no_memory lost refused (Full size count) is = absurd is
no_memory lost refused Memory is = refl

-- at the line of an attempt
pub line_end : (lost refused : Bool) (w : Worked) (d : Drained) → IsReported w → IsLineFault d → IsEnd lost refused w d
line_end lost refused w ends.Drained.OutputFault is fault = is
line_end lost refused w ends.Drained.Memory is fault = no_memory lost refused w is
line_end lost refused w (ends.Drained.Idle link_failed no_receipt) is fault = absurd fault
line_end lost refused w ends.Drained.StoreFault is fault = absurd fault
line_end lost refused w (ends.Drained.Full size count) is fault = absurd fault

-- ---- counts of faults

rose_then : (a b d : ℕ) → Rose a b → Rose b d → Rose a d
rose_then a b d (inl less) (inl more) = inl (omega arith)
rose_then a b d (inl less) (inr top) = inr top
rose_then a b d (inr top) (inl more) = inr (omega arith)
rose_then a b d (inr top) (inr still) = inr still

or_false : (x : Bool) → (x || false) ≡ x
or_false true = refl
or_false false = refl

-- of one turn and then another
pub counts_then : (x y : Bool) (a b d : ℕ) → CountsFaults x a b → CountsFaults y b d → CountsFaults (x || y) a d
counts_then true true a b d one two = rose_then a b d one two
counts_then true false a b d one two = subst (λ (n : ℕ). Rose a n) (sym two) one
counts_then false true a b d one two = subst (λ (n : ℕ). Rose n d) one two
counts_then false false a b d one two = two ∙ one

-- of a turn behind which nothing had failed
pub counts_behind : (x : Bool) (a b d : ℕ) → b ≡ a → CountsFaults x b d → CountsFaults x a d
counts_behind x a b d same counts = subst (λ (n : ℕ). CountsFaults x n d) same counts

-- at its end
pub link_ends : (failed refused : Bool) (w : Worked) (d : Drained) (a b : ℕ) → d ≡ end_of w failed refused → CountsFaults (failed || is_link_fault w) a b → CountsLink d a b
link_ends failed refused w d a b is counts = subst (λ (e : Drained). CountsLink e a b) (sym is) (by w counts)
  where
    by : (w : Worked) → CountsFaults (failed || is_link_fault w) a b → CountsLink (end_of w failed refused) a b
    by (Idle next) c = subst (λ (x : Bool). CountsFaults x a b) (or_false failed) c
    by StoreFault c = tt
    by (Full size count) c = tt
    by Memory c = tt
    by (Delivered s k n) c = tt
    by (NoReceipt s k reply) c = tt
    by (LinkFault s k) c = tt

pub line_link : (d : Drained) (a b : ℕ) → IsLineFault d → CountsLink d a b
line_link ends.Drained.OutputFault a b fault = tt
line_link ends.Drained.Memory a b fault = tt
line_link (ends.Drained.Idle link_failed no_receipt) a b fault = absurd fault
line_link ends.Drained.StoreFault a b fault = absurd fault
line_link (ends.Drained.Full size count) a b fault = absurd fault

store_end : (w : Worked) (lost refused : Bool) → is_store_fault w ≡ is_store_end (end_of w lost refused)
store_end (Idle next) lost refused = refl
store_end StoreFault lost refused = refl
store_end (Full size count) lost refused = refl
store_end Memory lost refused = refl
store_end (Delivered s k n) lost refused = refl
store_end (NoReceipt s k reply) lost refused = refl
store_end (LinkFault s k) lost refused = refl

pub store_ends : (w : Worked) (lost refused : Bool) (d : Drained) (a b : ℕ) → d ≡ end_of w lost refused → CountsFaults (is_store_fault w) a b → CountsFaults (is_store_end d) a b
store_ends w lost refused d a b is counts =
    subst (λ (e : Drained). CountsFaults (is_store_end e) a b) (sym is) (subst (λ (x : Bool). CountsFaults x a b) (store_end w lost refused) counts)

-- an attempt is no fault of the keeper
pub reported_calm : (w : Worked) → IsReported w → is_store_fault w ≡ false
reported_calm (Delivered s k n) is = refl
reported_calm (NoReceipt s k reply) is = refl
reported_calm (LinkFault s k) is = refl
reported_calm (Idle next) is = refl
reported_calm StoreFault is = absurd is
reported_calm (Full size count) is = refl
reported_calm Memory is = refl

line_store : (d : Drained) → IsLineFault d → is_store_end d ≡ false
line_store ends.Drained.OutputFault fault = refl
line_store ends.Drained.Memory fault = refl
line_store (ends.Drained.Idle link_failed no_receipt) fault = absurd fault
line_store ends.Drained.StoreFault fault = absurd fault
line_store (ends.Drained.Full size count) fault = absurd fault

pub calm_by : (w : Worked) (a b : ℕ) → IsReported w → CountsFaults (is_store_fault w) a b → b ≡ a
calm_by w a b is counts = subst (λ (x : Bool). CountsFaults x a b) (reported_calm w is) counts

pub line_calm : (d : Drained) (a b : ℕ) → IsLineFault d → b ≡ a → CountsFaults (is_store_end d) a b
line_calm d a b fault same = subst (λ (x : Bool). CountsFaults x a b) (sym (line_store d fault)) same

pub output_calm : (w : Worked) (lost refused : Bool) (d : Drained) (a b : ℕ) → d ≡ end_of w lost refused → b ≡ a → CountsFaults (is_output_end d) a b
output_calm w lost refused d a b is same = subst (λ (e : Drained). CountsFaults (is_output_end e) a b) (sym is) (by w)
  where
    by : (w : Worked) → CountsFaults (is_output_end (end_of w lost refused)) a b
    by (Idle next) = same
    by StoreFault = same
    by (Full size count) = same
    by Memory = same
    by (Delivered s k n) = same
    by (NoReceipt s k reply) = same
    by (LinkFault s k) = same

-- ---- an attempt keeps all that should follow

both : (a x b y : List Entry) → a ≡ x → b ≡ y → a ++ b ≡ x ++ y
both a x b y one two = ap (λ (l : List Entry). l ++ b) one ∙ ap (λ (l : List Entry). x ++ l) two

-- what was kept takes place, within the limit
within_some : (n : Beside) (limit : ℕ) (more : List Entry) → 0 < sizes more → Within n limit more → n.later_used ≤ limit
within_some n limit [] some within = absurd (omega arith)
within_some n limit (e ∷ es) some within = within

later_within : (n : Beside) (limit : ℕ) (more : List Entry) → n.used ≤ limit → n.later_used ≡ n.used + sizes more → Within n limit more → (n.used ≤ n.later_used) × (n.later_used ≤ limit)
later_within n limit [] low grown within = (omega arith, omega arith)
later_within n limit (e ∷ es) low grown within = (omega arith, within)

module _ {K : Type 0} (keeper : KeeperMeaning K) where
  claim_grows : (left between : Room K) (b : Book) (names : List Bytes) (reading : ℕ) (first : List Entry) (s : Bytes) (k : ℕ) (frame : Bytes) (front : ℕ) → ClaimStep (numbers keeper left between) b reading names first (Claimed.Job s k frame front)
      → (keeper.used left.keeper < keeper.used between.keeper) × (keeper.used between.keeper ≤ LIMIT)
  claim_grows left between b names reading first s k frame front step =
      let m : ℕ = moment_at b.list reading in
      let tick : List Entry = tick_entries b.list m in
      let e : Entry = entry_of m (Attempt s k) in
      let is : first ≡ tick ++ e ∷ [] = step.3.whole.is ∙ ap (λ (l : List Entry). tick ++ l) (attempt_is (ticked b.list m) names m s k step.0) in
      let size : sizes first ≡ sizes tick + sizes (e ∷ []) = ap sizes is ∙ sizes_more tick (e ∷ []) in
      let some : 0 < sizes first = omega (arith, size) in
      let grown : keeper.used between.keeper ≡ keeper.used left.keeper + sizes first = step.3.whole.grown in
      (omega (arith, grown, some), within_some (numbers keeper left between) LIMIT first some step.3.within)

  -- the exchange left the room as it was
  stays : (left between new : Room K) → new ≡ between → (keeper.used left.keeper < keeper.used between.keeper) × (keeper.used between.keeper ≤ LIMIT) → (keeper.used left.keeper < keeper.used new.keeper) × (keeper.used new.keeper ≤ LIMIT)
  stays left between new same grew = subst (λ (r : Room K). (keeper.used left.keeper < keeper.used r.keeper) × (keeper.used r.keeper ≤ LIMIT)) (sym same) grew

  goes : (left between new : Room K) (should later : List Entry) → Given (numbers keeper between new) LIMIT should later → (keeper.used left.keeper < keeper.used between.keeper) × (keeper.used between.keeper ≤ LIMIT)
      → (keeper.used left.keeper < keeper.used new.keeper) × (keeper.used new.keeper ≤ LIMIT)
  goes left between new should later given grew =
      let more = later_within (numbers keeper between new) LIMIT later grew.1 given.whole.grown given.within in
      let low : keeper.used between.keeper ≤ keeper.used new.keeper = more.0 in
      let was : keeper.used left.keeper < keeper.used between.keeper = grew.0 in
      (omega (arith, low, was), more.1)

  -- all was kept, and the log grew within the limit
  pub record Goes (left new : Room K) (should more : List Entry) (failed : Bool) : Type 0 where
    pub all : should ≡ more
    pub calm : failed ≡ false
    pub grew : (keeper.used left.keeper < keeper.used new.keeper) × (keeper.used new.keeper ≤ LIMIT)

  goes_on : (left between new : Room K) (b : Book) (names : List Bytes) (reading : ℕ) (first later : List Entry) (c : Claimed) (x : Exchange) → ClaimStep (numbers keeper left between) b reading names first c → Exchanges keeper between new (onto first b) c x later
      → IsReported (word_of c x) → Goes left new (claim_entries b.list names (moment_at b.list reading) ++ later_entries (onto first b).list c x) (first ++ later) (is_store_fault (word_of c x))
  goes_on left between new b names reading first later (Claimed.Job s k frame front) Unsent step x reported = record {
    all = both _ _ _ _ (sym step.3.whole.is) (sym x.0.1);
    calm = refl;
    grew = stays left between new x.0.0 (claim_grows left between b names reading first s k frame front step);
  }
  goes_on left between new b names reading first later (Claimed.Job s k frame front) Unread step x reported = record {
    all = both _ _ _ _ (sym step.3.whole.is) (sym x.0.1);
    calm = refl;
    grew = stays left between new x.0.0 (claim_grows left between b names reading first s k frame front step);
  }
  goes_on left between new b names reading first later (Claimed.Job s k frame front) (Replied reply) step x reported = record {
    all = both _ _ _ _ (sym step.3.whole.is) (sym x.0.1);
    calm = refl;
    grew = stays left between new x.0.0 (claim_grows left between b names reading first s k frame front step);
  }
  goes_on left between new b names reading first later (Claimed.Job s k frame front) (Receipted reply n at (Kept.Done done)) step x reported = record {
    all = both _ _ _ _ (sym step.3.whole.is) (sym x.0.step.1.whole.is);
    calm = refl;
    grew = goes left between new _ later x.0.step.1 (claim_grows left between b names reading first s k frame front step);
  }
  goes_on left between new b names reading first later (Claimed.Job s k frame front) (Receipted reply n at (Kept.Denied why)) step x reported = record {
    all = both _ _ _ _ (sym step.3.whole.is) (sym x.0.step.1.whole.is);
    calm = refl;
    grew = goes left between new _ later x.0.step.1 (claim_grows left between b names reading first s k frame front step);
  }
  goes_on left between new b names reading first later (Claimed.Job s k frame front) (Receipted reply n at Kept.Fault) step x reported = absurd reported
  goes_on left between new b names reading first later (Claimed.Job s k frame front) (Receipted reply n at (Kept.Full size count)) step x reported = absurd reported
  goes_on left between new b names reading first later (Claimed.Idle next) e step x reported = absurd reported
  goes_on left between new b names reading first later Claimed.Fault e step x reported = absurd reported
  goes_on left between new b names reading first later (Claimed.Full size count) e step x reported = absurd reported
  goes_on left between new b names reading first later Claimed.Memory e step x reported = absurd reported

  pub turn_goes : (left between new : Room K) (b : Book) (names : List Bytes) (t : Turn) (first later : List Entry) → TurnHappens keeper left between new b names t first later → IsReported (word t)
      → Goes left new (turn_entries b names t first) (first ++ later) (is_store_fault (word t))
  turn_goes left between new b names t first later happens reported = goes_on left between new b names t.reading first later t.claimed t.exchange happens.claim.step happens.exchange reported

  -- ---- the chain

  pub record Chain (old left : Room K) (b : Book) (names : List Bytes) (ts : List Turn) (more : List Entry) : Type 0 where
    pub turns : TurnsHappen keeper old left b names ts more
    pub behind : After keeper old left b more more false (Unit {0})

  pub chain_none : (old : Room K) (b : Book) (names : List Bytes) → Stands keeper old b → Chain old old b names [] []
  chain_none old b names stands = record {
    turns = (refl, refl);
    behind = record {
      stands = stands;
      did = tt;
      told = λ yes. record { crash = elapses_same (keeper.moment old.keeper) (keeper.left_since old.keeper) _; doubt = λ payload there. there };
    };
  }

  -- one turn more, whatever it is
  turn_after : (old left between new : Room K) (b : Book) (names : List Bytes) (ts : List Turn) (before : List Entry) (t : Turn) (first later : List Entry) → Chain old left b names ts before → TurnHappens keeper left between new (onto before b) names t first later
      → After keeper old new b (before ++ turn_entries (onto before b) names t first) (before ++ (first ++ later)) (is_store_fault (word t)) (Unit {0})
  turn_after old left between new b names ts before t first later chain happens =
      let two : After keeper left new (onto before b) (turn_entries (onto before b) names t first) (first ++ later) (is_store_fault (word t)) (Unit {0}) = record { stands = happens.stands; did = tt; told = happens.told } in
      after_then keeper old left new b before (turn_entries (onto before b) names t first) before (first ++ later) (is_store_fault (word t)) (Unit {0}) (Unit {0}) (Unit {0}) refl chain.behind two tt

  pub chain_more : (old left between new : Room K) (b : Book) (names : List Bytes) (ts : List Turn) (before : List Entry) (t : Turn) (first later : List Entry) → Chain old left b names ts before → TurnHappens keeper left between new (onto before b) names t first later
      → IsReported (word t) → Chain old new b names (t ∷ ts) (before ++ (first ++ later))
  chain_more old left between new b names ts before t first later chain happens reported =
      let on = turn_goes left between new (onto before b) names t first later happens reported in
      let behind = turn_after old left between new b names ts before t first later chain happens in
      record {
        turns = (left, between, before, first, later, chain.turns, happens, refl);
        behind = subst (λ (f : Bool). After keeper old new b (before ++ (first ++ later)) (before ++ (first ++ later)) f (Unit {0})) on.calm
            (subst (λ (l : List Entry). After keeper old new b (before ++ l) (before ++ (first ++ later)) (is_store_fault (word t)) (Unit {0})) on.all behind);
      }

  pub drain_ends : (old left between new : Room K) (b : Book) (names : List Bytes) (ts : List Turn) (before : List Entry) (t : Turn) (first later : List Entry) → Chain old left b names ts before → TurnHappens keeper left between new (onto before b) names t first later
      → DrainHappens keeper old new b names t ts (before ++ (first ++ later))
  drain_ends old left between new b names ts before t first later chain happens =
      let behind = turn_after old left between new b names ts before t first later chain happens in
      record { left = left; between = between; before = before; first = first; later = later; turns = chain.turns; last = happens; more_is = refl; stands = behind.stands; told = behind.told }

-- ---- link and output

module _ {L : Type 0} (link : LinkMeaning L) where
  pub passes_more : (old mid new : L) (frames more replies others : List (Bytes × Bytes)) (passed then : List Passed) → Passes link old mid frames replies passed → Passes link mid new more others then
      → Passes link old new (frames ++ more) (replies ++ others) (passed ++ then)
  passes_more old mid new frames more replies others passed then one two = record {
    tells = two.tells;
    sent = two.sent ∙ ap (λ (l : List (Bytes × Bytes)). l ++ more) one.sent ∙ append_assoc (link.sent old) frames more;
    said = two.said ∙ ap (λ (l : List (Bytes × Bytes)). l ++ others) one.said ∙ append_assoc (link.said old) replies others;
    goes = goes_then link old mid new passed then one.goes two.goes;
  }

module _ {O : Type 0} (sink : SinkMeaning O) where
  -- the lines that were written, and nothing of the last turn's
  pub prints_none : (old new : O) (lines last : Bytes) → sink.tells new → sink.taken new ≡ sink.taken old ++ lines → Prints sink old new lines last
  prints_none old new lines last told taken = record { tells = told; front = []; first = (last, refl); taken = taken ∙ ap (λ (l : Bytes). sink.taken old ++ l) (sym (append-nil lines)) }

  -- and the first of the last one
  pub prints_some : (old mid new : O) (lines last line : Bytes) → line ≡ last → sink.taken mid ≡ sink.taken old ++ lines → Prints sink mid new [] line → Prints sink old new lines last
  prints_some old mid new lines last line same taken some = record {
    tells = some.tells;
    front = some.front;
    first = subst (λ (l : Bytes). AreFirst some.front l) same some.first;
    taken = some.taken ∙ ap (λ (l : Bytes). l ++ some.front) taken ∙ append_assoc (sink.taken old) lines some.front;
  }

  -- a line of which the first bytes were written
  pub prints_cut : (old new : O) (bytes line : Bytes) (n : ℕ) → bytes ≡ line → sink.tells new → sink.taken new ≡ sink.taken old ++ take n bytes → Prints sink old new [] line
  prints_cut old new bytes line n same told taken = record { tells = told; front = take n bytes; first = (drop n bytes, sym same ∙ sym (take-append-drop n bytes)); taken = taken }

  -- a whole line more
  pub lines_more : (old mid new : O) (lines last line : Bytes) → line ≡ last → sink.taken mid ≡ sink.taken old ++ lines → sink.taken new ≡ sink.taken mid ++ line → sink.taken new ≡ sink.taken old ++ (lines ++ last)
  lines_more old mid new lines last line same taken more = more ∙ ap (λ (l : Bytes). l ++ line) taken ∙ append_assoc (sink.taken old) lines line ∙ ap (λ (l : Bytes). sink.taken old ++ (lines ++ l)) same
