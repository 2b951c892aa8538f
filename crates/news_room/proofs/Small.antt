-- Ticks, halts and receipts, by the keeping of their entry.
use Rattle.std.proofs.Common.{◌≡◌, ℕ, ◌+◌, ◌≤◌, ◌<◌, ◌&&◌, Bool, true, false, cond, List, [], ◌∷◌, length, Option, Some, None, Ok, Err, refl, sym, ap, ◌∙◌, subst, arith}
use Rattle.std.specs.Prelude.{Result, nat_lt, nat_le}
use Rattle.std.proofs.lemmas.Bool.{leb-true}
use Rattle.std.proofs.lemmas.Bool.Decides.{nat_tests}
use Rattle.news_types.specs.declared.entry.Entry.{Entry}
use Rattle.news_types.specs.declared.entry.Act.{Act}
use Rattle.news_types.specs.declared.command.Command.{Command}
use Rattle.news_types.specs.declared.story.Incoming.{Incoming}
use Rattle.news_types.specs.declared.entry.Act.TheVariants.{Advance, Halt, Receipt}
use Rattle.news_types.specs.declared.denial.Denial.{Denial}
use Rattle.news_types.specs.declared.denial.Denial.TheVariants.{UnknownThing}
use Rattle.news_types.specs.declared.words.Thing.TheVariants as thing
use Rattle.news_types.specs.Names.{Bytes}
use Rattle.news_types.specs.History.{History, moment as last_moment, moment_at}
use Rattle.news_types.specs.Products.{is_subscriber}
use Rattle.news_types.specs.Feeds.{feed}
use Rattle.news_types.specs.Delivery.{acked}
use Rattle.news_types.specs.Denial.{unless, receipt_denial}
use Rattle.news_types.specs.Legal.{some_waits}
use Rattle.news_types.specs.Calls.{entry_if}
use Rattle.news_types.specs.Outcome.{Outcome, Done, Denied, entry_of, kept, kept_unless, no_entry, receipt_at}
use Rattle.news_types.specs.Outcome as outcome
use Rattle.news_types.specs.Books.{Book, followed_by}
use Rattle.news_types.proofs.Books.{behind_length}
use Rattle.news_types.proofs.Legal.{second_no, holds_unless}
use Rattle.news_io.specs.declared.keeper.AppendFault.{AppendFault}
use Rattle.news_io.specs.declared.keeper.AppendFault.TheVariants.{Fault, Full}
use Rattle.entry_codec.specs.Answers.{IsSmall}
use Rattle.newsroom.specs.Acts as small
use Rattle.newsroom.specs.Acts.{may_follow}
use Rattle.news_room.specs.Stands.{LIMIT, LAST, numbers}
use Rattle.news_room.specs.Beside.{Beside}
use Rattle.news_room.specs.Steps.{Given, Failed, Refused, entries, tick_entries, PutStep, ReleaseStep, Receives, TickStep, HaltStep, After, is_append_fault, is_tick_fault, is_kept_fault, ticked_by, kept_by}
use Rattle.news_room.specs.declared.room.Room.{Room}
use Rattle.news_room.proofs.Going.{after_should}
use Rattle.news_io.specs.Keeper.{KeeperMeaning}

-- the same four acts for the codec
pub same_small : (act : Act) → small.IsSmall act → IsSmall act
same_small Act.Advance is = tt
same_small (Act.Attempt s k) is = tt
same_small (Act.Receipt s n) is = tt
same_small Act.Halt is = tt
same_small (Act.Ingest name come) is = absurd is
same_small (Act.Request caller number command) is = absurd is

-- an act that is none of the other two
pub small_by : (act : Act) → ((name : Bytes) (come : Incoming) → act ≡ Act.Ingest name come → ⊥) → ((caller : Bytes) (number : ℕ) (command : Command) → act ≡ Act.Request caller number command → ⊥) → small.IsSmall act
small_by Act.Advance ingest request = tt
small_by (Act.Attempt s k) ingest request = tt
small_by (Act.Receipt s n) ingest request = tt
small_by Act.Halt ingest request = tt
small_by (Act.Ingest name come) ingest request = absurd (ingest name come refl)
small_by (Act.Request caller number command) ingest request = absurd (request caller number command refl)

-- the place of the one entry that was kept
pub place_is : (more : List Entry) (h : History) (e : Entry) (place : ℕ) → place ≡ length (followed_by more h) → more ≡ e ∷ [] → place ≡ length h + 1
place_is more h e place counted is = omega (arith, counted, behind_length more h, ap (λ (l : List Entry). length l) is)

-- ---- ticks

pub ticks_one : (h : History) (m : ℕ) → some_waits h m ≡ true → tick_entries h m ≡ entry_of m Advance ∷ []
ticks_one h m is = ap (λ b. entries (entry_if b m Advance)) is

pub ticks_none : (h : History) (m : ℕ) → some_waits h m ≡ false → tick_entries h m ≡ []
ticks_none h m is = ap (λ b. entries (entry_if b m Advance)) is

pub waits_is : (h : History) (m : ℕ) → last_moment h ≤ m → may_follow h Advance m ≡ some_waits h m
waits_is h m le = let t : nat_le (last_moment h) m ≡ true = grind (arith, nat_tests) in ap (λ b. b && some_waits h m) t

module _ {K : Type 0} (keeper : KeeperMeaning K) where
  -- the same entry at a moment that is said otherwise
  pub put_at : (r r' : Room K) (b : Book) (act : Act) (limit m m' : ℕ) (more : List Entry) (failed : Bool) (answered : Result (Unit {0}) AppendFault) → m ≡ m'
      → After keeper r r' b (entry_of m act ∷ []) more failed (PutStep (numbers keeper r r') limit (entry_of m act) more answered)
      → After keeper r r' b (entry_of m' act ∷ []) more failed (PutStep (numbers keeper r r') limit (entry_of m' act) more answered)
  put_at r r' b act limit m m' more failed answered is a = subst (λ (x : ℕ). After keeper r r' b (entry_of x act ∷ []) more failed (PutStep (numbers keeper r r') limit (entry_of x act) more answered)) is a

  pub released_ok : (r r' : Room K) (b : Book) (m : ℕ) (more : List Entry) → some_waits b.list m ≡ true
      → After keeper r r' b (entry_of m Advance ∷ []) more false (PutStep (numbers keeper r r') LIMIT (entry_of m Advance) more (Ok tt))
      → After keeper r r' b (tick_entries b.list m) more false (ReleaseStep (numbers keeper r r') b m more (Ok true))
  released_ok r r' b m more waits a =
      let same = sym (ticks_one b.list m waits) in
      after_should keeper r r' b (entry_of m Advance ∷ []) (tick_entries b.list m) more false _ _ same a (waits, subst (λ (l : List Entry). Given (numbers keeper r r') LIMIT l more) same a.did)

  pub released_err : (r r' : Room K) (b : Book) (m : ℕ) (more : List Entry) (why : AppendFault) → some_waits b.list m ≡ true
      → After keeper r r' b (entry_of m Advance ∷ []) more (is_append_fault {A = Unit {0}} (Err why)) (PutStep (numbers keeper r r') LIMIT (entry_of m Advance) more (Err why))
      → After keeper r r' b (tick_entries b.list m) more (is_append_fault {A = Bool} (Err why)) (ReleaseStep (numbers keeper r r') b m more (Err why))
  released_err r r' b m more Fault waits a =
      let same = sym (ticks_one b.list m waits) in
      after_should keeper r r' b (entry_of m Advance ∷ []) (tick_entries b.list m) more true _ _ same a (subst (λ (l : List Entry). Failed (numbers keeper r r') LIMIT l more) same a.did)
  released_err r r' b m more (Full size count) waits a =
      let same = sym (ticks_one b.list m waits) in
      after_should keeper r r' b (entry_of m Advance ∷ []) (tick_entries b.list m) more false _ _ same a (subst (λ (l : List Entry). Refused (numbers keeper r r') LIMIT l more size count) same a.did)

  pub release_at : (r r' : Room K) (b : Book) (m m' : ℕ) (more : List Entry) (failed : Bool) (answered : Result Bool AppendFault) → m ≡ m'
      → After keeper r r' b (tick_entries b.list m) more failed (ReleaseStep (numbers keeper r r') b m more answered) → After keeper r r' b (tick_entries b.list m') more failed (ReleaseStep (numbers keeper r r') b m' more answered)
  release_at r r' b m m' more failed answered is a = subst (λ (x : ℕ). After keeper r r' b (tick_entries b.list x) more failed (ReleaseStep (numbers keeper r r') b x more answered)) is a

-- ---- receipts

pub receipt_kept : (h : History) (s : Bytes) (n m : ℕ) → receipt_denial h s n ≡ None → nat_lt (acked h s) n ≡ true → receipt_at h s n m ≡ kept h m (Receipt s n)
receipt_kept h s n m free raises =
    ap (λ (o : Option Denial). kept_unless o (cond (nat_lt (acked h s) n) (kept h m (Receipt s n)) (record { answer = Done (no_entry 0); more = None }))) free
    ∙ ap (λ b. cond b (kept h m (Receipt s n)) (record { answer = Done (no_entry 0); more = None })) raises

pub receipt_settled : (h : History) (s : Bytes) (n m : ℕ) → receipt_denial h s n ≡ None → nat_lt (acked h s) n ≡ false → receipt_at h s n m ≡ record { answer = Done (no_entry 0); more = None }
receipt_settled h s n m free low =
    ap (λ (o : Option Denial). kept_unless o (cond (nat_lt (acked h s) n) (kept h m (Receipt s n)) (record { answer = Done (no_entry 0); more = None }))) free
    ∙ ap (λ b. cond b (kept h m (Receipt s n)) (record { answer = Done (no_entry 0); more = None })) low

pub receipt_refused : (h : History) (s : Bytes) (n m : ℕ) (why : Denial) → receipt_denial h s n ≡ Some why → receipt_at h s n m ≡ record { answer = Denied why; more = None }
receipt_refused h s n m why is = ap (λ (o : Option Denial). kept_unless o (cond (nat_lt (acked h s) n) (kept h m (Receipt s n)) (record { answer = Done (no_entry 0); more = None }))) is

pub receipt_within : (h : History) (s : Bytes) (n : ℕ) → receipt_denial h s n ≡ None → n ≤ length (feed h s)
receipt_within h s n free = leb-true n (length (feed h s)) (holds_unless _ _ (second_no (unless (is_subscriber h s) (UnknownThing thing.Subscriber)) _ free))

pub receipt_raises : (h : History) (s : Bytes) (n : ℕ) → nat_lt (acked h s) n ≡ true → acked h s < n
receipt_raises h s n is = grind (arith, nat_tests, is)

-- nothing follows
pub receives_none : (n : Beside) (o : Outcome outcome.Answered) (a : outcome.Answered) → o ≡ record { answer = a; more = None } → n.later_faults ≡ n.faults → n.later_used ≡ n.used → (o.answer ≡ a) × Given n LIMIT (entries o.more) []
receives_none n o a is calm same = (
  ap (λ (x : Outcome outcome.Answered). x.answer) is,
  record { whole = record { is = sym (ap (λ (x : Outcome outcome.Answered). entries x.more) is); calm = calm; grown = omega (arith, same) }; within = tt },
)

-- ---- what was not kept, as it is answered

module _ {K : Type 0} (keeper : KeeperMeaning K) (r r' : Room K) (b : Book) (more : List Entry) where
  pub not_halted : (now : ℕ) (why : AppendFault) → After keeper r r' b (entry_of (moment_at b.list now) Halt ∷ []) more (is_append_fault {A = Unit {0}} (Err why)) (PutStep (numbers keeper r r') LAST (entry_of (moment_at b.list now) Halt) more (Err why))
      → After keeper r r' b (entry_of (moment_at b.list now) Halt ∷ []) more (is_tick_fault (ticked_by why)) (HaltStep (numbers keeper r r') b now more (ticked_by why))
  not_halted now Fault a = record { stands = a.stands; did = a.did; told = a.told }
  not_halted now (Full size count) a = record { stands = a.stands; did = a.did; told = a.told }

  pub not_ticked : (now : ℕ) (why : AppendFault) → After keeper r r' b (tick_entries b.list (moment_at b.list now)) more (is_append_fault {A = Bool} (Err why)) (ReleaseStep (numbers keeper r r') b (moment_at b.list now) more (Err why))
      → After keeper r r' b (tick_entries b.list (moment_at b.list now)) more (is_tick_fault (ticked_by why)) (TickStep (numbers keeper r r') b now more (ticked_by why))
  not_ticked now Fault a = record { stands = a.stands; did = a.did; told = a.told }
  not_ticked now (Full size count) a = record { stands = a.stands; did = a.did; told = a.told }

  pub not_raised : (s : Bytes) (n now : ℕ) (why : AppendFault) → After keeper r r' b (entry_of (moment_at b.list now) (Receipt s n) ∷ []) more (is_append_fault {A = Unit {0}} (Err why)) (PutStep (numbers keeper r r') LIMIT (entry_of (moment_at b.list now) (Receipt s n)) more (Err why))
      → After keeper r r' b (entry_of (moment_at b.list now) (Receipt s n) ∷ []) more (is_kept_fault (kept_by why)) (Receives (numbers keeper r r') more (kept b.list (moment_at b.list now) (Receipt s n)) (kept_by why))
  not_raised s n now Fault a = record { stands = a.stands; did = a.did; told = a.told }
  not_raised s n now (Full size count) a = record { stands = a.stands; did = a.did; told = a.told }
