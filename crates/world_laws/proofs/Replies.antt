-- What the answers of calls say holds of the list behind their entries.
use Rattle.std.proofs.Common.{◌≡◌, ℕ, zero, suc, ◌+◌, ◌<◌, ◌≤◌, Bool, true, false, ◌&&◌, cond, Option, Some, None, List, [], ◌∷◌, length, refl, sym, ap, ◌∙◌, subst, arith}
use Rattle.std.specs.Prelude.{nat_le, nat_lt}
use Rattle.std.specs.List.{slice_get}
use Rattle.std.specs.Option.{option_map}
use mathlib.Core.Bool.{true≢false}
use Rattle.std.proofs.lemmas.Bool.Decides.{nat_tests}
use Rattle.news_types.specs.declared.entry.Entry.{Entry}
use Rattle.news_types.specs.declared.entry.Act.{Act}
use Rattle.news_types.specs.declared.entry.Act.TheVariants.{Advance, Attempt, Receipt, Halt, Ingest, Request}
use Rattle.news_types.specs.declared.denial.Denial.{Denial}
use Rattle.news_types.specs.declared.story.Incoming.{Incoming}
use Rattle.news_types.specs.declared.query.Query.{Query}
use Rattle.news_types.specs.declared.query.Query.TheVariants as asked
use Rattle.news_types.specs.declared.query.Answer.{Answer as Told}
use Rattle.news_types.specs.declared.query.Answer.TheVariants as told
use Rattle.news_types.specs.declared.words.Thing.TheVariants as thing
use Rattle.news_types.specs.declared.query.Ready.{Ready}
use Rattle.news_types.specs.declared.query.Ready.TheVariants.{Now, Later}
use Rattle.news_types.specs.Names.{Bytes}
use Rattle.news_types.specs.History.{History, last}
use Rattle.news_types.specs.Products.{is_subscriber}
use Rattle.news_types.specs.Items.{Effect, New, NewAt, Replaces, Cancels, Settled}
use Rattle.news_types.specs.Publications.{effect}
use Rattle.news_types.specs.Feeds.{Dispatch, feed}
use Rattle.news_types.specs.Delivery.{acked, tries, tried, next_entry, ready_from, is_by, is_ready}
use Rattle.news_types.specs.Denial.{turn_denial, is_repeat, command_denial, ingest_denial, receipt_denial}
use Rattle.news_types.specs.Legal.{IsLegal, some_waits}
use Rattle.news_types.specs.Outcome.{Answered as Replies, Done, Denied, Outcome, reply_to, entry_of, kept, kept_unless, ingested}
use Rattle.news_types.specs.Answers.{query_answer as told_of}
use Rattle.news_types.specs.Frames.{Frame, Writer, framed, format, frame_at, frame_bytes, frame_bytes_at, bytes_of}
use Rattle.news_types.specs.Calls.{Call, Requested, Ingested, Receipted, Ticked, Halted, Asked, Claimed, Answer, Replied, Kept, Still, Job, Idle, Tells, place_of, entry_if, attempt_of, follow, job, answer}
use Rattle.world_laws.specs.Headline.{Says, IsReplied, IsShown}
use Rattle.world_laws.proofs.Frames.{frame_stays}
use Rattle.world_laws.proofs.Answers.{entry_new, reply_entry, reply_to_new, repeat_stands}
use Rattle.world_laws.proofs.Followers.{FitsReady}
use Rattle.world_laws.proofs.Steps.{Counts}

-- an answer without an entry
bare : (write : Writer) (h : History) (call : Call) (a : Answer) → place_of a ≡ 0 → IsReplied h a call → IsShown write h a call → Counts write h call a None
bare write h call a none replied shown = (
  record { few = omega (arith, none); kept = λ more. absurd (omega (arith, none, more)); replied = replied; shown = shown },
  none,
)

-- an answer with the number of its entry
with_number : (write : Writer) (h : History) (call : Call) (a : Answer) (e : Entry) → place_of a ≡ length h + 1 → Says call a e.act → IsReplied (e ∷ h) a call → IsShown write (e ∷ h) a call → Counts write h call a (Some e)
with_number write h call a e is says replied shown = (
  record { few = omega (arith, is); kept = λ more. (e, entry_new e h (place_of a) is, says); replied = replied; shown = shown },
  is,
)

-- ---- requests, ingests and receipts

abbrev Fine : Writer → Call → History → Outcome Replies → Type 0
Fine write call h o = Counts write h call (Replied o.answer) o.more

fine_kept : (write : Writer) (call : Call) (h : History) (m : ℕ) (act : Act) → Says call (Replied (Done (reply_to h m act))) act → IsReplied (entry_of m act ∷ h) (Replied (Done (reply_to h m act))) call → Fine write call h (kept h m act)
fine_kept write call h m act says replied = with_number write h call _ (entry_of m act) (reply_entry h m act) says replied tt

fine_denied : (write : Writer) (call : Call) (h : History) (d : Denial) → Counts write h call (Replied (Denied d)) None
fine_denied write (Requested caller number command) h d = bare write h (Requested caller number command) _ refl tt tt
fine_denied write (Ingested name come) h d = bare write h (Ingested name come) _ refl tt tt
fine_denied write (Receipted s n) h d = bare write h (Receipted s n) _ refl tt tt
fine_denied write Ticked h d = bare write h Ticked _ refl tt tt
fine_denied write Halted h d = bare write h Halted _ refl tt tt
fine_denied write (Asked query) h d = bare write h (Asked query) _ refl tt tt
fine_denied write (Claimed names) h d = bare write h (Claimed names) _ refl tt tt

fine_unless : (write : Writer) (call : Call) (h : History) (d : Option Denial) (o : Outcome Replies) → Fine write call h o → Fine write call h (kept_unless d o)
fine_unless write call h None o fine = fine
fine_unless write call h (Some d) o fine = fine_denied write call h d

fine_if : (write : Writer) (call : Call) (h : History) (b : Bool) (o p : Outcome Replies) → (b ≡ true → Fine write call h o) → Fine write call h p → Fine write call h (cond b o p)
fine_if write call h true o p one two = one refl
fine_if write call h false o p one two = two

fine_ingested : (write : Writer) (h : History) (name : Bytes) (come : Incoming) (m : ℕ) (eff : Effect) → Fine write (Ingested name come) h (ingested h name come m eff)
fine_ingested write h name come m (Settled i) = bare write h (Ingested name come) _ refl tt tt
fine_ingested write h name come m New = fine_kept write (Ingested name come) h m (Ingest name come) refl tt
fine_ingested write h name come m (NewAt place published) = fine_kept write (Ingested name come) h m (Ingest name come) refl tt
fine_ingested write h name come m (Replaces i) = fine_kept write (Ingested name come) h m (Ingest name come) refl tt
fine_ingested write h name come m (Cancels i) = fine_kept write (Ingested name come) h m (Ingest name come) refl tt

-- ---- questions

get_there : {A : Type 0} (xs : List A) (i : ℕ) → i < length xs → (x : A) × (slice_get xs i ≡ Some x)
get_there [] i lt = absurd (omega (arith, lt))
get_there (x ∷ xs) zero lt = (x, refl)
get_there (x ∷ xs) (suc i) lt = get_there xs i (omega (arith, lt))

-- an entry that the feed has has its frame
frame_there : (write : Writer) (h : History) (s : Bytes) (k : ℕ) → 0 < k → k ≤ length (feed h s) → (f : Frame) × (frame_at write h s k ≡ Some f)
frame_there write h s zero lt le = absurd (omega (arith, lt))
frame_there write h s (suc i) lt le =
    let one = get_there (feed h s) i (omega (arith, le)) in
    (framed write (format h s) s (suc i) one.0, ap (option_map (framed write (format h s) s (suc i))) one.1)

and_both : (a b : Bool) → (a && b) ≡ true → (a ≡ true) × (b ≡ true)
and_both true true e = (refl, refl)
and_both true false e = absurd (true≢false (sym e))
and_both false b e = absurd (true≢false (sym e))

-- the bytes that are answered are those of the frame
shown_frame : (write : Writer) (h : History) (s : Bytes) (k : ℕ) → 0 < k → k ≤ length (feed h s) → IsShown write h (Tells (told.Frame (frame_bytes_at write h s k))) (Asked (asked.Frame s k))
shown_frame write h s k lt le =
    let one = frame_there write h s k lt le in
    (one.0, spelled_is write (frame_at write h s k) one.0 one.1, one.1)
  where
    spelled_is : (write : Writer) (o : Option Frame) (f : Frame) → o ≡ Some f → bytes_of o ≡ frame_bytes f
    spelled_is write o f is = ap bytes_of is

asked_frame : (write : Writer) (h : History) (s : Bytes) (k : ℕ) → IsShown write h (Tells (told_of (frame_bytes_at write h) h (asked.Frame s k))) (Asked (asked.Frame s k))
asked_frame write h s k =
    elim (is_subscriber h s) as (λ b. IsShown write h (Tells (cond b (cond (nat_lt 0 k && nat_le k (length (feed h s))) (told.Frame (frame_bytes_at write h s k)) (told.NoFrame (length (feed h s)))) (told.Unknown thing.Subscriber))) (Asked (asked.Frame s k))) [
      | false ↦ tt
      | true ↦
          elim (nat_lt 0 k && nat_le k (length (feed h s))) as (λ b. (nat_lt 0 k && nat_le k (length (feed h s))) ≡ b → IsShown write h (Tells (cond b (told.Frame (frame_bytes_at write h s k)) (told.NoFrame (length (feed h s))))) (Asked (asked.Frame s k))) [
            | false ↦ λ out. tt
            | true ↦ λ there.
                let both = and_both (nat_lt 0 k) (nat_le k (length (feed h s))) there in
                let lt : 0 < k = grind (arith, nat_tests, both.0) in
                let le : k ≤ length (feed h s) = grind (arith, nat_tests, both.1) in
                shown_frame write h s k lt le
          ] refl
    ]

told_shown : (write : Writer) (h : History) (query : Query) (a : Told) → (a ≡ told_of (frame_bytes_at write h) h query) → IsShown write h (Tells a) (Asked query)
told_shown write h (asked.Frame s k) a is = subst (λ (x : Told). IsShown write h (Tells x) (Asked (asked.Frame s k))) (sym is) (asked_frame write h s k)
told_shown write h query (told.Frame bytes) is = tt
told_shown write h query a is = tt

-- ---- claims

is_next : (o : Option Dispatch) (n last m : ℕ) → is_by m (ready_from o n last) ≡ true → (d : Dispatch) × (o ≡ Some d)
is_next None n last m by = absurd (true≢false (sym by))
is_next (Some p) n last m by = (p, refl)

-- who is ready has a next entry, and so a frame
ready_frame : (write : Writer) (g : History) (s : Bytes) (k m : ℕ) → is_ready g s m ≡ true → k ≡ acked g s + 1 → (f : Frame) × (frame_at write g s k ≡ Some f)
ready_frame write g s k m ready is =
    let p = is_next (next_entry g s) (tries g s) (tried g s) m (and_both (is_subscriber g s) _ ready).1 in
    let f : Frame = framed write (format g s) s (suc (acked g s)) p.0 in
    let next : k ≡ suc (acked g s) = omega (arith, is) in
    (f, ap (λ (j : ℕ). frame_at write g s j) next ∙ ap (option_map (framed write (format g s) s (suc (acked g s)))) p.1)

pub counts_claim : (write : Writer) (g : History) (names : List Bytes) (m : ℕ) (chosen : Ready) → FitsReady g m chosen → ((e : Entry) → attempt_of m chosen ≡ Some e → IsLegal (e ∷ g)) → Counts write g (Claimed names) (job write g chosen) (attempt_of m chosen)
counts_claim write g names m (Later next) ready legal = bare write g (Claimed names) (Idle next) refl tt tt
counts_claim write g names m (Now s k) ready legal =
    let e : Entry = entry_of m (Attempt s k) in
    let one = ready_frame write g s k m ready.0 ready.1 in
    with_number write g (Claimed names) (Job s k (frame_at write g s k) (length g + 1)) e refl refl tt
    (one.0, one.1, frame_stays write e g s k one.0 (legal e refl) one.1)

-- ---- every call but a claim

abbrev pub IsPlain : Call → Type 0
IsPlain (Claimed names) = ⊥
IsPlain _ = Unit {0}

counts_tick : (write : Writer) (h : History) (m : ℕ) → Counts write h Ticked (answer write h Ticked m) (follow h Ticked m)
counts_tick write h m =
    elim (some_waits h m) as (λ b. Counts write h Ticked (cond b (Kept (length h + 1)) Still) (entry_if b m Advance)) [
      | true ↦ with_number write h Ticked (Kept (length h + 1)) (entry_of m Advance) refl refl tt tt
      | false ↦ bare write h Ticked Still refl tt tt
    ]

pub counts : (write : Writer) (h : History) (call : Call) (m : ℕ) → IsPlain call → Counts write h call (answer write h call m) (follow h call m)
counts write h (Requested caller number command) m plain =
    let call : Call = Requested caller number command in
    fine_unless write call h (turn_denial (last h caller) number command) _
    (fine_if write call h (is_repeat (last h caller) number command) _ _
    (λ again. bare write h call _ refl (repeat_stands h caller number command again) tt)
    (fine_unless write call h (command_denial h caller command m) _
    (fine_kept write call h m (Request caller number command) refl (reply_to_new h m caller number command))))
counts write h (Ingested name come) m plain =
    fine_unless write (Ingested name come) h (ingest_denial h name come m) _ (fine_ingested write h name come m (effect h name come m))
counts write h (Receipted s n) m plain =
    fine_unless write (Receipted s n) h (receipt_denial h s n) _
    (fine_if write (Receipted s n) h (nat_lt (acked h s) n) _ _ (λ more. fine_kept write (Receipted s n) h m (Receipt s n) refl tt) (bare write h (Receipted s n) _ refl tt tt))
counts write h Ticked m plain = counts_tick write h m
counts write h Halted m plain = with_number write h Halted (Kept (length h + 1)) (entry_of m Halt) refl refl tt tt
counts write h (Asked query) m plain = bare write h (Asked query) _ refl tt (told_shown write h query _ refl)
counts write h (Claimed names) m plain = absurd plain
