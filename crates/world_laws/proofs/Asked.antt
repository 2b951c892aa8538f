-- Each entry was asked for by a call of its own, and calls are asked in turn.
use Rattle.std.proofs.Common.{◌≡◌, ℕ, suc, ◌+◌, ◌<◌, ◌≤◌, ◌⊎◌, inl, inr, Bool, true, false, ◌||◌, cond, Option, Some, None, List, [], ◌∷◌, length, refl, sym, ap, ◌∙◌, subst, arith}
use Rattle.std.specs.Prelude.{filter_map}
use Rattle.std.specs.List.{slice_get}
use Rattle.std.specs.Option.{option_map}
use Rattle.news_types.specs.declared.entry.Entry.{Entry}
use Rattle.news_types.specs.declared.entry.Act.{Act}
use Rattle.news_types.specs.declared.entry.Act.TheVariants.{Advance, Attempt, Receipt, Halt, Ingest, Request}
use Rattle.news_types.specs.declared.denial.Denial.{Denial}
use Rattle.news_types.specs.declared.story.Incoming.{Incoming}
use Rattle.news_types.specs.declared.query.Ready.{Ready}
use Rattle.news_types.specs.declared.query.Ready.TheVariants.{Now, Later}
use Rattle.news_types.specs.Names.{Bytes, same, is_in}
use Rattle.news_types.specs.Members.{Each}
use Rattle.news_types.specs.History.{History, moment_at, last}
use Rattle.news_types.specs.Items.{Effect, New, NewAt, Replaces, Cancels, Settled}
use Rattle.news_types.specs.Publications.{effect}
use Rattle.news_types.specs.Delivery.{ready_at, is_ready, Candidate, candidate, ready_candidate, earliest, chosen, choice}
use Rattle.news_types.specs.Denial.{turn_denial, is_repeat, command_denial, ingest_denial, receipt_denial}
use Rattle.news_types.specs.Legal.{IsLegal, some_waits}
use Rattle.news_types.specs.Outcome.{Answered as Replies, Outcome, entry_of, kept, kept_unless, ingested}
use Rattle.news_types.specs.Frames.{Frame, Writer, frame_at}
use Rattle.news_types.specs.Calls.{Call, Requested, Ingested, Receipted, Ticked, Halted, Asked, Claimed, Answer, Fault, place_of, entry_if, attempt_of, follow, more, ticked, job, answer, Fate, IsKept, IsFull, IsFailed, IsStarved, given, entry_at}
use Rattle.news_types.specs.Server.{Server, put, claimed_at, claim_answer_at}
use Rattle.news_types.proofs.Members.{same_self, some_is, none_some, each_map, each_get}
use Rattle.world_laws.specs.World.{World, Given, SentReceipt, Event, Requests, Ingests, Ticks, Halts, Asks, Claims, Sends, FrameComes, ReceiptComes, Forges, Reopens, ReceiverReopens, calls, claims, send, receipted, frame_comes, receipt_comes, one_of, reopened, happens, run_by, opening}
use Rattle.world_laws.specs.Headline.{AsksFor, IsNext, IsTold, IsAskedFor, CallsInTurn}
use Rattle.world_laws.proofs.Answers.{Fair, front_more, front_all, entry_cases}
use Rattle.world_laws.proofs.Followers.{each_cons, earliest_one, choice_ready, follow_legal, moment_grows}
use Rattle.world_laws.proofs.Steps.{Stands, Counts, IsFrontOf, front_self, front_next}
use Rattle.world_laws.proofs.Replies.{counts, counts_claim, IsPlain}
use Rattle.world_laws.proofs.Events.{happens_stands, opening_stands}

-- ---- the entry that follows a call is what it asks for, at the call's moment

abbrev FollowsAsked : Call → ℕ → Entry → Type 0
FollowsAsked call m e = AsksFor call e.act × (e.moment ≡ m)

abbrev OfMore : (Entry → Type 0) → Outcome Replies → Type 0
OfMore P o = (e : Entry) → o.more ≡ Some e → P e

of_unless : (P : Entry → Type 0) (d : Option Denial) (o : Outcome Replies) → OfMore P o → OfMore P (kept_unless d o)
of_unless P None o all = all
of_unless P (Some d) o all = λ e is. absurd (none_some e is)

of_if : (P : Entry → Type 0) (b : Bool) (o p : Outcome Replies) → OfMore P o → OfMore P p → OfMore P (cond b o p)
of_if P true o p one two = one
of_if P false o p one two = two

of_kept : (P : Entry → Type 0) (h : History) (m : ℕ) (act : Act) → P (entry_of m act) → OfMore P (kept h m act)
of_kept P h m act new e is = subst P (some_is (entry_of m act) e is) new

of_ingested : (P : Entry → Type 0) (h : History) (name : Bytes) (come : Incoming) (m : ℕ) (eff : Effect) → P (entry_of m (Ingest name come)) → OfMore P (ingested h name come m eff)
of_ingested P h name come m (Settled i) new = λ e is. absurd (none_some e is)
of_ingested P h name come m New new = of_kept P h m (Ingest name come) new
of_ingested P h name come m (NewAt place published) new = of_kept P h m (Ingest name come) new
of_ingested P h name come m (Replaces i) new = of_kept P h m (Ingest name come) new
of_ingested P h name come m (Cancels i) new = of_kept P h m (Ingest name come) new

follow_asks : (h : History) (call : Call) (m : ℕ) (e : Entry) → IsPlain call → follow h call m ≡ Some e → FollowsAsked call m e
follow_asks h (Requested caller number command) m e plain is =
    let P : Entry → Type 0 = FollowsAsked (Requested caller number command) m in
    of_unless P (turn_denial (last h caller) number command) _
    (of_if P (is_repeat (last h caller) number command) _ _ (λ x none. absurd (none_some x none))
    (of_unless P (command_denial h caller command m) _ (of_kept P h m (Request caller number command) (refl, refl)))) e is
follow_asks h (Ingested name come) m e plain is =
    let P : Entry → Type 0 = FollowsAsked (Ingested name come) m in of_unless P (ingest_denial h name come m) _ (of_ingested P h name come m (effect h name come m) (refl, refl)) e is
follow_asks h (Receipted s n) m e plain is =
    let P : Entry → Type 0 = FollowsAsked (Receipted s n) m in
    of_unless P (receipt_denial h s n) _ (of_if P _ _ _ (of_kept P h m (Receipt s n) (refl, refl)) (λ x none. absurd (none_some x none))) e is
follow_asks h Ticked m e plain is = tick_asks (some_waits h m) is
  where
    tick_asks : (b : Bool) → entry_if b m Advance ≡ Some e → FollowsAsked Ticked m e
    tick_asks true there = subst (FollowsAsked Ticked m) (some_is (entry_of m Advance) e there) (refl, refl)
    tick_asks false there = absurd (none_some e there)
follow_asks h Halted m e plain is = subst (FollowsAsked Halted m) (some_is (entry_of m Halt) e is) (refl, refl)
follow_asks h (Asked query) m e plain is = absurd (none_some e is)
follow_asks h (Claimed names) m e plain is = absurd plain

-- ---- what is chosen is one of the names

abbrev IsNamed : List Bytes → Candidate → Type 0
IsNamed names c = is_in c.name names ≡ true

or_more : (a b : Bool) → b ≡ true → (a || b) ≡ true
or_more true b is = refl
or_more false b is = is

named_one : (s : Bytes) (names : List Bytes) (o : Option ℕ) (c : Candidate) → option_map (candidate s) o ≡ Some c → IsNamed (s ∷ names) c
named_one s names None c is = absurd (none_some c is)
named_one s names (Some at) c is = subst (IsNamed (s ∷ names)) (some_is (candidate s at) c is) (rw (same_self s) refl)

named_ready : (h : History) (m : ℕ) (s : Bytes) (names : List Bytes) (c : Candidate) → ready_candidate h m s ≡ Some c → IsNamed (s ∷ names) c
named_ready h m s names c =
    elim (is_ready h s m) as (λ b. cond b (option_map (candidate s) (ready_at h s)) None ≡ Some c → IsNamed (s ∷ names) c) [
      | true ↦ λ is. named_one s names (ready_at h s) c is
      | false ↦ λ is. absurd (none_some c is)
    ]

all_named : (h : History) (m : ℕ) (names : List Bytes) → Each (IsNamed names) (filter_map (ready_candidate h m) names)
all_named h m [] = tt
all_named h m (s ∷ names) =
    each_cons (IsNamed (s ∷ names)) (ready_candidate h m s) (filter_map (ready_candidate h m) names) (named_ready h m s names)
    (each_map (IsNamed names) (IsNamed (s ∷ names)) (filter_map (ready_candidate h m) names) (λ c there. or_more (same c.name s) (is_in c.name names) there) (all_named h m names))

abbrev IsOneOf : List Bytes → Ready → Type 0
IsOneOf names (Now s k) = is_in s names ≡ true
IsOneOf names (Later next) = Unit {0}

choice_named : (h : History) (names : List Bytes) (m : ℕ) → IsOneOf names (choice h names m)
choice_named h names m = by (earliest (filter_map (ready_candidate h m) names)) (earliest_one (IsNamed names) _ (all_named h m names))
  where
    by : (o : Option Candidate) → ((c : Candidate) → o ≡ Some c → IsNamed names c) → IsOneOf names (chosen h o names)
    by None all = tt
    by (Some c) all = all c refl

-- the entry of a claim behind its tick
abbrev IsAttempt : List Bytes → ℕ → Entry → Type 0
IsAttempt names m e = (s : Bytes) × (k : ℕ) × (is_in s names ≡ true) × (entry_of m (Attempt s k) ≡ e)

attempt_is : (names : List Bytes) (m : ℕ) (r : Ready) (e : Entry) → IsOneOf names r → attempt_of m r ≡ Some e → IsAttempt names m e
attempt_is names m (Now s k) e named is = (s, k, named, some_is (entry_of m (Attempt s k)) e is)
attempt_is names m (Later next) e named is = absurd (none_some e is)

-- ---- what is asked for stays so

above : (call : Call) (act : Act) (at n : ℕ) → IsNext call act at n → at < n
above (Claimed names) (Attempt s k) at n next = elim next [ inl one ↦ omega (arith, one) | inr two ↦ omega (arith, two) ]
above (Claimed names) _ at n next = omega (arith, next)
above (Requested caller number command) act at n next = omega (arith, next)
above (Ingested name come) act at n next = omega (arith, next)
above (Receipted s k) act at n next = omega (arith, next)
above Ticked act at n next = omega (arith, next)
above Halted act at n next = omega (arith, next)
above (Asked query) act at n next = omega (arith, next)

-- behind one answer more
answer_more : (g : Given) (out : List Given) (h : History) (n : ℕ) (e : Entry) → IsAskedFor out h n e → IsAskedFor (g ∷ out) h n e
answer_more g out h n e is = record { which = suc is.which; given = is.given; there = is.there; asks = is.asks; moment = is.moment; next = is.next; told = is.told }

-- behind one entry more
entry_more : (out : List Given) (x : Entry) (h : History) (n : ℕ) (e : Entry) → n ≤ length h + 1 → IsAskedFor out h n e → IsAskedFor out (x ∷ h) n e
entry_more out x h n e le is =
    let less = above is.given.call e.act is.given.at n is.next in
    record {
      which = is.which;
      given = is.given;
      there = is.there;
      asks = is.asks;
      moment = rw (front_more x h is.given.at (omega (arith, less, le))) is.moment;
      next = is.next;
      told = is.told;
    }

-- the entries of a server, and each that is in doubt, are what calls among these answers asked for
pub record AreAskedFor (out : List Given) (c : Server) : Type 0 where
  pub list : (n : ℕ) (e : Entry) → entry_at c.list n ≡ Some e → IsAskedFor out c.list n e
  pub doubt : Each (IsAskedFor out c.list (length c.list + 1)) c.doubt

all_more : (g : Given) (out : List Given) (c : Server) → AreAskedFor out c → AreAskedFor (g ∷ out) c
all_more g out c are = record {
  list = λ n e is. answer_more g out c.list n e (are.list n e is);
  doubt = each_map (IsAskedFor out c.list (length c.list + 1)) (IsAskedFor (g ∷ out) c.list (length c.list + 1)) c.doubt (λ e old. answer_more g out c.list (length c.list + 1) e old) are.doubt;
}

-- an entry that was asked for is kept, or found at reopening
grown : (out : List Given) (c : Server) (e : Entry) → IsAskedFor out c.list (length c.list + 1) e → AreAskedFor out c → AreAskedFor out (record { list = e ∷ c.list; doubt = [] })
grown out c e new are = record { list = all; doubt = tt }
  where
    all : (n : ℕ) (x : Entry) → entry_at (e ∷ c.list) n ≡ Some x → IsAskedFor out (e ∷ c.list) n x
    all n x is = elim (entry_cases e c.list n x is) [
      | inl old ↦ entry_more out e c.list n x (omega (arith, old.0)) (are.list n x old.1)
      | inr last ↦
          let there : IsAskedFor out (e ∷ c.list) (length c.list + 1) e = entry_more out e c.list (length c.list + 1) e (omega arith) new in
          subst (λ (k : ℕ). IsAskedFor out (e ∷ c.list) k x) (sym last.0) (subst (IsAskedFor out (e ∷ c.list) (length c.list + 1)) last.1 there)
    ]

-- an entry of this fate is kept or in doubt
abbrev IsTried : Fate → Type 0
IsTried IsKept = Unit {0}
IsTried IsFailed = Unit {0}
IsTried _ = ⊥

put_asked : (out : List Given) (c : Server) (entry : Option Entry) (fate : Fate) → ((e : Entry) → entry ≡ Some e → IsTried fate → IsAskedFor out c.list (length c.list + 1) e) → AreAskedFor out c → AreAskedFor out (put c entry fate)
put_asked out c None fate new are = are
put_asked out c (Some e) IsKept new are = grown out c e (new e refl tt) are
put_asked out c (Some e) IsFull new are = are
put_asked out c (Some e) IsStarved new are = are
put_asked out c (Some e) IsFailed new are = record { list = are.list; doubt = (new e refl tt, are.doubt) }

-- ---- calls

told_by : (o : Option Entry) (e : Entry) (fate : Fate) (a : Answer) (n : ℕ) → o ≡ Some e → IsTried fate → place_of a ≡ n → (place_of (given o fate a) ≡ n) ⊎ (given o fate a ≡ Fault)
told_by o e IsKept a n is tried place = inl (ap (λ (x : Option Entry). place_of (given x IsKept a)) is ∙ place)
told_by o e IsFailed a n is tried place = inr (ap (λ (x : Option Entry). given x IsFailed a) is)
told_by o e IsFull a n is tried place = absurd tried
told_by o e IsStarved a n is tried place = absurd tried

plain_next : (call : Call) (act : Act) (at n : ℕ) → IsPlain call → n ≡ at + 1 → IsNext call act at n
plain_next (Requested caller number command) act at n plain is = is
plain_next (Ingested name come) act at n plain is = is
plain_next (Receipted s k) act at n plain is = is
plain_next Ticked act at n plain is = is
plain_next Halted act at n plain is = is
plain_next (Asked query) act at n plain is = is
plain_next (Claimed names) act at n plain is = absurd plain

plain_told : (call : Call) (act : Act) (a : Answer) (n : ℕ) → IsPlain call → (place_of a ≡ n) ⊎ (a ≡ Fault) → IsTold call act a n
plain_told (Requested caller number command) act a n plain is = is
plain_told (Ingested name come) act a n plain is = is
plain_told (Receipted s k) act a n plain is = is
plain_told Ticked act a n plain is = is
plain_told Halted act a n plain is = is
plain_told (Asked query) act a n plain is = is
plain_told (Claimed names) act a n plain is = absurd plain

-- what holds of the calls of a world
pub record InTurn (w : World) : Type 0 where
  pub asked : AreAskedFor w.out w.server
  pub places : CallsInTurn w.out

-- a call is asked at the list as it is
next_place : (write : Writer) (w : World) (g : Given) → g.at ≡ length w.server.list → Stands write w → CallsInTurn w.out → CallsInTurn (g ∷ w.out)
next_place write w g at stands turn = (each_map (Fair write w.server.list) (λ (o : Given). (o.at ≤ g.at) × (place_of o.answer ≤ g.at)) w.out (λ o fair. (omega (arith, fair.is.0, at), omega (arith, fair.sound.few, at))) stands.out, turn)

calls_in_turn : (write : Writer) (w : World) (call : Call) (reading : ℕ) (fate : Fate) → IsPlain call → Stands write w → InTurn w → InTurn (calls write w call reading fate)
calls_in_turn write w call reading fate plain stands turn = record {
  asked = put_asked (g ∷ w.out) w.server (follow h call m) fate new (all_more g w.out w.server turn.asked);
  places = next_place write w g refl stands turn.places;
}
  where
    h : History
    h = w.server.list

    m : ℕ
    m = moment_at h reading

    g : Given
    g = record { at = length w.server.list; call = call; reading = reading; answer = given (follow w.server.list call (moment_at w.server.list reading)) fate (answer write w.server.list call (moment_at w.server.list reading)) }

    new : (e : Entry) → follow w.server.list call (moment_at w.server.list reading) ≡ Some e → IsTried fate → IsAskedFor (g ∷ w.out) w.server.list (length w.server.list + 1) e
    new e is tried =
        let asks = follow_asks w.server.list call (moment_at w.server.list reading) e plain is in
        let a : Answer = answer write w.server.list call (moment_at w.server.list reading) in
        let place = (subst (λ (o : Option Entry). Counts write w.server.list call a o) is (counts write w.server.list call (moment_at w.server.list reading) plain)).1 in
        record {
          which = 0;
          given = g;
          there = refl;
          asks = asks.0;
          moment = asks.1 ∙ sym (ap (λ (l : History). moment_at l reading) (front_all w.server.list));
          next = plain_next call e.act (length w.server.list) (length w.server.list + 1) plain refl;
          told = plain_told call e.act g.answer (length w.server.list + 1) plain (told_by (follow w.server.list call (moment_at w.server.list reading)) e fate a (length w.server.list + 1) is tried place);
        }

-- ---- claims

-- a claim that was asked at the list `start`, with its answer
abbrev pub claim_given : History → List Bytes → ℕ → Answer → Given
claim_given start names reading a = record { at = length start; call = Claimed names; reading = reading; answer = a }

-- the attempt of a claim, behind its tick if that kept an entry
tried_asked : (out : List Given) (c : Server) (start : History) (names : List Bytes) (reading m : ℕ) (fate : Fate) (a : Answer) → IsFrontOf start c.list → m ≡ moment_at start reading
    → (length c.list ≡ length start) ⊎ (length c.list ≡ length start + 1)
    → ((e : Entry) → follow c.list (Claimed names) m ≡ Some e → place_of a ≡ length c.list + 1)
    → AreAskedFor (claim_given start names reading (given (follow c.list (Claimed names) m) fate a) ∷ out) c
    → AreAskedFor (claim_given start names reading (given (follow c.list (Claimed names) m) fate a) ∷ out) (put c (follow c.list (Claimed names) m) fate)
tried_asked out c start names reading m fate a begins at far place are = put_asked (g ∷ out) c (follow c.list (Claimed names) m) fate new are
  where
    g : Given
    g = claim_given start names reading (given (follow c.list (Claimed names) m) fate a)

    next : (length c.list ≡ length start) ⊎ (length c.list ≡ length start + 1) → (length c.list + 1 ≡ length start + 1) ⊎ (length c.list + 1 ≡ length start + 2)
    next (inl same) = inl (omega (arith, same))
    next (inr one) = inr (omega (arith, one))

    new : (e : Entry) → follow c.list (Claimed names) m ≡ Some e → IsTried fate → IsAskedFor (g ∷ out) c.list (length c.list + 1) e
    new e is tried =
        let attempt = attempt_is names m (choice c.list names m) e (choice_named c.list names m) is in
        let told = told_by (follow c.list (Claimed names) m) e fate a (length c.list + 1) is tried (place e is) in
        subst (IsAskedFor (g ∷ out) c.list (length c.list + 1)) attempt.3
        (record {
          which = 0;
          given = g;
          there = refl;
          asks = inr (attempt.0, attempt.1, attempt.2, refl);
          moment = at ∙ sym (ap (λ (l : History). moment_at l reading) begins.front);
          next = next far;
          told = told;
        })

tick_asked : (out : List Given) (c : Server) (names : List Bytes) (reading : ℕ) (e : Entry) (a : Answer) → entry_of (moment_at c.list reading) Advance ≡ e → IsAskedFor (claim_given c.list names reading a ∷ out) c.list (length c.list + 1) e
tick_asked out c names reading e a is =
    subst (IsAskedFor (claim_given c.list names reading a ∷ out) c.list (length c.list + 1)) is
    (record {
      which = 0;
      given = claim_given c.list names reading a;
      there = refl;
      asks = inl refl;
      moment = ap (λ (l : History). moment_at l reading) (sym (front_all c.list));
      next = refl;
      told = tt;
    })

-- a claim behind its tick is answered with the number of its attempt
claim_place : (write : Writer) (start g : History) (names : List Bytes) (m : ℕ) (e : Entry) → ticked start m ≡ g → ((x : Entry) → follow g (Claimed names) m ≡ Some x → IsLegal (x ∷ g)) → follow g (Claimed names) m ≡ Some e → place_of (answer write start (Claimed names) m) ≡ length g + 1
claim_place write start g names m e behind legal is =
    let counted : Counts write g (Claimed names) (answer write start (Claimed names) m) (follow g (Claimed names) m) =
    subst (λ (x : History). Counts write g (Claimed names) (job write x (choice x names m)) (follow g (Claimed names) m)) (sym behind)
    (counts_claim write g names m (choice g names m) (choice_ready g names m) legal) in
    (subst (λ (o : Option Entry). Counts write g (Claimed names) (answer write start (Claimed names) m) o) is counted).1

claims_asked : (write : Writer) (out : List Given) (c : Server) (names : List Bytes) (reading : ℕ) (tick : Option Entry) (first second : Fate) → IsLegal c.list → follow c.list Ticked (moment_at c.list reading) ≡ tick
    → ((e : Entry) → tick ≡ Some e → IsLegal (e ∷ c.list) × (entry_of (moment_at c.list reading) Advance ≡ e))
    → AreAskedFor (claim_given c.list names reading (claim_answer_at write c.list names (moment_at c.list reading) tick first second) ∷ out) c
    → AreAskedFor (claim_given c.list names reading (claim_answer_at write c.list names (moment_at c.list reading) tick first second) ∷ out) (claimed_at c names (moment_at c.list reading) tick first second)
claims_asked write out c names reading None first second legal is tick are =
    let m : ℕ = moment_at c.list reading in
    tried_asked out c c.list names reading m second (answer write c.list (Claimed names) m) (front_self c.list) refl (inl refl)
    (λ e there. claim_place write c.list c.list names m e (ap (λ (t : Option Entry). more t c.list) is) (λ x made. follow_legal c.list (Claimed names) m x legal (moment_grows c.list reading) made) there) are
claims_asked write out c names reading (Some e) IsKept second legal is tick are =
    let m : ℕ = moment_at c.list reading in
    let here = tick e refl in
    let moment : e.moment ≡ m = sym (ap (λ (x : Entry). x.moment) here.1) in
    tried_asked out (record { list = e ∷ c.list; doubt = [] }) c.list names reading m second (answer write c.list (Claimed names) m) (front_next c.list e c.list (front_self c.list)) refl (inr (omega arith))
    (λ x there. claim_place write c.list (e ∷ c.list) names m x (ap (λ (t : Option Entry). more t c.list) is) (λ y made. follow_legal (e ∷ c.list) (Claimed names) m y here.0 (omega (arith, moment)) made) there)
    (grown _ c e (tick_asked out c names reading e _ here.1) are)
claims_asked write out c names reading (Some e) IsFull second legal is tick are = are
claims_asked write out c names reading (Some e) IsStarved second legal is tick are = are
claims_asked write out c names reading (Some e) IsFailed second legal is tick are = record { list = are.list; doubt = (tick_asked out c names reading e _ (tick e refl).1, are.doubt) }

tick_is : (b : Bool) (m : ℕ) (e : Entry) → entry_if b m Advance ≡ Some e → entry_of m Advance ≡ e
tick_is true m e is = some_is (entry_of m Advance) e is
tick_is false m e is = absurd (none_some e is)

claims_in_turn : (write : Writer) (w : World) (names : List Bytes) (reading : ℕ) (first second : Fate) → Stands write w → InTurn w → InTurn (claims write w names reading first second)
claims_in_turn write w names reading first second stands turn =
    let h : History = w.server.list in
    let m : ℕ = moment_at h reading in
    let g : Given = claim_given h names reading (claim_answer_at write h names m (follow h Ticked m) first second) in
    record {
      asked = claims_asked write w.out w.server names reading (follow h Ticked m) first second stands.legal refl
          (λ e is. (follow_legal h Ticked m e stands.legal (moment_grows h reading) is, tick_is (some_waits h m) m e is))
          (all_more g w.out w.server turn.asked);
      places = next_place write w g refl stands turn.places;
    }

-- ---- every event

reopened_in_turn : (w : World) (found : Option Entry) → ((e : Entry) → found ≡ Some e → IsAskedFor w.out w.server.list (length w.server.list + 1) e) → InTurn w → InTurn (record w { server = reopened w.server found })
reopened_in_turn w None is turn = record { asked = record { list = turn.asked.list; doubt = tt }; places = turn.places }
reopened_in_turn w (Some e) is turn = record { asked = grown w.out w.server e (is e refl) turn.asked; places = turn.places }

one_is : (P : Entry → Type 0) (doubt : List Entry) (which : Option ℕ) (e : Entry) → Each P doubt → one_of doubt which ≡ Some e → P e
one_is P doubt None e all is = absurd (none_some e is)
one_is P doubt (Some i) e all is = each_get P doubt i e all is

send_in_turn : (w : World) (frame : Option Frame) → InTurn w → InTurn (send frame w)
send_in_turn w None turn = turn
send_in_turn w (Some f) turn = record { asked = turn.asked; places = turn.places }

receipted_in_turn : (w : World) (b : Bool) (s : Bytes) → InTurn w → InTurn (receipted b s w)
receipted_in_turn w false s turn = turn
receipted_in_turn w true s turn = record { asked = turn.asked; places = turn.places }

frame_in_turn : (w : World) (s : Bytes) (fate : Fate) (frame : Option Frame) → InTurn w → InTurn (frame_comes w s fate frame)
frame_in_turn w s fate None turn = turn
frame_in_turn w s fate (Some f) turn = receipted_in_turn _ _ s (record { asked = turn.asked; places = turn.places })

receipt_in_turn : (write : Writer) (w : World) (reading : ℕ) (fate : Fate) (receipt : Option SentReceipt) → Stands write w → InTurn w → InTurn (receipt_comes write w reading fate receipt)
receipt_in_turn write w reading fate None stands turn = turn
receipt_in_turn write w reading fate (Some receipt) stands turn = calls_in_turn write w (Receipted receipt.from receipt.count) reading fate tt stands turn

happens_in_turn : (write : Writer) (w : World) (event : Event) → Stands write w → InTurn w → InTurn (happens write w event)
happens_in_turn write w (Requests caller number command reading fate) stands turn = calls_in_turn write w (Requested caller number command) reading fate tt stands turn
happens_in_turn write w (Ingests name come reading fate) stands turn = calls_in_turn write w (Ingested name come) reading fate tt stands turn
happens_in_turn write w (Ticks reading fate) stands turn = calls_in_turn write w Ticked reading fate tt stands turn
happens_in_turn write w (Halts reading fate) stands turn = calls_in_turn write w Halted reading fate tt stands turn
happens_in_turn write w (Asks query reading fate) stands turn = calls_in_turn write w (Asked query) reading fate tt stands turn
happens_in_turn write w (Claims names reading first second) stands turn = claims_in_turn write w names reading first second stands turn
happens_in_turn write w (Sends s k) stands turn = send_in_turn w (frame_at write w.server.list s k) turn
happens_in_turn write w (FrameComes which s fate) stands turn = frame_in_turn w s fate (slice_get w.frames which) turn
happens_in_turn write w (ReceiptComes which reading fate) stands turn = receipt_in_turn write w reading fate (slice_get w.receipts which) stands turn
happens_in_turn write w (Forges s n reading fate) stands turn = calls_in_turn write w (Receipted s n) reading fate tt stands turn
happens_in_turn write w (Reopens which) stands turn =
    reopened_in_turn w (one_of w.server.doubt which) (λ e is. one_is (IsAskedFor w.out w.server.list (length w.server.list + 1)) w.server.doubt which e turn.asked.doubt is) turn
happens_in_turn write w (ReceiverReopens s which) stands turn = record { asked = turn.asked; places = turn.places }

run_in_turn : (write : Writer) (events : List Event) (w : World) → Stands write w → InTurn w → InTurn (run_by (happens write) events w)
run_in_turn write [] w stands turn = turn
run_in_turn write (e ∷ events) w stands turn = run_in_turn write events (happens write w e) (happens_stands write w e stands) (happens_in_turn write w e stands turn)

pub all_in_turn : (write : Writer) (events : List Event) → InTurn (run_by (happens write) events opening)
all_in_turn write events =
    run_in_turn write events opening (opening_stands write)
    (record { asked = record { list = λ n e is. absurd (none_some e is); doubt = tt }; places = tt })
