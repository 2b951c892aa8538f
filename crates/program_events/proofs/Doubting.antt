-- What a turn leaves in doubt in the room is in doubt in the world.
use Rattle.std.proofs.Common.{◌≡◌, inl, inr, ℕ, suc, Bool, true, false, List, [], ◌∷◌, ◌++◌, length, Option, Some, None, refl, sym, ap, ◌∙◌, subst, arith, length-append}
use Rattle.news_types.specs.declared.entry.Entry.{Entry}
use Rattle.news_types.specs.declared.query.Ready.{Ready}
use Rattle.news_types.specs.declared.query.Ready.TheVariants.{Now, Later}
use Rattle.news_types.specs.Books.{followed_by}
use Rattle.news_types.specs.Names.{Bytes}
use Rattle.news_types.specs.History.{History, moment_at}
use Rattle.news_types.specs.Frames.{Writer}
use Rattle.news_types.specs.Delivery.{choice}
use Rattle.news_types.specs.Calls as call
use Rattle.news_types.specs.Calls.{Answer, Fault, Fate, IsKept, IsFull, IsFailed, IsStarved, follow, list_after, given, job, more, ticked, answer}
use Rattle.news_types.specs.Server.{Server, put, called, call_answer, claimed, claimed_at, claim_answer, claim_answer_at}
use Rattle.news_types.proofs.Books.{behind_length}
use Rattle.entry_codec.specs.Formed.{IsEntry}
use Rattle.entry_codec.specs.Spelling.{entry_bytes}
use Rattle.news_room.specs.Claims.{IsSaid, claim_entries}
use Rattle.news_room.specs.Said.{said_kept, is_failure}
use Rattle.news_room.specs.Steps.{entries, still, DoubtStep}
use Rattle.news_room.specs.declared.answers.Kept.{Kept}
use Rattle.news_room.specs.declared.claim.Claimed.{Claimed}
use Rattle.news_room.proofs.Lists.{same_entry}
use Rattle.program_events.specs.Leads.{IsOneOf}
use Rattle.program_events.proofs.Pushing.{kept_of, after_is}
use Rattle.program_events.proofs.Reports.{tried_one}

-- ---- lists

not_itself : (x : Entry) (l : List Entry) → x ∷ l ≡ l → ⊥
not_itself x l is = omega (arith, ap length is)

-- what stands behind as many
one_at : (before other : List Entry) (x y : Entry) (rest rest' : List Entry) → before ++ x ∷ rest ≡ other ++ y ∷ rest' → length before ≡ length other → x ≡ y
one_at [] [] x y rest rest' is long = cc
one_at [] (b ∷ other) x y rest rest' is long = absurd (omega (arith, long))
one_at (a ∷ before) [] x y rest rest' is long = absurd (omega (arith, long))
one_at (a ∷ before) (b ∷ other) x y rest rest' is long = let there : before ++ x ∷ rest ≡ other ++ y ∷ rest' = cc in one_at before other x y rest rest' there (omega (arith, long))

as_long : (one other : List Entry) (h : History) → followed_by one h ≡ followed_by other h → length one ≡ length other
as_long one other h is = omega (arith, ap length is, behind_length one h, behind_length other h)

-- ---- answers that are no fault

job_is_none : (write : Writer) (g : History) (r : Ready) → job write g r ≡ Fault → ⊥
job_is_none write g (Now s k) is = absurd cc
job_is_none write g (Later next) is = absurd cc

-- only an entry that failed is answered so
entry_failed : (o : Option Entry) (fate : Fate) (a : Answer) → (a ≡ Fault → ⊥) → given o fate a ≡ Fault → (x : Entry) × (o ≡ Some x) × (fate ≡ IsFailed)
entry_failed None IsKept a other is = absurd (other is)
entry_failed None IsFull a other is = absurd (other is)
entry_failed None IsFailed a other is = absurd (other is)
entry_failed None IsStarved a other is = absurd cc
entry_failed (Some x) IsKept a other is = absurd (other is)
entry_failed (Some x) IsFull a other is = absurd cc
entry_failed (Some x) IsFailed a other is = (x, refl, refl)
entry_failed (Some x) IsStarved a other is = absurd cc

-- ---- what the world keeps in doubt

-- where nothing was kept, all that was in doubt is
put_keeps : (c : Server) (o : Option Entry) (fate : Fate) → (put c o fate).list ≡ c.list → (e : Entry) → IsOneOf c.doubt e → IsOneOf (put c o fate).doubt e
put_keeps c None fate same e one = one
put_keeps c (Some x) IsKept same e one = absurd (not_itself x c.list same)
put_keeps c (Some x) IsFull same e one = one
put_keeps c (Some x) IsFailed same e one = (suc one.0, one.1)
put_keeps c (Some x) IsStarved same e one = one

claim_keeps_by : (c : Server) (names : List Bytes) (m : ℕ) (o : Option Entry) (first second : Fate) → (claimed_at c names m o first second).list ≡ c.list → (e : Entry) → IsOneOf c.doubt e → IsOneOf (claimed_at c names m o first second).doubt e
claim_keeps_by c names m None first second same e one = put_keeps c (follow c.list (call.Claimed names) m) second same e one
claim_keeps_by c names m (Some x) IsKept second same e one =
    let next : Option Entry = follow (x ∷ c.list) (call.Claimed names) m in
    absurd (omega (arith, ap length (sym (after_is (x ∷ c.list) next second) ∙ same), length-append (entries (kept_of next second)) (x ∷ c.list)))
claim_keeps_by c names m (Some x) IsFull second same e one = put_keeps c (Some x) IsFull same e one
claim_keeps_by c names m (Some x) IsFailed second same e one = put_keeps c (Some x) IsFailed same e one
claim_keeps_by c names m (Some x) IsStarved second same e one = put_keeps c (Some x) IsStarved same e one

claim_keeps : (c : Server) (names : List Bytes) (at : ℕ) (first second : Fate) → (claimed c names at first second).list ≡ c.list → (e : Entry) → IsOneOf c.doubt e → IsOneOf (claimed c names at first second).doubt e
claim_keeps c names at first second same e one = claim_keeps_by c names (moment_at c.list at) (follow c.list call.Ticked (moment_at c.list at)) first second same e one

-- the entry that failed is in doubt, and those before it were kept
record Tried (c c' : Server) (should : List Entry) : Type 0 where
  kept : List Entry
  one : Entry
  rest : List Entry
  doubted : IsOneOf c'.doubt one
  is : should ≡ kept ++ one ∷ rest
  list : c'.list ≡ followed_by kept c.list

put_tried : (c : Server) (o : Option Entry) (fate : Fate) (x : Entry) → o ≡ Some x → fate ≡ IsFailed → (IsOneOf (put c o fate).doubt x) × ((put c o fate).list ≡ c.list)
put_tried c (Some y) IsFailed x is failed = let same : y ≡ x = cc in ((0, ap Some same), refl)
put_tried c (Some y) IsKept x is failed = absurd cc
put_tried c (Some y) IsFull x is failed = absurd cc
put_tried c (Some y) IsStarved x is failed = absurd cc
put_tried c None fate x is failed = absurd cc

claim_tried_by : (write : Writer) (c : Server) (names : List Bytes) (m : ℕ) (o : Option Entry) (first second : Fate) → claim_answer_at write c.list names m o first second ≡ Fault
    → Tried c (claimed_at c names m o first second) (entries o ++ entries (follow (more o c.list) (call.Claimed names) m))
claim_tried_by write c names m None first second is =
    let f = entry_failed (follow c.list (call.Claimed names) m) second (answer write c.list (call.Claimed names) m) (job_is_none write (ticked c.list m) (choice (ticked c.list m) names m)) is in
    let p = put_tried c (follow c.list (call.Claimed names) m) second f.0 f.1 f.2 in
    record { kept = []; one = f.0; rest = []; doubted = p.0; is = ap entries f.1; list = p.1 }
claim_tried_by write c names m (Some e) IsKept second is =
    let f = entry_failed (follow (e ∷ c.list) (call.Claimed names) m) second (answer write c.list (call.Claimed names) m) (job_is_none write (ticked c.list m) (choice (ticked c.list m) names m)) is in
    let p = put_tried (put c (Some e) IsKept) (follow (e ∷ c.list) (call.Claimed names) m) second f.0 f.1 f.2 in
    record { kept = e ∷ []; one = f.0; rest = []; doubted = p.0; is = ap (λ (o : Option Entry). e ∷ entries o) f.1; list = p.1 }
claim_tried_by write c names m (Some e) IsFull second is = absurd cc
claim_tried_by write c names m (Some e) IsFailed second is = record { kept = []; one = e; rest = entries (follow (e ∷ c.list) (call.Claimed names) m); doubted = (0, refl); is = refl; list = refl }
claim_tried_by write c names m (Some e) IsStarved second is = absurd cc

claim_tried : (write : Writer) (c : Server) (names : List Bytes) (at : ℕ) (first second : Fate) → claim_answer write c names at first second ≡ Fault → Tried c (claimed c names at first second) (claim_entries c.list names (moment_at c.list at))
claim_tried write c names at first second is = claim_tried_by write c names (moment_at c.list at) (follow c.list call.Ticked (moment_at c.list at)) first second is

-- ---- a claim that was answered with a frame

abbrev IsNoFailure : Answer → Type 0
IsNoFailure (call.Job s k frame n) = Unit {0}
IsNoFailure _ = ⊥

put_whole : (h : History) (o : Option Entry) (fate : Fate) (a : Answer) → IsNoFailure (given o fate a) → list_after h o fate ≡ followed_by (entries o) h
put_whole h None fate a no_failure = refl
put_whole h (Some e) IsKept a no_failure = refl
put_whole h (Some e) IsFull a no_failure = absurd no_failure
put_whole h (Some e) IsFailed a no_failure = absurd no_failure
put_whole h (Some e) IsStarved a no_failure = absurd no_failure

claim_whole_by : (write : Writer) (c : Server) (names : List Bytes) (m : ℕ) (o : Option Entry) (first second : Fate) → IsNoFailure (claim_answer_at write c.list names m o first second)
    → (claimed_at c names m o first second).list ≡ followed_by (entries o ++ entries (follow (more o c.list) (call.Claimed names) m)) c.list
claim_whole_by write c names m None first second no_failure = put_whole c.list (follow c.list (call.Claimed names) m) second (answer write c.list (call.Claimed names) m) no_failure
claim_whole_by write c names m (Some e) IsKept second no_failure = put_whole (e ∷ c.list) (follow (e ∷ c.list) (call.Claimed names) m) second (answer write c.list (call.Claimed names) m) no_failure
claim_whole_by write c names m (Some e) IsFull second no_failure = absurd no_failure
claim_whole_by write c names m (Some e) IsFailed second no_failure = absurd no_failure
claim_whole_by write c names m (Some e) IsStarved second no_failure = absurd no_failure

claim_whole : (write : Writer) (c : Server) (names : List Bytes) (at : ℕ) (first second : Fate) → IsNoFailure (claim_answer write c names at first second) → (claimed c names at first second).list ≡ followed_by (claim_entries c.list names (moment_at c.list at)) c.list
claim_whole write c names at first second no_failure = claim_whole_by write c names (moment_at c.list at) (follow c.list call.Ticked (moment_at c.list at)) first second no_failure

-- ---- the room and the world

-- what is in doubt by the payloads in doubt is in doubt in the world
abbrev pub Doubted : (Bytes → Type 0) → Server → Type 0
Doubted D c = (e : Entry) → IsEntry e × D (entry_bytes e) → IsOneOf c.doubt e

-- behind entries of which these were kept, and where the world keeps what was in doubt
calm_doubted : (D D' : Bytes → Type 0) (c c' : Server) (kept : List Entry) → c'.list ≡ followed_by kept c.list → (c'.list ≡ c.list → (e : Entry) → IsOneOf c.doubt e → IsOneOf c'.doubt e) → Doubted D c
    → (e : Entry) → IsEntry e → still D kept (entry_bytes e) → IsOneOf c'.doubt e
calm_doubted D D' c c' [] list keeps was e formed d = keeps list e (was e (formed, d))
calm_doubted D D' c c' (x ∷ kept) list keeps was e formed d = absurd d

-- behind a claim
pub claim_doubted : (write : Writer) (D D' : Bytes → Type 0) (c : Server) (h : History) → c.list ≡ h → (names : List Bytes) (at : ℕ) (first second : Fate) (kept : List Entry) (failed : Bool)
    → (claimed c names at first second).list ≡ followed_by kept c.list → DoubtStep D D' (claim_entries h names (moment_at h at)) kept failed → (failed ≡ true → claim_answer write c names at first second ≡ Fault) → Doubted D c → Doubted D' (claimed c names at first second)
claim_doubted write D D' c h is names at first second kept false list step answered was = λ e d.
    calm_doubted D D' c (claimed c names at first second) kept list (claim_keeps c names at first second) was e d.0 (step (entry_bytes e) d.1)
claim_doubted write D D' c h is names at first second kept true list step answered was = λ e d. elim (step (entry_bytes e) d.1) [
  | inl d' ↦ calm_doubted D D' c (claimed c names at first second) kept list (claim_keeps c names at first second) was e d.0 d'
  | inr tried ↦
      let t = claim_tried write c names at first second (answered refl) in
      let should : kept ++ tried.0 ∷ tried.1 ≡ t.kept ++ t.one ∷ t.rest = sym tried.2 ∙ ap (λ (g : History). claim_entries g names (moment_at g at)) (sym is) ∙ t.is in
      let one : tried.0 ≡ t.one = one_at kept t.kept tried.0 t.one tried.1 t.rest should (as_long kept t.kept c.list (sym list ∙ t.list)) in
      subst (IsOneOf (claimed c names at first second).doubt) (sym (same_entry e tried.0 d.0 tried.3 tried.4 ∙ one)) t.doubted
]

-- a claim that was answered with a frame has kept all that should follow
pub claimed_whole : (write : Writer) (c : Server) (names : List Bytes) (at : ℕ) (first second : Fate) (s : Bytes) (k : ℕ) (frame : Bytes) (front : ℕ) → IsSaid (Claimed.Job s k frame front) (claim_answer write c names at first second)
    → (claimed c names at first second).list ≡ followed_by (claim_entries c.list names (moment_at c.list at)) c.list
claimed_whole write c names at first second s k frame front said = claim_whole write c names at first second (subst IsNoFailure (sym said.2) tt)

-- behind a receipt
receipt_by : (write : Writer) (D D' : Bytes → Type 0) (c : Server) (h : History) → c.list ≡ h → (s : Bytes) (n at : ℕ) (fate : Fate) (kept : List Entry) (failed : Bool)
    → (called c (call.Receipted s n) at fate).list ≡ followed_by kept c.list → DoubtStep D D' (entries (follow h (call.Receipted s n) (moment_at h at))) kept failed → (failed ≡ true → call_answer write c (call.Receipted s n) at fate ≡ Fault)
    → Doubted D c → Doubted D' (called c (call.Receipted s n) at fate)
receipt_by write D D' c h is s n at fate kept false list step answered was = λ e d.
    calm_doubted D D' c (called c (call.Receipted s n) at fate) kept list (put_keeps c (follow c.list (call.Receipted s n) (moment_at c.list at)) fate) was e d.0 (step (entry_bytes e) d.1)
receipt_by write D D' c h is s n at fate kept true list step answered was = λ e d. elim (step (entry_bytes e) d.1) [
  | inl d' ↦ calm_doubted D D' c (called c (call.Receipted s n) at fate) kept list (put_keeps c (follow c.list (call.Receipted s n) (moment_at c.list at)) fate) was e d.0 d'
  | inr tried ↦
      let next : Option Entry = follow c.list (call.Receipted s n) (moment_at c.list at) in
      let t = tried_one (follow h (call.Receipted s n) (moment_at h at)) kept (entry_bytes e) tried in
      let f = entry_failed next fate (answer write c.list (call.Receipted s n) (moment_at c.list at)) (λ no. absurd cc) (answered refl) in
      let some : next ≡ Some e = ap (λ (g : History). follow g (call.Receipted s n) (moment_at g at)) is ∙ t.1 ∙ ap Some (sym (same_entry e t.0 d.0 t.2 t.3)) in
      (put_tried c next fate e some f.2).0
]

pub receipt_doubted : (write : Writer) (D D' : Bytes → Type 0) (c : Server) (h : History) → c.list ≡ h → (s : Bytes) (n at : ℕ) (fate : Fate) (kept : List Entry) (answered : Kept)
    → (called c (call.Receipted s n) at fate).list ≡ followed_by kept c.list → DoubtStep D D' (entries (follow h (call.Receipted s n) (moment_at h at))) kept (is_failure (said_kept answered)) → call_answer write c (call.Receipted s n) at fate ≡ said_kept answered
    → Doubted D c → Doubted D' (called c (call.Receipted s n) at fate)
receipt_doubted write D D' c h is s n at fate kept (Kept.Done done) list step said was = receipt_by write D D' c h is s n at fate kept false list step (λ no. absurd cc) was
receipt_doubted write D D' c h is s n at fate kept (Kept.Denied denial) list step said was = receipt_by write D D' c h is s n at fate kept false list step (λ no. absurd cc) was
receipt_doubted write D D' c h is s n at fate kept Kept.Fault list step said was = receipt_by write D D' c h is s n at fate kept true list step (λ yes. said) was
receipt_doubted write D D' c h is s n at fate kept (Kept.Full size count) list step said was = receipt_by write D D' c h is s n at fate kept false list step (λ no. absurd cc) was
