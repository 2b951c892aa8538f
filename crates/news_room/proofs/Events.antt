-- The calls of a room are events of the world.
use Rattle.std.proofs.Common.{◌≡◌, inl, inr, ℕ, ◌+◌, Bool, true, false, cond, List, [], ◌∷◌, ◌++◌, length, Option, Some, None, Ok, Err, refl, sym, ap, ◌∙◌, subst}
use Rattle.std.specs.Prelude.{Result, IfOk}
use Rattle.news_types.specs.declared.entry.Entry.{Entry}
use Rattle.news_types.specs.declared.command.Command.{Command}
use Rattle.news_types.specs.declared.story.Incoming.{Incoming}
use Rattle.news_types.specs.declared.query.Query.{Query}
use Rattle.news_types.specs.declared.query.Answer.{Answer as Told}
use Rattle.news_types.specs.Names.{Bytes}
use Rattle.news_types.specs.History.{History, moment_at}
use Rattle.news_types.specs.Books.{Book, followed_by, onto}
use Rattle.news_types.specs.Doubt.{IsWithin}
use Rattle.news_types.specs.Answers.{query_answer}
use Rattle.news_types.specs.Frames.{Writer, frame_bytes_at}
use Rattle.feed_frames.specs.Writer.{the_writer}
use Rattle.news_types.specs.Legal.{some_waits}
use Rattle.news_types.specs.Outcome.{Outcome, request, request_at, ingest, ingest_at, receipt}
use Rattle.news_types.specs.Outcome as outcome
use Rattle.news_types.specs.Calls.{Call, Requested, Ingested, Receipted, Ticked, Halted, Asked, Answer, Replied, Kept, Still, Tells, Full, Fault, Memory, Fate, IsKept, IsFull, IsFailed, IsStarved, follow, answer, given, list_after, doubt_after}
use Rattle.news_types.specs.Server.{Server, put}
use Rattle.news_io.specs.Keeper.{KeeperMeaning}
use Rattle.entry_codec.specs.Spelling.{entry_bytes}
use Rattle.news_room.specs.Beside.{Beside}
use Rattle.news_room.specs.Stands.{LIMIT, LAST, limit_for, numbers}
use Rattle.news_room.specs.Said.{said, said_kept, said_tick, said_told, is_failure}
use Rattle.news_room.specs.Steps.{Whole, Given, Refused, Failed, entries, Answers, Receives, RequestStep, IngestStep, ReceiptStep, TickStep, HaltStep, tick_entries, still, DoubtStep, ToldStep, After, is_fault, is_kept_fault, is_tick_fault}
use Rattle.news_room.specs.Events.{Serves, IsEvent, Happens}
use Rattle.news_room.specs.declared.answers.Handled.{Handled}
use Rattle.news_room.specs.declared.answers.Kept as kept
use Rattle.news_room.specs.declared.answers.Ticked as ticks
use Rattle.news_room.specs.declared.room.Room.{Room}
use Rattle.news_room.proofs.Going.{still_less}

-- ---- how the entry fared that would follow

abbrev pub Fares : Beside → ℕ → Option Entry → List Entry → Fate → Type 0
Fares n limit o more IsKept = Given n limit (entries o) more
Fares n limit o more IsFull = (size : ℕ) × (count : ℕ) × Refused n limit (entries o) more size count
Fares n limit o more IsFailed = Failed n limit (entries o) more
Fares n limit o more IsStarved = Whole n [] more

abbrev pub fails : Fate → Bool
fails IsFailed = true
fails _ = false

-- it fared so, and what is said is what the world gives in the end
record Fared (n : Beside) (limit : ℕ) (o : Option Entry) (more : List Entry) (was heard : Answer) : Type 0 where
  pub fate : Fate
  pub fares : Fares n limit o more fate
  pub fails_is : fails fate ≡ is_failure heard
  pub given_is : given o fate was ≡ heard

no_middle : (xs : List Entry) (e : Entry) (rest : List Entry) → [] ≡ xs ++ e ∷ rest → ⊥
no_middle [] e rest is = cc
no_middle (x ∷ xs) e rest is = cc

-- the one entry that should follow is the one at which the call ended
pub alone : (e next : Entry) (more rest : List Entry) → e ∷ [] ≡ more ++ next ∷ rest → (more ≡ []) × (next ≡ e)
alone e next [] rest is = (refl, cc)
alone e next (x ∷ xs) rest is = let tail : [] ≡ xs ++ next ∷ rest = cc in absurd (no_middle xs next rest tail)

pub none_refused : (n : Beside) (limit : ℕ) (more : List Entry) (size count : ℕ) → Refused n limit [] more size count → ⊥
none_refused n limit more size count f = no_middle more f.next f.rest f.is

pub none_failed : (n : Beside) (limit : ℕ) (more : List Entry) → Failed n limit [] more → ⊥
none_failed n limit more f = no_middle more f.next f.rest f.is

fares_list : (n : Beside) (limit : ℕ) (h : History) (o : Option Entry) (more : List Entry) (fate : Fate) → Fares n limit o more fate → list_after h o fate ≡ followed_by more h
fares_list n limit h None more IsKept f = ap (λ (l : List Entry). followed_by l h) (sym f.whole.is)
fares_list n limit h None more IsFull f = absurd (none_refused n limit more f.0 f.1 f.2)
fares_list n limit h None more IsFailed f = absurd (none_failed n limit more f)
fares_list n limit h None more IsStarved f = ap (λ (l : List Entry). followed_by l h) (sym f.is)
fares_list n limit h (Some e) more IsKept f = ap (λ (l : List Entry). followed_by l h) (sym f.whole.is)
fares_list n limit h (Some e) more IsFull f = ap (λ (l : List Entry). followed_by l h) (sym (alone e f.2.next more f.2.rest f.2.is).0)
fares_list n limit h (Some e) more IsFailed f = ap (λ (l : List Entry). followed_by l h) (sym (alone e f.next more f.rest f.is).0)
fares_list n limit h (Some e) more IsStarved f = ap (λ (l : List Entry). followed_by l h) (sym f.is)

fares_doubt : (D E : Bytes → Type 0) (doubt : List Entry) (n : Beside) (limit : ℕ) (o : Option Entry) (more : List Entry) (fate : Fate) → Fares n limit o more fate → DoubtStep D E (entries o) more (fails fate) → IsWithin entry_bytes D doubt
    → IsWithin entry_bytes E (doubt_after doubt o fate)
fares_doubt D E doubt n limit None more IsKept f step within = λ x d. within x (still_less D more x (step x d))
fares_doubt D E doubt n limit None more IsFull f step within = λ x d. within x (still_less D more x (step x d))
fares_doubt D E doubt n limit None more IsFailed f step within = absurd (none_failed n limit more f)
fares_doubt D E doubt n limit None more IsStarved f step within = λ x d. within x (still_less D more x (step x d))
fares_doubt D E doubt n limit (Some e) more IsKept f step within = λ x d. subst (λ (l : List Entry). still D l x) f.whole.is (step x d)
fares_doubt D E doubt n limit (Some e) more IsFull f step within = λ x d. within x (still_less D more x (step x d))
fares_doubt D E doubt n limit (Some e) more IsFailed f step within = λ x d.
    elim (step x d) [
      | inl old ↦ inr (within x (still_less D more x old))
      | inr tried ↦ inl (tried.4 ∙ ap entry_bytes (alone e tried.0 more tried.1 tried.2).1)
    ]
fares_doubt D E doubt n limit (Some e) more IsStarved f step within = λ x d. within x (still_less D more x (step x d))

-- ---- what the world gives in the end

pub given_kept : (o : Option Entry) (a : Answer) → given o IsKept a ≡ a
given_kept None a = refl
given_kept (Some e) a = refl

pub given_starved : (o : Option Entry) (a : Answer) → given o IsStarved a ≡ Memory
given_starved None a = refl
given_starved (Some e) a = refl

pub given_full : (n : Beside) (limit : ℕ) (o : Option Entry) (more : List Entry) (size count : ℕ) (a : Answer) → Refused n limit (entries o) more size count → given o IsFull a ≡ Full
given_full n limit None more size count a f = absurd (none_refused n limit more size count f)
given_full n limit (Some e) more size count a f = refl

pub given_failed : (n : Beside) (limit : ℕ) (o : Option Entry) (more : List Entry) (a : Answer) → Failed n limit (entries o) more → given o IsFailed a ≡ Fault
given_failed n limit None more a f = absurd (none_failed n limit more f)
given_failed n limit (Some e) more a f = refl

-- ---- how the entry of each call fared

fared_kept : (n : Beside) (limit : ℕ) (o : Option Entry) (more : List Entry) (was heard : Answer) → Given n limit (entries o) more → is_failure heard ≡ false → was ≡ heard → Fared n limit o more was heard
fared_kept n limit o more was heard all calm same = record { fate = IsKept; fares = all; fails_is = sym calm; given_is = given_kept o was ∙ same }

fared_full : (n : Beside) (limit : ℕ) (o : Option Entry) (more : List Entry) (was : Answer) (size count : ℕ) → Refused n limit (entries o) more size count → Fared n limit o more was Full
fared_full n limit o more was size count f = record { fate = IsFull; fares = (size, count, f); fails_is = refl; given_is = given_full n limit o more size count was f }

fared_failed : (n : Beside) (limit : ℕ) (o : Option Entry) (more : List Entry) (was : Answer) → Failed n limit (entries o) more → Fared n limit o more was Fault
fared_failed n limit o more was f = record { fate = IsFailed; fares = f; fails_is = refl; given_is = given_failed n limit o more was f }

fared_starved : (n : Beside) (limit : ℕ) (o : Option Entry) (more : List Entry) (was : Answer) → Whole n [] more → Fared n limit o more was Memory
fared_starved n limit o more was f = record { fate = IsStarved; fares = f; fails_is = refl; given_is = given_starved o was }

outcome_fared : (n : Beside) (more : List Entry) (o : Outcome outcome.Answered) (answered : Handled) → Answers n more o answered → Fared n (limit_for (entries o.more)) o.more more (Replied o.answer) (said answered)
outcome_fared n more o (Handled.Done reply) step = fared_kept n (limit_for (entries o.more)) o.more more _ _ step.1 refl (ap (λ x. Replied x) step.0)
outcome_fared n more o (Handled.Repeat reply) step = fared_kept n (limit_for (entries o.more)) o.more more _ _ step.1 refl (ap (λ x. Replied x) step.0)
outcome_fared n more o (Handled.Denied denial) step = fared_kept n (limit_for (entries o.more)) o.more more _ _ step.1 refl (ap (λ x. Replied x) step.0)
outcome_fared n more o Handled.Fault step = fared_failed n (limit_for (entries o.more)) o.more more _ step
outcome_fared n more o (Handled.Full size count) step = fared_full n (limit_for (entries o.more)) o.more more _ size count step
outcome_fared n more o Handled.Memory step = fared_starved n (limit_for (entries o.more)) o.more more _ step

receipt_fared : (n : Beside) (more : List Entry) (o : Outcome outcome.Answered) (answered : kept.Kept) → Receives n more o answered → Fared n LIMIT o.more more (Replied o.answer) (said_kept answered)
receipt_fared n more o (kept.Kept.Done reply) step = fared_kept n LIMIT o.more more _ _ step.1 refl (ap (λ x. Replied x) step.0)
receipt_fared n more o (kept.Kept.Denied denial) step = fared_kept n LIMIT o.more more _ _ step.1 refl (ap (λ x. Replied x) step.0)
receipt_fared n more o kept.Kept.Fault step = fared_failed n LIMIT o.more more _ step
receipt_fared n more o (kept.Kept.Full size count) step = fared_full n LIMIT o.more more _ size count step

-- the world's answer to a tick
abbrev tick_said : Book → ℕ → Answer
tick_said b m = cond (some_waits b.list m) (Kept (length b.list + 1)) Still

tick_fared : (n : Beside) (b : Book) (now : ℕ) (more : List Entry) (t : ticks.Ticked) → TickStep n b now more t → Fared n LIMIT (follow b.list Ticked (moment_at b.list now)) more (tick_said b (moment_at b.list now)) (said_tick t)
tick_fared n b now more (ticks.Ticked.Kept place) step = fared_kept n LIMIT _ more _ _ step.2 refl (ap (λ w. cond w (Kept (length b.list + 1)) Still) step.0 ∙ ap (λ x. Kept x) (sym step.1))
tick_fared n b now more ticks.Ticked.Still step = fared_kept n LIMIT _ more _ _ step.1 refl (ap (λ w. cond w (Kept (length b.list + 1)) Still) step.0)
tick_fared n b now more ticks.Ticked.Fault step = fared_failed n LIMIT _ more _ step
tick_fared n b now more (ticks.Ticked.Full size count) step = fared_full n LIMIT _ more _ size count step

halt_fared : (n : Beside) (b : Book) (now : ℕ) (more : List Entry) (t : ticks.Ticked) → HaltStep n b now more t → Fared n LAST (follow b.list Halted (moment_at b.list now)) more (Kept (length b.list + 1)) (said_tick t)
halt_fared n b now more (ticks.Ticked.Kept place) step = fared_kept n LAST _ more _ _ step.1 refl (ap (λ x. Kept x) (sym step.0))
halt_fared n b now more ticks.Ticked.Still step = absurd step
halt_fared n b now more ticks.Ticked.Fault step = fared_failed n LAST _ more _ step
halt_fared n b now more (ticks.Ticked.Full size count) step = fared_full n LAST _ more _ size count step

-- ---- the events

module _ {K : Type 0} (keeper : KeeperMeaning K) where
  -- a server behind an entry that fared so
  pub serves_put : (old new : Room K) (b : Book) (o : Option Entry) (more : List Entry) (limit : ℕ) (fate : Fate) → Fares (numbers keeper old new) limit o more fate
      → (b.told ≡ true → DoubtStep (keeper.doubts old.keeper) (keeper.doubts new.keeper) (entries o) more (fails fate)) → (c : Server) → Serves keeper old b c → Serves keeper new (onto more b) (put c o fate)
  serves_put old new b o more limit fate fares doubt c s = record {
    list_is = ap (λ (l : History). list_after l o fate) s.list_is ∙ fares_list (numbers keeper old new) limit b.list o more fate fares;
    doubt = λ t. fares_doubt (keeper.doubts old.keeper) (keeper.doubts new.keeper) c.doubt (numbers keeper old new) limit o more fate fares (doubt t) (s.doubt t);
  }

  event : (old new : Room K) (b : Book) (more : List Entry) (call : Call) (now limit : ℕ) (was heard : Answer) → ((write : Writer) → answer write b.list call (moment_at b.list now) ≡ was)
      → Fared (numbers keeper old new) limit (follow b.list call (moment_at b.list now)) more was heard
      → (b.told ≡ true → ToldStep keeper old new b (entries (follow b.list call (moment_at b.list now))) more (is_failure heard)) → IsEvent keeper old new b more call now heard
  event old new b more call now limit was heard same x told = record {
    fate = x.fate;
    serves = λ c s. subst (λ (l : History). Serves keeper new (onto more b) (put c (follow l call (moment_at l now)) x.fate)) (sym s.list_is)
        (serves_put old new b (follow b.list call (moment_at b.list now)) more limit x.fate x.fares
        (λ t. subst (DoubtStep (keeper.doubts old.keeper) (keeper.doubts new.keeper) (entries (follow b.list call (moment_at b.list now))) more) (sym x.fails_is) (told t).doubt) c s);
    answers = λ c s. ap (λ (l : History). given (follow l call (moment_at l now)) x.fate (answer (the_writer b.store) l call (moment_at l now))) s.list_is
        ∙ ap (λ (a : Answer). given (follow b.list call (moment_at b.list now)) x.fate a) (same (the_writer b.store)) ∙ x.given_is;
  }

  happens : (old new : Room K) (b : Book) (more : List Entry) (call : Call) (now limit : ℕ) (was heard : Answer) (Step : Type 0) → ((write : Writer) → answer write b.list call (moment_at b.list now) ≡ was)
      → Fared (numbers keeper old new) limit (follow b.list call (moment_at b.list now)) more was heard
      → After keeper old new b (entries (follow b.list call (moment_at b.list now))) more (is_failure heard) Step → Happens keeper old new b more call now heard Step
  happens old new b more call now limit was heard Step same fared a = record { stands = a.stands; step = a.did; event = event old new b more call now limit was heard same fared a.told; told = a.told }

  -- a request that is decided at a moment that is said otherwise
  pub requested : (old new : Room K) (b : Book) (now m : ℕ) (caller : Bytes) (number : ℕ) (command : Command) (more : List Entry) (answered : Handled) → m ≡ moment_at b.list now
      → After keeper old new b (entries (request_at b.list caller number command m).more) more (is_fault answered) (Answers (numbers keeper old new) more (request_at b.list caller number command m) answered)
      → Happens keeper old new b more (Requested caller number command) now (said answered) (RequestStep (numbers keeper old new) b now caller number command more answered)
  requested old new b now m caller number command more answered at a =
      let t = subst (λ (x : ℕ). After keeper old new b (entries (request_at b.list caller number command x).more) more (is_fault answered) (Answers (numbers keeper old new) more (request_at b.list caller number command x) answered)) at a in
      happens old new b more (Requested caller number command) now (limit_for (entries (request b.list caller number command now).more)) (Replied (request b.list caller number command now).answer) (said answered) _ (λ write. refl)
      (outcome_fared (numbers keeper old new) more (request b.list caller number command now) answered t.did) t

  -- and an ingest
  pub ingested : (old new : Room K) (b : Book) (now m : ℕ) (provider : Bytes) (come : Incoming) (more : List Entry) (answered : Handled) → m ≡ moment_at b.list now
      → After keeper old new b (entries (ingest_at b.list provider come m).more) more (is_fault answered) (Answers (numbers keeper old new) more (ingest_at b.list provider come m) answered)
      → Happens keeper old new b more (Ingested provider come) now (said answered) (IngestStep (numbers keeper old new) b now provider come more answered)
  ingested old new b now m provider come more answered at a =
      let t = subst (λ (x : ℕ). After keeper old new b (entries (ingest_at b.list provider come x).more) more (is_fault answered) (Answers (numbers keeper old new) more (ingest_at b.list provider come x) answered)) at a in
      happens old new b more (Ingested provider come) now (limit_for (entries (ingest b.list provider come now).more)) (Replied (ingest b.list provider come now).answer) (said answered) _ (λ write. refl)
      (outcome_fared (numbers keeper old new) more (ingest b.list provider come now) answered t.did) t

  pub received : (old new : Room K) (b : Book) (now : ℕ) (s : Bytes) (count : ℕ) (more : List Entry) (answered : kept.Kept)
      → After keeper old new b (entries (receipt b.list s count now).more) more (is_kept_fault answered) (ReceiptStep (numbers keeper old new) b now s count more answered)
      → Happens keeper old new b more (Receipted s count) now (said_kept answered) (ReceiptStep (numbers keeper old new) b now s count more answered)
  received old new b now s count more answered a =
      happens old new b more (Receipted s count) now LIMIT (Replied (receipt b.list s count now).answer) (said_kept answered) _ (λ write. refl)
      (receipt_fared (numbers keeper old new) more (receipt b.list s count now) answered a.did) a

  pub ticked : (old new : Room K) (b : Book) (now : ℕ) (more : List Entry) (t : ticks.Ticked)
      → After keeper old new b (tick_entries b.list (moment_at b.list now)) more (is_tick_fault t) (TickStep (numbers keeper old new) b now more t)
      → Happens keeper old new b more Ticked now (said_tick t) (TickStep (numbers keeper old new) b now more t)
  ticked old new b now more t a = happens old new b more Ticked now LIMIT (tick_said b (moment_at b.list now)) (said_tick t) _ (λ write. refl) (tick_fared (numbers keeper old new) b now more t a.did) a

  pub halted : (old new : Room K) (b : Book) (now : ℕ) (more : List Entry) (t : ticks.Ticked)
      → After keeper old new b (entries (follow b.list Halted (moment_at b.list now))) more (is_tick_fault t) (HaltStep (numbers keeper old new) b now more t)
      → Happens keeper old new b more Halted now (said_tick t) (HaltStep (numbers keeper old new) b now more t)
  halted old new b now more t a = happens old new b more Halted now LAST (Kept (length b.list + 1)) (said_tick t) _ (λ write. refl) (halt_fared (numbers keeper old new) b now more t a.did) a

  -- a question keeps nothing
  pub asked : {E : Type 0} (room : Room K) (b : Book) (now : ℕ) (q : Query) (r : Result Told E) → IfOk r (λ told. told ≡ query_answer (frame_bytes_at (the_writer b.store) b.list) b.list q) → IsEvent keeper room room b [] (Asked q) now (said_told r)
  asked room b now q (Ok told) is = record {
    fate = IsKept;
    serves = λ c s. record { list_is = s.list_is; doubt = s.doubt };
    answers = λ c s. ap (λ (l : History). answer (the_writer b.store) l (Asked q) (moment_at l now)) s.list_is ∙ ap (λ x. Tells x) (sym is);
  }
  asked room b now q (Err why) is = record { fate = IsStarved; serves = λ c s. record { list_is = s.list_is; doubt = s.doubt }; answers = λ c s. refl }
