-- What a desk's answer is to a run over lines.
use Rattle.std.proofs.Common.{◌≡◌, ◌⊎◌, inl, inr, ⊎_elim, if◌then◌else◌, ℕ, ◌+◌, Bool, true, false, cond, List, [], ◌∷◌, ◌++◌, length, Option, Some, None, Ok, Err, refl, sym, ap, ◌∙◌, subst}
use Rattle.std.specs.Prelude.{Result, Vec}
use Rattle.std.specs.declared.alloc.Global.{Global}
use mathlib.Core.Bool.{false≢true}
use Rattle.news_types.specs.declared.entry.Entry.{Entry}
use Rattle.news_types.specs.declared.query.Query.{Query}
use Rattle.news_types.specs.declared.query.Query.TheVariants as query
use Rattle.news_types.specs.declared.query.FeedRow.{FeedRow}
use Rattle.news_types.specs.declared.query.Answer.TheVariants as told
use Rattle.news_types.specs.declared.words.Thing.TheVariants as thing
use Rattle.news_types.specs.Names.{Bytes}
use Rattle.news_types.specs.Products.{is_subscriber}
use Rattle.news_types.specs.Answers.{query_answer, item_answer, publication_answer, publication_at}
use Rattle.news_types.specs.Items.{Item}
use Rattle.news_types.specs.Due.{Pub}
use Rattle.news_types.specs.Publications.{item, state, pubs}
use Rattle.news_types.specs.declared.words.State.{State}
use Rattle.newsroom.specs.Asking.{asks_frame}
use Rattle.news_types.specs.History.{History, moment, moment_at}
use Rattle.news_types.specs.Books.{Book, followed_by, onto}
use Rattle.news_types.specs.Calls as call
use Rattle.news_types.specs.Calls.{follow, ticked, more as behind}
use Rattle.news_io.specs.Clock.{ClockMeaning}
use Rattle.line_run.specs.Life.{Outcome, Meaning, Life, Took, Kept}
use Rattle.line_run.specs.Step.{IsStep}
use Rattle.line_run.specs.declared.answering.Stopped.{Stopped}
use Rattle.line_run.specs.declared.answering.Stopped.TheVariants as stopped
use Rattle.desk_lines.specs.declared.asked.Asked.{Asked}
use Rattle.desk_lines.specs.declared.asked.Asked.TheVariants as asked
use Rattle.desk_lines.specs.declared.property.LineProperty.TheVariants as property
use Rattle.desk_answers.specs.Answers.{answer_bytes, HasLine}
use Rattle.news_room.specs.Beside.{Beside}
use Rattle.news_room.specs.Stands.{Stands, LIMIT, numbers}
use Rattle.news_room.specs.Steps.{Given, Failed, Refused, entries, tick_entries, TickStep, ToldStep, is_tick_fault}
use Rattle.news_room.specs.declared.answers.Ticked.{Ticked as TickAnswer}
use Rattle.news_room.specs.declared.answers.Ticked.TheVariants as tick_answer
use Rattle.news_room.proofs.Limits.{tick_limit}
use Rattle.room_runs.specs.Lines.{adding, bad, of_asked, of_question, has_answer, no_frames}
use Rattle.room_runs.specs.Texts.{IsText}
use Rattle.room_runs.specs.Desk.{Shelf, StandsAt, book, line_hand}
use Rattle.room_runs.specs.Life.{life}
use Rattle.room_runs.specs.declared.desk.LineDesk.{LineDesk}
use Rattle.room_runs.proofs.Calls.{Called, Ticked, given_step, failed_step, refused_step}
use Rattle.news_io.specs.Keeper.{KeeperMeaning}

-- ---- a question

by_subscriber : (b : Bool) (length : ℕ) (s : Bytes) (rows : List FeedRow) → HasLine (cond b (told.Feed s length rows) (told.Unknown thing.Subscriber))
by_subscriber true length s rows = tt
by_subscriber false length s rows = tt

by_item : (i : ℕ) (it : Option Item) (now : Option State) → HasLine (item_answer i it now)
by_item i (Some it) (Some from) = tt
by_item i (Some it) None = tt
by_item i None from = tt

by_publication : (ps : List Pub) (p : Option Pub) → HasLine (publication_answer ps p)
by_publication ps None = tt
by_publication ps (Some p) = tt

pub has_line : (h : History) (q : Query) → has_answer q ≡ true → HasLine (query_answer no_frames h q)
has_line h (query.Feed s after) asked = by_subscriber (is_subscriber h s) _ s _
has_line h (query.Item i) asked = by_item i (item h i) (state h i (moment h))
has_line h query.Queue asked = tt
has_line h query.Check asked = tt
has_line h (query.Publication n) asked = by_publication (pubs h) (publication_at n (pubs h))
has_line h _ asked = absurd (false≢true asked)

-- no line asks for a frame
pub no_frame : (q : Query) → has_answer q ≡ true → asks_frame q ≡ false
no_frame (query.Feed s after) asked = refl
no_frame (query.Item i) asked = refl
no_frame query.Queue asked = refl
no_frame query.Check asked = refl
no_frame (query.Publication n) asked = refl
no_frame _ asked = absurd (false≢true asked)

behind_one : (o : Option Entry) (h : History) → followed_by (entries o) h ≡ behind o h
behind_one None h = refl
behind_one (Some e) h = refl

-- a tick that did not fail has kept what follows
tick_kept : (n : Beside) (b : Book) (now : ℕ) (more : List Entry) (place : ℕ) → TickStep n b now more (tick_answer.Kept place) → Given n LIMIT (tick_entries b.list (moment_at b.list now)) more
tick_kept n b now more place step = step.2

tick_still : (n : Beside) (b : Book) (now : ℕ) (more : List Entry) → TickStep n b now more tick_answer.Still → Given n LIMIT (tick_entries b.list (moment_at b.list now)) more
tick_still n b now more step = step.1

pub tick_given : (n : Beside) (b : Book) (now : ℕ) (more : List Entry) (r : TickAnswer) → ((place : ℕ) × (r ≡ tick_answer.Kept place)) ⊎ (r ≡ tick_answer.Still) → TickStep n b now more r
    → Given n LIMIT (tick_entries b.list (moment_at b.list now)) more × (is_tick_fault r ≡ false)
tick_given n b now more r (inl kept) step = (tick_kept n b now more kept.0 (subst (λ (x : TickAnswer). TickStep n b now more x) kept.1 step), ap is_tick_fault kept.1)
tick_given n b now more r (inr still) step = (tick_still n b now more (subst (λ (x : TickAnswer). TickStep n b now more x) still step), ap is_tick_fault still)

-- the list behind a tick
pub behind_tick : (h : History) (m : ℕ) → followed_by (tick_entries h m) h ≡ ticked h m
behind_tick h m = behind_one (follow h call.Ticked m) h

-- a question is answered at the list behind its tick
pub question_means : (before : ℕ) (h : History) (q : Query) (now : ℕ) → has_answer q ≡ true → of_asked before h (asked.Query q) now ≡ adding before h now (answer_bytes (query_answer no_frames (ticked h (moment_at h now)) q)) (tick_entries h (moment_at h now))
question_means before h q now asks = ap (λ b. if b then of_question before h now q else bad property.Ask) asks

-- what is asked behind a tick, whose text is that of the list which the tick leaves
module _ {K C : Type 0} (keeper : KeeperMeaning K) (clock : ClockMeaning C) (s : Shelf) (d d' : LineDesk K C) (h : History) (now : ℕ) (x : Asked) (text : History → Bytes)
    (means : of_asked s.before h x now ≡ adding s.before h now (text (ticked h (moment_at h now))) (tick_entries h (moment_at h now))) where
  abbrev pub tick : Option Entry
  tick = follow h call.Ticked (moment_at h now)

  abbrev pub TickDid : List Entry → Bool → Type 0
  TickDid more failed = Called line_hand keeper clock s (of_asked s.before) d d' h now x (text (ticked h (moment_at h now))) tick means more failed

  -- a tick, and then the answer
  behind_step : (more : List Entry) (r : Result (Vec ℕ Global) Stopped) → TickDid more false → Given (numbers keeper d.room.now d'.room.now) LIMIT (entries tick) more
      → IsText (text (followed_by more h)) r → IsStep (of_asked s.before) (life keeper clock line_hand s) d d' h x r
  behind_step more r did given is =
      let same : followed_by more h ≡ ticked h (moment_at h now) = ap (λ (l : List Entry). followed_by l h) given.whole.is ∙ behind_tick h (moment_at h now) in
      given_step line_hand keeper clock s (of_asked s.before) d d' h now x (text (ticked h (moment_at h now))) tick means more r did
      (subst (λ (l : ℕ). Given (numbers keeper d.room.now d'.room.now) l (entries tick) more) (sym (tick_limit h (moment_at h now))) given) (subst (λ (l : History). IsText (text l) r) same is)

  -- the same, by what the room answered to the tick
  pub ticked_step : (more : List Entry) (t : TickAnswer) (r : Result (Vec ℕ Global) Stopped) → ((place : ℕ) × (t ≡ tick_answer.Kept place)) ⊎ (t ≡ tick_answer.Still) → StandsAt keeper s (line_hand d) h
      → Stands keeper d'.room.now (onto more (book s h)) → TickStep (numbers keeper d.room.now d'.room.now) (book s h) now more t
      → (s.told ≡ true → ToldStep keeper d.room.now d'.room.now (book s h) (entries tick) more (is_tick_fault t))
      → Ticked line_hand keeper clock s (of_asked s.before) d d' h x (now ∷ []) → IsText (text (followed_by more h)) r
      → IsStep (of_asked s.before) (life keeper clock line_hand s) d d' h x r
  ticked_step more t r is stands room step told ticked text_is =
      let given = tick_given (numbers keeper d.room.now d'.room.now) (book s h) now more t is step in
      behind_step more r
      (record { stands = stands; room = room; told = λ is_told. subst (λ (failed : Bool). ToldStep keeper d.room.now d'.room.now (book s h) (entries tick) more failed) given.1 (told is_told); ticked = ticked })
      given.0 text_is

  pub tick_failed : (more : List Entry) → TickDid more true → Failed (numbers keeper d.room.now d'.room.now) LIMIT (entries tick) more → IsStep (of_asked s.before) (life keeper clock line_hand s) d d' h x (Err stopped.Fault)
  tick_failed more did failed = failed_step line_hand keeper clock s (of_asked s.before) d d' h now x (text (ticked h (moment_at h now))) tick means more did
      (subst (λ (l : ℕ). Failed (numbers keeper d.room.now d'.room.now) l (entries tick) more) (sym (tick_limit h (moment_at h now))) failed)

  pub tick_refused : (more : List Entry) (size count : ℕ) → TickDid more false → Refused (numbers keeper d.room.now d'.room.now) LIMIT (entries tick) more size count
      → IsStep (of_asked s.before) (life keeper clock line_hand s) d d' h x (Err stopped.Full)
  tick_refused more size count did refused = refused_step line_hand keeper clock s (of_asked s.before) d d' h now x (text (ticked h (moment_at h now))) tick means more size count did
      (subst (λ (l : ℕ). Refused (numbers keeper d.room.now d'.room.now) l (entries tick) more size count) (sym (tick_limit h (moment_at h now))) refused)

-- ---- a line, by what it is read as

module _ {F A X Y : Type 0} (L : Life Entry F A) (M : Meaning Entry X) (N : Meaning Entry Y) (d d' : A) (h : History) (x : X) (y : Y) (same : (at : ℕ) → M h x at ≡ N h y at) where
  -- a step by one meaning is one by another that says the same
  pub by_meaning : (r : Result (Vec ℕ Global) Stopped) → IsStep N L d d' h y r → IsStep M L d d' h x r
  by_meaning (Ok text) a = record {
    at = a.at;
    text_is = a.text_is ∙ sym (ap (λ (o : Outcome Entry). o.text) (same a.at));
    fits = ap (λ (o : Outcome Entry). o.passes) (same a.at) ∙ a.fits;
    kept = subst (λ (o : Outcome Entry). Kept L d d' h (o.adds ++ h)) (sym (same a.at)) a.kept;
    calm = λ e p. (ap (λ (o : Outcome Entry). o.adds) (same a.at) ∙ (a.calm e p).0, (a.calm e p).1);
    clock = subst (λ (o : Outcome Entry). Took L d d' o.took) (sym (same a.at)) a.clock;
  }
  by_meaning (Err why) a = record {
    at = a.at;
    part = a.part;
    first = (a.first.0, ap (λ (o : Outcome Entry). o.adds) (same a.at) ∙ a.first.1);
    unkept = λ by_keeper. let left = a.unkept by_keeper in (left.0, (left.1.0, ap (λ (o : Outcome Entry). o.adds) (same a.at) ∙ left.1.1));
    full = λ full. ap (λ (o : Outcome Entry). o.passes) (same a.at) ∙ a.full full;
    kept = a.kept;
    doubt = λ e p. ⊎_elim (λ was. inl was) (λ tried. inr (tried.0, (tried.1.0, ap (λ (o : Outcome Entry). o.adds) (same a.at) ∙ tried.1.1))) (a.doubt e p);
    took = a.took;
    some = elim a.some [ inl none ↦ inl none | inr all ↦ inr (all ∙ sym (ap (λ (o : Outcome Entry). o.took) (same a.at))) ];
    clock = a.clock;
  }
