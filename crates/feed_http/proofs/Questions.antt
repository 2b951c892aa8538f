-- A turn that is a question behind a tick.
use Rattle.std.proofs.Common.{◌≡◌, ◌⊎◌, inl, inr, ℕ, Bool, true, false, List, [], Option, Some, None, Ok, Err, refl, sym, ap, ◌∙◌, subst}
use Rattle.std.proofs.lemmas.Bool.{false≢true}
use Rattle.std.specs.Prelude.{Result, IfOk}
use Rattle.news_types.specs.declared.entry.Entry.{Entry}
use Rattle.news_types.specs.declared.query.Query.{Query}
use Rattle.news_types.specs.declared.query.Answer.{Answer as Told}
use Rattle.news_types.specs.declared.Memory.{Memory as NoMemory}
use Rattle.news_types.specs.History.{History, moment_at}
use Rattle.news_types.specs.Books.{Book, followed_by, onto}
use Rattle.news_types.specs.Frames.{frame_bytes_at}
use Rattle.news_types.specs.Answers.{query_answer}
use Rattle.news_types.specs.Calls.{Ticked, Asked, Full, Fault, follow, ticked}
use Rattle.news_types.specs.Calls as call
use Rattle.news_io.specs.Keeper.{KeeperMeaning}
use Rattle.feed_frames.specs.Writer.{the_writer}
use Rattle.news_room.specs.Beside.{Beside}
use Rattle.news_room.specs.Stands.{Stands, LIMIT, limit_for, numbers}
use Rattle.news_room.specs.Said.{said_tick, said_told, is_failure}
use Rattle.news_room.specs.Steps.{Given, Refused, Failed, TickStep, tick_entries, ToldStep, entries}
use Rattle.news_room.specs.Events.{IsEvent, Happens}
use Rattle.news_room.specs.declared.answers.Ticked as tick
use Rattle.news_room.specs.declared.room.Room.{Room}
use Rattle.news_room.proofs.Limits.{tick_limit}
use Rattle.desk_routes.specs.declared.response.Response.{Response}
use Rattle.desk_routes.specs.declared.response.Notice.TheVariants as notice
use Rattle.desk_routes.specs.declared.ask.HttpAsk.TheVariants as ask
use Rattle.desk_routes.specs.Responses.{answer_response, notice_response}
use Rattle.feed_http.specs.Outcome.{HttpOutcome}
use Rattle.feed_http.specs.Turn.{IsTold, full, failed, tells_failure, Calls, AsksBehind, TicksAndAsks, HttpTurn, AskTurn}
use Rattle.feed_http.proofs.Outcomes.{questioned, asked, answer_to, answer_is}
use Rattle.feed_http.proofs.Coming.{comes_heard}
use Rattle.feed_http.proofs.Doubts.{told_any, told_by}

-- ---- a tick that was not refused

abbrev pub IsKeptOrStill : tick.Ticked → Type 0
IsKeptOrStill t = ((place : ℕ) × (t ≡ tick.Ticked.Kept place)) ⊎ (t ≡ tick.Ticked.Still)

abbrev pub is_passed : tick.Ticked → Bool
is_passed (tick.Ticked.Kept place) = true
is_passed tick.Ticked.Still = true
is_passed tick.Ticked.Fault = false
is_passed (tick.Ticked.Full size count) = false

pub passed_on : (t : tick.Ticked) → IsKeptOrStill t → is_passed t ≡ true
passed_on t (inl kept) = ap is_passed kept.1
passed_on t (inr still) = ap is_passed still

-- it has kept what follows
pub tick_given : (n : Beside) (b : Book) (now : ℕ) (more : List Entry) (t : tick.Ticked) → is_passed t ≡ true → TickStep n b now more t → Given n LIMIT (tick_entries b.list (moment_at b.list now)) more
tick_given n b now more (tick.Ticked.Kept place) is step = step.2
tick_given n b now more tick.Ticked.Still is step = step.1
tick_given n b now more tick.Ticked.Fault is step = absurd (false≢true is)
tick_given n b now more (tick.Ticked.Full size count) is step = absurd (false≢true is)

pub never_fails : (t : tick.Ticked) → is_passed t ≡ true → is_failure (said_tick t) ≡ false
never_fails (tick.Ticked.Kept place) is = refl
never_fails tick.Ticked.Still is = refl
never_fails tick.Ticked.Fault is = absurd (false≢true is)
never_fails (tick.Ticked.Full size count) is = absurd (false≢true is)

-- ---- the list behind it

behind_one : (o : Option Entry) (h : History) → followed_by (entries o) h ≡ call.more o h
behind_one None h = refl
behind_one (Some e) h = refl

pub behind_tick : (n : Beside) (b : Book) (now : ℕ) (more : List Entry) → Given n LIMIT (tick_entries b.list (moment_at b.list now)) more → followed_by more b.list ≡ ticked b.list (moment_at b.list now)
behind_tick n b now more given = ap (λ (l : List Entry). followed_by l b.list) given.whole.is ∙ behind_one (follow b.list Ticked (moment_at b.list now)) b.list

-- ---- what the question is answered there

module _ {K : Type 0} (keeper : KeeperMeaning K) where
  -- what a room answered, for each book for which it stands
  abbrev pub Heard : Room K → Query → Told → Type 0
  Heard room question told = (c : Book) → Stands keeper room c → told ≡ query_answer (frame_bytes_at (the_writer c.store) c.list) c.list question

  heard_at : (room : Room K) (question : Query) (found : Result Told NoMemory) (c : Book) → Stands keeper room c → IfOk found (Heard room question) → IfOk found (λ told. answer_response told ≡ answer_to (the_writer c.store) c.list question)
  heard_at room question (Ok told) c stands is = answer_is (the_writer c.store) c.list question told (is c stands)
  heard_at room question (Err why) c stands is = tt

  -- at a list that is said otherwise
  heard_behind : (room : Room K) (b : Book) (more : List Entry) (question : Query) (found : Result Told NoMemory) (g : History) → followed_by more b.list ≡ g → Stands keeper room (onto more b) → IfOk found (Heard room question)
      → IfOk found (λ told. answer_response told ≡ answer_to (the_writer b.store) g question)
  heard_behind room b more question found g at stands is = subst (λ (l : History). IfOk found (λ told. answer_response told ≡ answer_to (the_writer b.store) l question)) at (heard_at room question found (onto more b) stands is)

-- ---- the events

module _ {K : Type 0} (keeper : KeeperMeaning K) (room : Room K) (b : Book) (question : Query) (now : ℕ) (response : Response) where
  asks_behind : (t : tick.Ticked) → is_passed t ≡ true → Calls keeper room room b [] (Asked question) now response → AsksBehind keeper room b question now (said_tick t) response
  asks_behind (tick.Ticked.Kept place) is calls = calls
  asks_behind tick.Ticked.Still is calls = calls
  asks_behind tick.Ticked.Fault is calls = absurd (false≢true is)
  asks_behind (tick.Ticked.Full size count) is calls = absurd (false≢true is)

-- ---- the turn

module _ {K : Type 0} (keeper : KeeperMeaning K) (old new : Room K) (b : Book) (more : List Entry) (question : Query) (now : ℕ) (response : Response) (wanted : HttpOutcome) where
  -- the tick was not refused
  turn_kept : (t : tick.Ticked) (found : Result Told NoMemory) → is_passed t ≡ true → Stands keeper new (onto more b) → IsEvent keeper old new b more Ticked now (said_tick t) → Given (numbers keeper old new) (limit_for wanted.adds) wanted.adds more
      → (b.told ≡ true → ToldStep keeper old new b wanted.adds more (is_failure (said_tick t))) → IfOk found (λ told. answer_response told ≡ wanted.response) → IsEvent keeper new new (onto more b) [] (Asked question) now (said_told found) → IsTold (said_told found) response
      → HttpTurn keeper old new b more wanted response (TicksAndAsks keeper old new b more question now response)
  turn_kept t found passed stands event given told answers asks heard = record {
    stands = stands;
    came = comes_heard (numbers keeper old new) wanted more found response answers heard given;
    events = record { answer = said_tick t; event = event; asks = asks_behind keeper new (onto more b) question now response t passed (record { answer = said_told found; event = asks; told = heard }) };
    told = λ s. told_any keeper old new b wanted.adds more (tells_failure response) (subst (λ (f : Bool). ToldStep keeper old new b wanted.adds more f) (never_fails t passed) (told s));
  }

  -- the keeper failed at it
  turn_failed : Stands keeper new (onto more b) → IsEvent keeper old new b more Ticked now Fault → Failed (numbers keeper old new) (limit_for wanted.adds) wanted.adds more → (b.told ≡ true → ToldStep keeper old new b wanted.adds more true) → response ≡ notice_response notice.Fault
      → HttpTurn keeper old new b more wanted response (TicksAndAsks keeper old new b more question now response)
  turn_failed stands event lost told is = record {
    stands = stands;
    came = failed is lost;
    events = record { answer = Fault; event = event; asks = is };
    told = λ s. told_by keeper old new b wanted.adds more Fault response is (told s);
  }

  -- it would have passed the limit
  turn_full : (size count : ℕ) → Stands keeper new (onto more b) → IsEvent keeper old new b more Ticked now Full → Refused (numbers keeper old new) (limit_for wanted.adds) wanted.adds more size count → (b.told ≡ true → ToldStep keeper old new b wanted.adds more false) → response ≡ notice_response notice.Full
      → HttpTurn keeper old new b more wanted response (TicksAndAsks keeper old new b more question now response)
  turn_full size count stands event refused told is = record {
    stands = stands;
    came = full size count is refused;
    events = record { answer = Full; event = event; asks = is };
    told = λ s. told_by keeper old new b wanted.adds more Full response is (told s);
  }

module _ {K : Type 0} (keeper : KeeperMeaning K) (old new : Room K) (b : Book) (more : List Entry) (question : Query) (now : ℕ) (response : Response) where
  -- the outcome of a question, said by its own words
  as_asked : HttpTurn keeper old new b more (questioned (the_writer b.store) b.list (moment_at b.list now) question) response (TicksAndAsks keeper old new b more question now response) → AskTurn keeper old new b more (ask.Query question) now response
  as_asked t = subst (λ (o : HttpOutcome). HttpTurn keeper old new b more o response (TicksAndAsks keeper old new b more question now response)) (sym (asked b.store b.list question (moment_at b.list now))) t

  pub question_turn : (t : tick.Ticked) (found : Result Told NoMemory) → IsKeptOrStill t → Happens keeper old new b more Ticked now (said_tick t) (TickStep (numbers keeper old new) b now more t) → IfOk found (Heard keeper new question)
      → ((c : Book) (at : ℕ) → Stands keeper new c → IsEvent keeper new new c [] (Asked question) at (said_told found)) → IsTold (said_told found) response → AskTurn keeper old new b more (ask.Query question) now response
  question_turn t found is h answers asks heard =
      let given : Given (numbers keeper old new) LIMIT (tick_entries b.list (moment_at b.list now)) more = tick_given (numbers keeper old new) b now more t (passed_on t is) h.step in
      as_asked
      (turn_kept keeper old new b more question now response (questioned (the_writer b.store) b.list (moment_at b.list now) question) t found (passed_on t is) h.stands h.event
      (subst (λ (l : ℕ). Given (numbers keeper old new) l (tick_entries b.list (moment_at b.list now)) more) (sym (tick_limit b.list (moment_at b.list now))) given) h.told
      (heard_behind keeper new b more question found (ticked b.list (moment_at b.list now)) (behind_tick (numbers keeper old new) b now more given) h.stands answers) (asks (onto more b) now h.stands) heard)

  pub question_failed : Happens keeper old new b more Ticked now Fault (TickStep (numbers keeper old new) b now more tick.Ticked.Fault) → response ≡ notice_response notice.Fault → AskTurn keeper old new b more (ask.Query question) now response
  question_failed h is = as_asked (turn_failed keeper old new b more question now response (questioned (the_writer b.store) b.list (moment_at b.list now) question) h.stands h.event
      (subst (λ (l : ℕ). Failed (numbers keeper old new) l (tick_entries b.list (moment_at b.list now)) more) (sym (tick_limit b.list (moment_at b.list now))) h.step) h.told is)

  pub question_refused : (size count : ℕ) → Happens keeper old new b more Ticked now Full (TickStep (numbers keeper old new) b now more (tick.Ticked.Full size count)) → response ≡ notice_response notice.Full → AskTurn keeper old new b more (ask.Query question) now response
  question_refused size count h is = as_asked (turn_full keeper old new b more question now response (questioned (the_writer b.store) b.list (moment_at b.list now) question) size count h.stands h.event
      (subst (λ (l : ℕ). Refused (numbers keeper old new) l (tick_entries b.list (moment_at b.list now)) more size count) (sym (tick_limit b.list (moment_at b.list now))) h.step) h.told is)
