-- A turn that tells of the list behind a tick: a search of the archive, what a publication holds, or what a desk asks.
use Rattle.std.proofs.Common.{◌≡◌, inl, inr, ℕ, Bool, true, false, List, Ok, Err, refl, sym, ap, ◌∙◌, subst}
use Rattle.std.proofs.lemmas.Bool.{false≢true}
use Rattle.std.specs.Prelude.{Result, IfOk}
use Rattle.news_types.specs.declared.entry.Entry.{Entry}
use Rattle.news_types.specs.declared.Memory.{Memory as NoMemory}
use Rattle.news_types.specs.Names.{Bytes}
use Rattle.news_types.specs.History.{History, moment_at}
use Rattle.news_types.specs.Books.{Book, followed_by, onto}
use Rattle.news_types.specs.Calls.{Ticked, Full, Fault}
use Rattle.news_io.specs.Keeper.{KeeperMeaning}
use Rattle.news_room.specs.Beside.{Beside}
use Rattle.news_room.specs.Stands.{Stands, LIMIT, limit_for, numbers}
use Rattle.news_room.specs.Said.{said_tick}
use Rattle.news_room.specs.Steps.{Given, Refused, Failed, TickStep, tick_entries, ToldStep}
use Rattle.news_room.specs.Events.{Happens}
use Rattle.news_room.specs.declared.answers.Ticked as tick
use Rattle.news_room.specs.declared.room.Room.{Room}
use Rattle.news_room.proofs.Limits.{tick_limit}
use Rattle.archive_search.specs.declared.told.Told as archive
use Rattle.archive_search.specs.Told.{archive_told}
use Rattle.desk_views.specs.declared.question.DeskQuestion.{DeskQuestion}
use Rattle.desk_routes.specs.declared.response.Response.{Response}
use Rattle.desk_routes.specs.declared.response.Notice.TheVariants as notice
use Rattle.desk_routes.specs.declared.ask.HttpAsk.TheVariants as ask
use Rattle.desk_routes.specs.Responses.{notice_response}
use Rattle.feed_http.specs.Outcome.{HttpOutcome, archive_response, search_response, contents_response, question_response, told_behind}
use Rattle.feed_http.specs.Turn.{IsToldAs, IsFound, Comes, whole, full, failed, tells_failure, TellsBehind, TicksAndTells, HttpTurn, AskTurn}
use Rattle.feed_http.proofs.Outcomes.{searches, holds, questions}
use Rattle.feed_http.proofs.Coming.{all_kept}
use Rattle.feed_http.proofs.Questions.{IsKeptOrStill, is_passed, passed_on, tick_given, never_fails, behind_tick}
use Rattle.feed_http.proofs.Doubts.{told_any, told_by}

-- ---- what is told

comes_told : (n : Beside) (wanted : HttpOutcome) (more : List Entry) (response : Response) → IsToldAs wanted.response response → Given n (limit_for wanted.adds) wanted.adds more → Comes n wanted more response
comes_told n wanted more response (inl is) given = whole is given
comes_told n wanted more response (inr none) given = all_kept n wanted more response none given

-- behind a tick that was not refused
tells_behind : (tell : History → Response) (h : History) (t : tick.Ticked) (response : Response) → is_passed t ≡ true → IsToldAs (tell h) response → TellsBehind tell h (said_tick t) response
tells_behind tell h (tick.Ticked.Kept place) response is told = told
tells_behind tell h tick.Ticked.Still response is told = told
tells_behind tell h tick.Ticked.Fault response is told = absurd (false≢true is)
tells_behind tell h (tick.Ticked.Full size count) response is told = absurd (false≢true is)

-- ---- the turn

module _ {K : Type 0} (keeper : KeeperMeaning K) (old new : Room K) (b : Book) (more : List Entry) (tell : History → Response) (now : ℕ) (response : Response) where
  abbrev m : ℕ
  m = moment_at b.list now

  abbrev wanted : HttpOutcome
  wanted = told_behind b.list m tell

  -- the turn, said by its own words
  abbrev Tells : Type 0
  Tells = HttpTurn keeper old new b more wanted response (TicksAndTells keeper old new b more tell now response)

  told_turn : (t : tick.Ticked) → IsKeptOrStill t → Happens keeper old new b more Ticked now (said_tick t) (TickStep (numbers keeper old new) b now more t) → IsToldAs (tell (followed_by more b.list)) response → Tells
  told_turn t is h told =
      let passed : is_passed t ≡ true = passed_on t is in
      let given : Given (numbers keeper old new) LIMIT (tick_entries b.list m) more = tick_given (numbers keeper old new) b now more t passed h.step in
      record {
        stands = h.stands;
        came = comes_told (numbers keeper old new) wanted more response (subst (λ (l : History). IsToldAs (tell l) response) (behind_tick (numbers keeper old new) b now more given) told)
            (subst (λ (l : ℕ). Given (numbers keeper old new) l (tick_entries b.list m) more) (sym (tick_limit b.list m)) given);
        events = record { answer = said_tick t; event = h.event; tells = tells_behind tell (followed_by more b.list) t response passed told };
        told = λ s. told_any keeper old new b (tick_entries b.list m) more (tells_failure response) (subst (λ (f : Bool). ToldStep keeper old new b (tick_entries b.list m) more f) (never_fails t passed) (h.told s));
      }

  failed_turn : Happens keeper old new b more Ticked now Fault (TickStep (numbers keeper old new) b now more tick.Ticked.Fault) → response ≡ notice_response notice.Fault → Tells
  failed_turn h is = record {
    stands = h.stands;
    came = failed is (subst (λ (l : ℕ). Failed (numbers keeper old new) l (tick_entries b.list m) more) (sym (tick_limit b.list m)) h.step);
    events = record { answer = Fault; event = h.event; tells = is };
    told = λ s. told_by keeper old new b (tick_entries b.list m) more Fault response is (h.told s);
  }

  refused_turn : (size count : ℕ) → Happens keeper old new b more Ticked now Full (TickStep (numbers keeper old new) b now more (tick.Ticked.Full size count)) → response ≡ notice_response notice.Full → Tells
  refused_turn size count h is = record {
    stands = h.stands;
    came = full size count is (subst (λ (l : ℕ). Refused (numbers keeper old new) l (tick_entries b.list m) more size count) (sym (tick_limit b.list m)) h.step);
    events = record { answer = Full; event = h.event; tells = is };
    told = λ s. told_by keeper old new b (tick_entries b.list m) more Full response is (h.told s);
  }

-- ---- a search of the archive

found_as : (found : Result archive.Told NoMemory) (wanted response : Response) → IfOk found (λ told. archive_response told ≡ wanted) → IsFound found response → IsToldAs wanted response
found_as (Ok told) wanted response is heard = inl (heard ∙ is)
found_as (Err why) wanted response is heard = inr heard

module _ {K : Type 0} (keeper : KeeperMeaning K) (old new : Room K) (b : Book) (more : List Entry) (page : ℕ) (query : Bytes) (now : ℕ) (response : Response) where
  -- what a room tells, for each book for which it stands
  abbrev pub Found : archive.Told → Type 0
  Found told = (c : Book) → Stands keeper new c → told ≡ archive_told c.list page query

  -- the same of a text that is the query
  pub found_for : (text : Bytes) (found : Result archive.Told NoMemory) → text ≡ query → IfOk found (λ told. (c : Book) → Stands keeper new c → told ≡ archive_told c.list page text) → IfOk found Found
  found_for text (Ok told) same is = λ c stands. is c stands ∙ ap (λ (q : Bytes). archive_told c.list page q) same
  found_for text (Err why) same is = tt

  found_behind : (found : Result archive.Told NoMemory) → Stands keeper new (onto more b) → IfOk found Found → IfOk found (λ told. archive_response told ≡ search_response page query (followed_by more b.list))
  found_behind (Ok told) stands is = ap archive_response (is (onto more b) stands)
  found_behind (Err why) stands is = tt

  -- the outcome of a search, said by its own words
  as_searched : HttpTurn keeper old new b more (told_behind b.list (moment_at b.list now) (search_response page query)) response (TicksAndTells keeper old new b more (search_response page query) now response) → AskTurn keeper old new b more (ask.Archive page query) now response
  as_searched t = subst (λ (o : HttpOutcome). HttpTurn keeper old new b more o response (TicksAndTells keeper old new b more (search_response page query) now response)) (sym (searches b.store b.list page query (moment_at b.list now))) t

  pub search_turn : (t : tick.Ticked) (found : Result archive.Told NoMemory) → IsKeptOrStill t → Happens keeper old new b more Ticked now (said_tick t) (TickStep (numbers keeper old new) b now more t) → IfOk found Found → IsFound found response
      → AskTurn keeper old new b more (ask.Archive page query) now response
  search_turn t found is h answers heard = as_searched (told_turn keeper old new b more (search_response page query) now response t is h (found_as found (search_response page query (followed_by more b.list)) response (found_behind found h.stands answers) heard))

  pub search_failed : Happens keeper old new b more Ticked now Fault (TickStep (numbers keeper old new) b now more tick.Ticked.Fault) → response ≡ notice_response notice.Fault → AskTurn keeper old new b more (ask.Archive page query) now response
  search_failed h is = as_searched (failed_turn keeper old new b more (search_response page query) now response h is)

  pub search_refused : (size count : ℕ) → Happens keeper old new b more Ticked now Full (TickStep (numbers keeper old new) b now more (tick.Ticked.Full size count)) → response ≡ notice_response notice.Full
      → AskTurn keeper old new b more (ask.Archive page query) now response
  search_refused size count h is = as_searched (refused_turn keeper old new b more (search_response page query) now response size count h is)

-- ---- what a room tells of its list by itself

module _ {K : Type 0} (keeper : KeeperMeaning K) (old new : Room K) (b : Book) (more : List Entry) (tell : Bytes → History → Response) (now : ℕ) (response : Response) where
  -- the response of a room, for each book for which it stands
  abbrev pub Held : Response → Type 0
  Held held = (c : Book) → Stands keeper new c → held ≡ tell c.store c.list

  held_behind : (held : Result Response NoMemory) → Stands keeper new (onto more b) → IfOk held Held → IfOk held (λ r. r ≡ tell b.store (followed_by more b.list))
  held_behind (Ok r) stands is = is (onto more b) stands
  held_behind (Err why) stands is = tt

  held_turn : (t : tick.Ticked) (held : Result Response NoMemory) → IsKeptOrStill t → Happens keeper old new b more Ticked now (said_tick t) (TickStep (numbers keeper old new) b now more t) → IfOk held Held
      → ((r : Response) → IfOk held (λ h. h ≡ r) → IsToldAs r response) → HttpTurn keeper old new b more (told_behind b.list (moment_at b.list now) (tell b.store)) response (TicksAndTells keeper old new b more (tell b.store) now response)
  held_turn t held is h answers heard = told_turn keeper old new b more (tell b.store) now response t is h (heard (tell b.store (followed_by more b.list)) (held_behind held h.stands answers))

-- ---- what a publication holds

abbrev told_contents : ℕ → Bytes → History → Response
told_contents publication store h = contents_response store publication h

module _ {K : Type 0} (keeper : KeeperMeaning K) (old new : Room K) (b : Book) (more : List Entry) (publication now : ℕ) (response : Response) where
  -- the outcome, said by its own words
  as_held : HttpTurn keeper old new b more (told_behind b.list (moment_at b.list now) (contents_response b.store publication)) response (TicksAndTells keeper old new b more (contents_response b.store publication) now response) → AskTurn keeper old new b more (ask.Contents publication) now response
  as_held t = subst (λ (o : HttpOutcome). HttpTurn keeper old new b more o response (TicksAndTells keeper old new b more (contents_response b.store publication) now response)) (sym (holds b.store b.list publication (moment_at b.list now))) t

  pub contents_turn : (t : tick.Ticked) (held : Result Response NoMemory) → IsKeptOrStill t → Happens keeper old new b more Ticked now (said_tick t) (TickStep (numbers keeper old new) b now more t) → IfOk held (Held keeper old new b more (told_contents publication) now response)
      → ((r : Response) → IfOk held (λ h. h ≡ r) → IsToldAs r response) → AskTurn keeper old new b more (ask.Contents publication) now response
  contents_turn t held is h answers heard = as_held (held_turn keeper old new b more (told_contents publication) now response t held is h answers heard)

  pub contents_failed : Happens keeper old new b more Ticked now Fault (TickStep (numbers keeper old new) b now more tick.Ticked.Fault) → response ≡ notice_response notice.Fault → AskTurn keeper old new b more (ask.Contents publication) now response
  contents_failed h is = as_held (failed_turn keeper old new b more (contents_response b.store publication) now response h is)

  pub contents_refused : (size count : ℕ) → Happens keeper old new b more Ticked now Full (TickStep (numbers keeper old new) b now more (tick.Ticked.Full size count)) → response ≡ notice_response notice.Full
      → AskTurn keeper old new b more (ask.Contents publication) now response
  contents_refused size count h is = as_held (refused_turn keeper old new b more (contents_response b.store publication) now response size count h is)

-- ---- what a desk asks

abbrev told_desk : DeskQuestion → Bytes → History → Response
told_desk question store h = question_response question h

module _ {K : Type 0} (keeper : KeeperMeaning K) (old new : Room K) (b : Book) (more : List Entry) (question : DeskQuestion) (now : ℕ) (response : Response) where
  -- the outcome, said by its own words
  as_questioned : HttpTurn keeper old new b more (told_behind b.list (moment_at b.list now) (question_response question)) response (TicksAndTells keeper old new b more (question_response question) now response) → AskTurn keeper old new b more (ask.Desk question) now response
  as_questioned t = subst (λ (o : HttpOutcome). HttpTurn keeper old new b more o response (TicksAndTells keeper old new b more (question_response question) now response)) (sym (questions b.store b.list question (moment_at b.list now))) t

  pub desk_turn : (t : tick.Ticked) (held : Result Response NoMemory) → IsKeptOrStill t → Happens keeper old new b more Ticked now (said_tick t) (TickStep (numbers keeper old new) b now more t) → IfOk held (Held keeper old new b more (told_desk question) now response)
      → ((r : Response) → IfOk held (λ h. h ≡ r) → IsToldAs r response) → AskTurn keeper old new b more (ask.Desk question) now response
  desk_turn t held is h answers heard = as_questioned (held_turn keeper old new b more (told_desk question) now response t held is h answers heard)

  pub desk_failed : Happens keeper old new b more Ticked now Fault (TickStep (numbers keeper old new) b now more tick.Ticked.Fault) → response ≡ notice_response notice.Fault → AskTurn keeper old new b more (ask.Desk question) now response
  desk_failed h is = as_questioned (failed_turn keeper old new b more (question_response question) now response h is)

  pub desk_refused : (size count : ℕ) → Happens keeper old new b more Ticked now Full (TickStep (numbers keeper old new) b now more (tick.Ticked.Full size count)) → response ≡ notice_response notice.Full
      → AskTurn keeper old new b more (ask.Desk question) now response
  desk_refused size count h is = as_questioned (refused_turn keeper old new b more (question_response question) now response size count h is)
