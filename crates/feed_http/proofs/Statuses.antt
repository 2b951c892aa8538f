-- The status of each outcome.
use Rattle.std.proofs.Common.{◌≡◌, ◌⊎◌, inl, inr, ℕ, Bool, true, false, cond, List, [], ◌∷◌, ◌++◌, Option, Some, None, Ok, Err, refl, sym, ap, ◌∙◌, subst}
use Rattle.std.proofs.lemmas.Bool.{false≢true}
use Rattle.std.specs.Prelude.{Result, ◌==◌, nat_le, length}
use Rattle.std.proofs.lemmas.List.{append-nil}
use Rattle.news_types.specs.declared.entry.Entry.{Entry}
use Rattle.news_types.specs.declared.entry.Act.TheVariants.{Advance}
use Rattle.news_types.specs.declared.command.Command.TheVariants.{Flash}
use Rattle.news_types.specs.declared.denial.Denial.{Denial}
use Rattle.news_types.specs.declared.denial.Denial.TheVariants.{UnknownUser, NoPrivilege, UnknownThing, NotMember}
use Rattle.news_types.specs.declared.query.Answer.{Answer as Told}
use Rattle.news_types.specs.declared.query.Answer.TheVariants as told
use Rattle.news_types.specs.History.{History, moment_at}
use Rattle.news_types.specs.Names.{Bytes}
use Rattle.news_types.specs.Frames.{Writer, frame_bytes_at}
use Rattle.news_types.specs.Answers.{query_answer}
use Rattle.news_types.specs.Legal.{some_waits}
use Rattle.news_types.specs.Calls.{entry_if, ticked}
use Rattle.news_types.specs.Outcome.{Answered, Done, Repeat, Denied, request_at, ingest_at, receipt_at}
use Rattle.ninjs_text.specs.declared.fault.NinjsFault.{NinjsFault}
use Rattle.news_types.specs.declared.story.Incoming.{Incoming}
use Rattle.desk_lines.specs.declared.asked.Asked.{Asked}
use Rattle.desk_lines.specs.declared.property.LineProperty.{LineProperty}
use Rattle.desk_lines.specs.declared.lines.PackageRequest.{PackageRequest}
use Rattle.desk_lines.specs.Forms.{among}
use Rattle.desk_lines.specs.Words.{register_words}
use Rattle.desk_lines.specs.Lines.{request_body, receipt_body, archive_body, package_body, reach_body}
use Rattle.archive_search.specs.declared.told.Told as archive
use Rattle.archive_search.specs.declared.told.Told.TheVariants.{Found, Refused}
use Rattle.archive_search.specs.Told.{archive_told}
use Rattle.package_rules.specs.Composed.{Composed}
use Rattle.package_rules.specs.Readers.{readers}
use Rattle.ninjs_text.specs.Item.{ninjs}
use Rattle.feed_frames.specs.Writer.{the_writer}
use Rattle.news_room.specs.Beside.{Beside}
use Rattle.news_room.specs.Stands.{limit_for}
use Rattle.news_room.specs.Steps.{entries, Given}
use Rattle.command_words.specs.declared.words.IngestFormat.{IngestFormat}
use Rattle.command_words.specs.declared.words.IngestFormat.TheVariants as format
use Rattle.wire_bodies.specs.declared.member.BodyMember.{BodyMember}
use Rattle.wire_bodies.specs.Bodies.{members_of}
use Rattle.http_wire.specs.declared.request.HttpRequest.{HttpRequest}
use Rattle.desk_routes.specs.declared.route.Route.{Route}
use Rattle.desk_routes.specs.declared.route.Route.TheVariants as the
use Rattle.desk_routes.specs.declared.ask.HttpAsk.{HttpAsk}
use Rattle.desk_routes.specs.declared.ask.HttpAsk.TheVariants as ask
use Rattle.desk_routes.specs.declared.ask.HttpAsked.{HttpAsked}
use Rattle.desk_routes.specs.declared.ask.RoomAsk.{RoomAsk}
use Rattle.desk_routes.specs.declared.ask.RoomAsk.TheVariants.{By, Metrics}
use Rattle.desk_routes.specs.declared.ask.Refusal.{Refusal}
use Rattle.desk_routes.specs.declared.ask.Refusal.TheVariants.{NoRoute, NoCaller, BadPath, BadBody, BadItem, TooMany, Memory}
use Rattle.desk_routes.specs.declared.response.Response.{Response}
use Rattle.desk_routes.specs.Asking.{◌>>=◌, or_refused, name_at, number_at, register_at, from_line, from_item, from_package, from_targets, ask_by, asking, few_members, wire_ask, asked_by}
use Rattle.desk_routes.specs.Rights.{right_of, may_ask}
use Rattle.desk_routes.specs.Responses.{denial_status, answered_response, answer_response, refusal_response}
use Rattle.desk_questions.specs.declared.answer.DeskTold as desk
use Rattle.desk_questions.specs.Told.{desk_told}
use Rattle.feed_http.specs.Outcome.{HttpOutcome, Seen, archive_response, desk_response, package_of, flash_outcome, package_outcome, ask_outcome, asking_outcome, asks, of_room, http}
use Rattle.feed_http.specs.Turn.{Comes, whole, full, failed, starved}
use Rattle.feed_http.specs.Laws.{is_given, is_package, asks_package, IsBefore, IsToldBy}

-- ---- no request is refused for want of memory by its definition

abbrev NoMemory : {A : Type 0} → Result A Refusal → Type 0
NoMemory (Ok a) = Unit {0}
NoMemory (Err Memory) = ⊥
NoMemory (Err refusal) = Unit {0}

then_none : {A B : Type 0} (read : Result A Refusal) (next : A → Result B Refusal) → NoMemory read → ((a : A) → NoMemory (next a)) → NoMemory (read >>= next)
then_none (Ok a) next none each = each a
then_none (Err NoRoute) next none each = tt
then_none (Err NoCaller) next none each = tt
then_none (Err BadPath) next none each = tt
then_none (Err (BadBody property)) next none each = tt
then_none (Err (BadItem fault)) next none each = tt
then_none (Err TooMany) next none each = tt
then_none (Err Memory) next none each = none

path_none : {A : Type 0} (found : Option A) → NoMemory (or_refused BadPath found)
path_none None = tt
path_none (Some a) = tt

line_none : (read : Result Asked LineProperty) → NoMemory (from_line read)
line_none (Ok asked) = tt
line_none (Err property) = tt

item_none : (provider : Bytes) (read : Result Incoming NinjsFault) → NoMemory (from_item provider read)
item_none provider (Ok incoming) = tt
item_none provider (Err fault) = tt

package_none : (caller : Bytes) (read : Result PackageRequest LineProperty) → NoMemory (from_package caller read)
package_none caller (Ok request) = tt
package_none caller (Err property) = tt

targets_none : (item : ℕ) (read : Result (List Bytes) LineProperty) → NoMemory (from_targets item read)
targets_none item (Ok targets) = tt
targets_none item (Err property) = tt

register_none : (path : Bytes) → NoMemory (register_at 2 path)
register_none path = then_none (name_at 2 path) _ (path_none _) (λ word. path_none (among register_words word))

ask_none : (route : Route) (caller path body : Bytes) → NoMemory (ask_by route caller path body)
ask_none the.Requests caller path body = line_none (request_body caller body)
ask_none the.Item caller path body = then_none (number_at 2 path) _ (path_none _) (λ item. tt)
ask_none the.Queue caller path body = tt
ask_none the.FeedAfter caller path body = then_none (name_at 2 path) _ (path_none _) (λ s. then_none (number_at 4 path) _ (path_none _) (λ k. tt))
ask_none the.Frame caller path body = then_none (name_at 2 path) _ (path_none _) (λ s. then_none (number_at 4 path) _ (path_none _) (λ k. tt))
ask_none the.Receipts caller path body = then_none (name_at 2 path) _ (path_none _) (λ s. line_none (receipt_body s body))
ask_none the.Ingest caller path body = then_none (name_at 2 path) _ (path_none _) (λ p. item_none p (ninjs body))
ask_none the.Archive caller path body = line_none (archive_body body)
ask_none the.Packages caller path body = package_none caller (package_body body)
ask_none the.Contents caller path body = then_none (number_at 2 path) _ (path_none _) (λ publication. tt)
ask_none the.ItemsBelow caller path body = then_none (number_at 3 path) _ (path_none _) (λ below. tt)
ask_none the.DeskItemsBelow caller path body = then_none (name_at 2 path) _ (path_none _) (λ name. then_none (number_at 5 path) _ (path_none _) (λ below. tt))
ask_none the.Reach caller path body = then_none (number_at 2 path) _ (path_none _) (λ item. tt)
ask_none the.ReachOfTargets caller path body = then_none (number_at 2 path) _ (path_none _) (λ item. targets_none item (reach_body body))
ask_none the.Publication caller path body = then_none (number_at 2 path) _ (path_none _) (λ number. tt)
ask_none the.Things caller path body = then_none (register_at 2 path) _ (register_none path) (λ kind. tt)
ask_none the.ThingsAfter caller path body = then_none (register_at 2 path) _ (register_none path) (λ kind. then_none (name_at 4 path) _ (path_none _) (λ after. tt))
ask_none the.PublicationsAfter caller path body = then_none (number_at 2 path) _ (path_none _) (λ item. then_none (number_at 5 path) _ (path_none _) (λ after. tt))
ask_none the.Wire caller path body = tt
ask_none the.AgencyWire caller path body = tt
ask_none the.AgencyItems caller path body = tt
ask_none the.Metrics caller path body = tt

route_none : (found : Option Route) → NoMemory (or_refused NoRoute found)
route_none None = tt
route_none (Some route) = tt

caller_none : (found : Option Bytes) → NoMemory (or_refused NoCaller found)
caller_none None = tt
caller_none (Some name) = tt

asking_none : (route : Route) (r : HttpRequest) → NoMemory (asking route r)
asking_none route r = then_none (or_refused NoCaller r.user) _ (caller_none r.user) (λ caller. then_none (ask_by route caller r.target r.body) _ (ask_none route caller r.target r.body) (λ asked. tt))

few_or_many : (few : Bool) (members : List BodyMember) → NoMemory (cond {A = Result (List BodyMember) Refusal} few (Ok members) (Err TooMany))
few_or_many true members = tt
few_or_many false members = tt

members_none : (members : List BodyMember) → NoMemory (few_members members)
members_none members = few_or_many (nat_le (length members) 4096) members

wire_none : (given : IngestFormat) (r : HttpRequest) → NoMemory (wire_ask given r)
wire_none given r =
    then_none (or_refused NoCaller r.user) _ (caller_none r.user)
    (λ caller. then_none (name_at 2 r.target) _ (path_none _) (λ provider. then_none (few_members (members_of given r.body)) _ (members_none (members_of given r.body)) (λ members. tt)))

asked_none : (route : Route) (r : HttpRequest) → NoMemory (asked_by route r)
asked_none the.Metrics r = tt
asked_none the.Wire r = then_none (wire_ask format.Wire r) _ (wire_none format.Wire r) (λ w. tt)
asked_none the.AgencyWire r = then_none (wire_ask format.AgencyWire r) _ (wire_none format.AgencyWire r) (λ w. tt)
asked_none the.AgencyItems r = then_none (wire_ask format.AgencyItems r) _ (wire_none format.AgencyItems r) (λ w. tt)
asked_none route r = then_none (asking route r) _ (asking_none route r) (λ a. tt)

read_none : (r : HttpRequest) → NoMemory (asks r)
unfolding asks
read_none r = then_none (or_refused NoRoute _) _ (route_none _) (λ route. asked_none route r)

-- the same of what is asked in one turn
room_none : (read : Result RoomAsk Refusal) → NoMemory (of_room read) → NoMemory read
room_none (Ok a) none = tt
room_none (Err NoRoute) none = tt
room_none (Err NoCaller) none = tt
room_none (Err BadPath) none = tt
room_none (Err (BadBody property)) none = tt
room_none (Err (BadItem fault)) none = tt
room_none (Err TooMany) none = tt
room_none (Err Memory) none = none

-- ---- statuses

abbrev HasStatus : Response → Type 0
HasStatus response = is_given response.status ≡ true

denial_given : (d : Denial) → is_given (denial_status d) ≡ true
denial_given UnknownUser = refl
denial_given (NoPrivilege privilege) = refl
denial_given (NotMember desk) = refl
denial_given (UnknownThing thing) = refl
denial_given _ = refl

answered_given : (a : Answered) → HasStatus (answered_response a)
answered_given (Done reply) = refl
answered_given (Repeat reply) = refl
answered_given (Denied denial) = denial_given denial

told_given : (t : Told) → HasStatus (answer_response t)
told_given (told.Frame bytes) = refl
told_given (told.NoFrame length) = refl
told_given (told.Unknown thing) = refl
told_given (told.NoPublication count) = refl
told_given _ = refl

refusal_given : (refusal : Refusal) → NoMemory {A = RoomAsk} (Err refusal) → HasStatus (refusal_response refusal)
refusal_given NoRoute none = refl
refusal_given NoCaller none = refl
refusal_given BadPath none = refl
refusal_given (BadBody property) none = refl
refusal_given (BadItem fault) none = refl
refusal_given TooMany none = refl
refusal_given Memory none = absurd none

found_given : (t : archive.Told) → HasStatus (archive_response t)
found_given (Found bytes) = refl
found_given (Refused bytes) = refl

desk_given : (t : desk.DeskTold) → HasStatus (desk_response t)
desk_given (desk.DeskTold.Found bytes) = refl
desk_given (desk.DeskTold.Unknown thing) = refl

flash_given : (write : Writer) (g : History) (m : ℕ) (caller : Bytes) (number : ℕ) (p : Composed) (to : List Bytes) → HasStatus (flash_outcome write g m caller number p to).response
flash_given write g m caller number p [] = refl
flash_given write g m caller number p (reader ∷ more) = answered_given (request_at g caller number (Flash p.story (reader ∷ more)) m).answer

ask_given : (store : Bytes) (h : History) (a : HttpAsk) (m : ℕ) → HasStatus (ask_outcome store h a m).response
unfolding ask_outcome package_outcome
ask_given store h (ask.Request caller number command) m = answered_given (request_at h caller number command m).answer
ask_given store h (ask.Query question) m = told_given (query_answer (frame_bytes_at (the_writer store) (ticked h m)) (ticked h m) question)
ask_given store h (ask.Receipt subscriber n) m = answered_given (receipt_at h subscriber n m).answer
ask_given store h (ask.Ingest provider incoming) m = answered_given (ingest_at h provider incoming m).answer
ask_given store h (ask.Archive page query) m = found_given (archive_told (ticked h m) page query)
ask_given store h (ask.Package caller number described) m =
    flash_given (the_writer store) (ticked h m) m caller number (package_of described) (readers (ticked h m) (package_of described).members)
ask_given store h (ask.Contents publication) m = refl
ask_given store h (ask.Desk question) m = desk_given (desk_told (ticked h m) question)

either_given : (b : Bool) (o p : HttpOutcome) → HasStatus o.response → HasStatus p.response → HasStatus (cond b o p).response
either_given true o p one other = one
either_given false o p one other = other

http_given : (store : Bytes) (h : History) (read : Result RoomAsk Refusal) (reading : ℕ) (seen : Seen) → NoMemory read → HasStatus (http store h read reading seen).response
unfolding http asking_outcome
http_given store h (Ok (By a)) reading seen none = either_given (may_ask h a.caller (right_of a.ask)) _ _ (ask_given store h a.ask (moment_at h reading)) refl
http_given store h (Ok Metrics) reading seen none = refl
http_given store h (Err refusal) reading seen none = refusal_given refusal none

pub outcome_given : (store : Bytes) (h : History) (request : HttpRequest) (read : Result RoomAsk Refusal) (reading : ℕ) (seen : Seen) → asks request ≡ of_room read → HasStatus (http store h read reading seen).response
outcome_given store h request read reading seen is = http_given store h read reading seen (room_none read (subst (λ (x : Result HttpAsked Refusal). NoMemory x) is (read_none request)))

-- where there was no memory to read what is asked
abbrev IsUnread : Response → Type 0
IsUnread response = response.status ≡ 507

given_or_unread : (store : Bytes) (h : History) (read : Result RoomAsk Refusal) (reading : ℕ) (seen : Seen) → HasStatus (http store h read reading seen).response ⊎ IsUnread (http store h read reading seen).response
unfolding http
given_or_unread store h (Ok a) reading seen = inl (http_given store h (Ok a) reading seen tt)
given_or_unread store h (Err NoRoute) reading seen = inl refl
given_or_unread store h (Err NoCaller) reading seen = inl refl
given_or_unread store h (Err BadPath) reading seen = inl refl
given_or_unread store h (Err (BadBody property)) reading seen = inl refl
given_or_unread store h (Err (BadItem fault)) reading seen = inl refl
given_or_unread store h (Err TooMany) reading seen = inl refl
given_or_unread store h (Err Memory) reading seen = inr refl

-- ---- at most one entry follows, or of a package two: the first is its tick's

abbrev HasFew : Bool → List Entry → Type 0
HasFew package_asked [] = Unit {0}
HasFew package_asked (e ∷ []) = Unit {0}
HasFew package_asked (e ∷ f ∷ []) = (package_asked ≡ true) × (e.act ≡ Advance)
HasFew package_asked (e ∷ f ∷ g ∷ rest) = ⊥

entries_few : (b : Bool) (o : Option Entry) → HasFew b (entries o)
entries_few b None = tt
entries_few b (Some e) = tt

-- behind a tick
tick_few : (waits : Bool) (m : ℕ) (o : Option Entry) → HasFew true (entries (entry_if waits m Advance) ++ entries o)
tick_few true m None = tt
tick_few true m (Some e) = (refl, refl)
tick_few false m None = tt
tick_few false m (Some e) = tt

flash_few : (write : Writer) (waits : Bool) (g : History) (m : ℕ) (caller : Bytes) (number : ℕ) (p : Composed) (to : List Bytes) → HasFew true (entries (entry_if waits m Advance) ++ (flash_outcome write g m caller number p to).adds)
flash_few write waits g m caller number p [] = tick_few waits m None
flash_few write waits g m caller number p (reader ∷ more) = tick_few waits m (request_at g caller number (Flash p.story (reader ∷ more)) m).more

ask_few : (store : Bytes) (h : History) (a : HttpAsk) (m : ℕ) → HasFew (is_package a) (ask_outcome store h a m).adds
unfolding ask_outcome package_outcome
ask_few store h (ask.Request caller number command) m = entries_few false _
ask_few store h (ask.Query question) m = entries_few false _
ask_few store h (ask.Receipt subscriber n) m = entries_few false _
ask_few store h (ask.Ingest provider incoming) m = entries_few false _
ask_few store h (ask.Archive page query) m = entries_few false _
ask_few store h (ask.Package caller number described) m =
    flash_few (the_writer store) (some_waits h m) (ticked h m) m caller number (package_of described) (readers (ticked h m) (package_of described).members)
ask_few store h (ask.Contents publication) m = entries_few false _
ask_few store h (ask.Desk question) m = entries_few false _

either_few : (package_asked b : Bool) (o p : HttpOutcome) → HasFew package_asked o.adds → HasFew package_asked p.adds → HasFew package_asked (cond b o p).adds
either_few package_asked true o p one other = one
either_few package_asked false o p one other = other

http_few : (store : Bytes) (h : History) (read : Result RoomAsk Refusal) (reading : ℕ) (seen : Seen) → HasFew (asks_package read) (http store h read reading seen).adds
unfolding http asking_outcome
http_few store h (Ok (By a)) reading seen = either_few (is_package a.ask) (may_ask h a.caller (right_of a.ask)) _ _ (ask_few store h a.ask (moment_at h reading)) tt
http_few store h (Ok Metrics) reading seen = tt
http_few store h (Err refusal) reading seen = tt

-- before the last of them
before_one : (b : Bool) (more : List Entry) (next : Entry) (rest : List Entry) → HasFew b (more ++ next ∷ rest) → IsBefore b more
before_one b [] next rest few = tt
before_one b (e ∷ []) next [] few = few
before_one b (e ∷ []) next (f ∷ rest) few = absurd few
before_one b (e ∷ f ∷ []) next rest few = absurd few
before_one b (e ∷ f ∷ g ∷ more) next rest few = absurd few

before_next : (b : Bool) (should more : List Entry) (next : Entry) (rest : List Entry) → HasFew b should → should ≡ more ++ next ∷ rest → IsBefore b more
before_next b should more next rest few is = before_one b more next rest (subst (HasFew b) is few)

all_or_before : (b : Bool) (should more rest : List Entry) → HasFew b should → should ≡ more ++ rest → (rest ≡ []) ⊎ IsBefore b more
all_or_before b should more [] few is = inl refl
all_or_before b should more (next ∷ rest) few is = inr (before_next b should more next rest few is)

-- ---- what a status tells

apart : (s k : ℕ) → is_given s ≡ true → s ≡ k → is_given k ≡ false → ⊥
apart s k given is not = let e : is_given k ≡ true = subst (λ (x : ℕ). is_given x ≡ true) is given in cc

-- a status that is one is not the other, where a test tells them apart
differs : (test : ℕ → Bool) (s i k : ℕ) → s ≡ i → s ≡ k → test i ≡ true → test k ≡ false → ⊥
differs test s i k one other holds fails = false≢true (sym fails ∙ ap test (sym other ∙ one) ∙ holds)

tells : (b : Bool) (n : Beside) (o : HttpOutcome) (more : List Entry) (response : Response) → HasStatus o.response ⊎ IsUnread o.response → HasFew b o.adds → Comes n o more response → IsToldBy b n o more response
tells b n o more response (inr unread) few (whole is given) =
    let s : response.status ≡ 507 = ap (λ (r : Response). r.status) is ∙ unread in
    record {
      given = λ t. absurd (apart response.status 507 t s refl);
      full = λ t. absurd (differs (λ x. x == 507) response.status 507 508 s t refl refl);
      failed = λ t. absurd (differs (λ x. x == 507) response.status 507 503 s t refl refl);
      starved = λ t. record {
        rest = [];
        is = sym given.whole.is ∙ sym (append-nil more);
        before = inl refl;
        given = subst (λ (l : List Entry). Given n (limit_for o.adds) l more) (sym given.whole.is) given;
      };
      each = inr (inr s);
    }
tells b n o more response (inl status) few (whole is given) =
    let s : HasStatus response = subst HasStatus (sym is) status in
    record {
      given = λ t. (is, given);
      full = λ t. absurd (apart response.status 508 s t refl);
      failed = λ t. absurd (apart response.status 503 s t refl);
      starved = λ t. absurd (apart response.status 507 s t refl);
      each = inl (inl s);
    }
tells b n o more response status few (full size count is refused) =
    let s : response.status ≡ 508 = ap (λ (r : Response). r.status) is in
    record {
      given = λ t. absurd (apart response.status 508 t s refl);
      full = λ t. record { before = before_next b o.adds more refused.next refused.rest few refused.is; size = size; count = count; refused = refused };
      failed = λ t. absurd (differs (λ x. x == 508) response.status 508 503 s t refl refl);
      starved = λ t. absurd (differs (λ x. x == 508) response.status 508 507 s t refl refl);
      each = inl (inr s);
    }
tells b n o more response status few (failed is lost) =
    let s : response.status ≡ 503 = ap (λ (r : Response). r.status) is in
    record {
      given = λ t. absurd (apart response.status 503 t s refl);
      full = λ t. absurd (differs (λ x. x == 503) response.status 503 508 s t refl refl);
      failed = λ t. record { before = before_next b o.adds more lost.next lost.rest few lost.is; failed = lost };
      starved = λ t. absurd (differs (λ x. x == 503) response.status 503 507 s t refl refl);
      each = inr (inl s);
    }
tells b n o more response status few (starved rest is first given) =
    let s : response.status ≡ 507 = ap (λ (r : Response). r.status) is in
    record {
      given = λ t. absurd (apart response.status 507 t s refl);
      full = λ t. absurd (differs (λ x. x == 507) response.status 507 508 s t refl refl);
      failed = λ t. absurd (differs (λ x. x == 507) response.status 507 503 s t refl refl);
      starved = λ t. record { rest = rest; is = first; before = all_or_before b o.adds more rest few first; given = given };
      each = inr (inr s);
    }

pub statuses_tell : (n : Beside) (store : Bytes) (h : History) (read : Result RoomAsk Refusal) (reading : ℕ) (seen : Seen) (more : List Entry) (response : Response) → Comes n (http store h read reading seen) more response
    → IsToldBy (asks_package read) n (http store h read reading seen) more response
statuses_tell n store h read reading seen more response came = tells (asks_package read) n (http store h read reading seen) more response (given_or_unread store h read reading seen) (http_few store h read reading seen) came
