-- Each outcome, by what is asked.
use Rattle.std.proofs.Common.{◌≡◌, ℕ, cond, List, [], ◌∷◌, length, Ok, Err, refl, ap, ◌∙◌}
use Rattle.news_types.specs.declared.command.Command.{Command}
use Rattle.news_types.specs.declared.command.Command.TheVariants.{Flash}
use Rattle.news_types.specs.declared.story.Incoming.{Incoming}
use Rattle.news_types.specs.declared.query.Query.{Query}
use Rattle.news_types.specs.declared.query.Answer.{Answer as Told}
use Rattle.news_types.specs.Names.{Bytes}
use Rattle.news_types.specs.History.{History, moment_at}
use Rattle.news_types.specs.Frames.{Writer, frame_bytes_at}
use Rattle.news_types.specs.Answers.{query_answer}
use Rattle.news_types.specs.Outcome.{Outcome, request_at, ingest_at, receipt_at}
use Rattle.news_types.specs.Outcome as outcome
use Rattle.news_types.specs.Calls.{ticked}
use Rattle.feed_frames.specs.Writer.{the_writer}
use Rattle.news_room.specs.Steps.{tick_entries, entries}
use Rattle.package_rules.specs.Composed.{Composed}
use Rattle.package_rules.specs.Readers.{readers}
use Rattle.package_rules.specs.Publishing.{flash_of}
use Rattle.desk_views.specs.declared.question.DeskQuestion.{DeskQuestion}
use Rattle.server_metrics.specs.Metrics.{metrics}
use Rattle.desk_lines.specs.declared.lines.Described.{Described}
use Rattle.desk_routes.specs.declared.ask.HttpAsk.TheVariants as ask
use Rattle.desk_routes.specs.declared.ask.Asking.{Asking}
use Rattle.desk_routes.specs.declared.ask.RoomAsk.TheVariants.{By, Metrics}
use Rattle.desk_routes.specs.declared.ask.Refusal.{Refusal}
use Rattle.desk_routes.specs.declared.response.Response.{Response}
use Rattle.desk_routes.specs.declared.response.Notice.TheVariants as notice
use Rattle.desk_routes.specs.Rights.{right_of, may_ask}
use Rattle.desk_routes.specs.Responses.{answered_response, answer_response, refusal_response, metrics_response, notice_response}
use Rattle.feed_http.specs.Outcome.{HttpOutcome, Seen, search_response, contents_response, question_response, no_readers_response, package_of, flash_outcome, package_outcome, with_tick, told_behind, ask_outcome, asking_outcome, unasked, http}

abbrev pub replied : Outcome outcome.Answered → HttpOutcome
replied o = record { response = answered_response o.answer; adds = entries o.more }

pub requested : (store : Bytes) (h : History) (caller : Bytes) (number : ℕ) (command : Command) (m : ℕ) → ask_outcome store h (ask.Request caller number command) m ≡ replied (request_at h caller number command m)
unfolding ask_outcome
requested store h caller number command m = refl

pub ingested : (store : Bytes) (h : History) (provider : Bytes) (incoming : Incoming) (m : ℕ) → ask_outcome store h (ask.Ingest provider incoming) m ≡ replied (ingest_at h provider incoming m)
unfolding ask_outcome
ingested store h provider incoming m = refl

pub received : (store : Bytes) (h : History) (subscriber : Bytes) (n m : ℕ) → ask_outcome store h (ask.Receipt subscriber n) m ≡ replied (receipt_at h subscriber n m)
unfolding ask_outcome
received store h subscriber n m = refl

-- the response to a question at a list
unfoldable pub answer_to : Writer → History → Query → Response
answer_to write h question = answer_response (query_answer (frame_bytes_at write h) h question)

pub answer_is : (write : Writer) (h : History) (question : Query) (told : Told) → told ≡ query_answer (frame_bytes_at write h) h question → answer_response told ≡ answer_to write h question
unfolding answer_to
answer_is write h question told is = ap answer_response is

abbrev pub questioned : Writer → History → ℕ → Query → HttpOutcome
questioned write h m question = record { response = answer_to write (ticked h m) question; adds = tick_entries h m }

pub asked : (store : Bytes) (h : History) (question : Query) (m : ℕ) → ask_outcome store h (ask.Query question) m ≡ questioned (the_writer store) h m question
unfolding ask_outcome answer_to
asked store h question m = refl

pub searches : (store : Bytes) (h : History) (page : ℕ) (query : Bytes) (m : ℕ) → ask_outcome store h (ask.Archive page query) m ≡ told_behind h m (search_response page query)
unfolding ask_outcome
searches store h page query m = refl

pub holds : (store : Bytes) (h : History) (publication m : ℕ) → ask_outcome store h (ask.Contents publication) m ≡ told_behind h m (contents_response store publication)
unfolding ask_outcome
holds store h publication m = refl

pub questions : (store : Bytes) (h : History) (question : DeskQuestion) (m : ℕ) → ask_outcome store h (ask.Desk question) m ≡ told_behind h m (question_response question)
unfolding ask_outcome
questions store h question m = refl

pub packages : (store : Bytes) (h : History) (caller : Bytes) (number : ℕ) (described : Described) (m : ℕ) → ask_outcome store h (ask.Package caller number described) m ≡ with_tick h m (package_outcome (the_writer store) (ticked h m) m caller number (package_of described))
unfolding ask_outcome
packages store h caller number described m = refl

by_readers : (write : Writer) (g : History) (m : ℕ) (caller : Bytes) (number : ℕ) (p : Composed) → package_outcome write g m caller number p ≡ flash_outcome write g m caller number p (readers g p.members)
unfolding package_outcome
by_readers write g m caller number p = refl

-- nobody has every member
pub without_readers : (write : Writer) (g : History) (m : ℕ) (caller : Bytes) (number : ℕ) (p : Composed) → readers g p.members ≡ [] → package_outcome write g m caller number p ≡ unasked (no_readers_response (length g))
without_readers write g m caller number p none = by_readers write g m caller number p ∙ ap (λ (to : List Bytes). flash_outcome write g m caller number p to) none

flashed_to : (write : Writer) (g : History) (m : ℕ) (caller : Bytes) (number : ℕ) (p : Composed) (to : List Bytes) → (to ≡ [] → ⊥) → flash_outcome write g m caller number p to ≡ replied (request_at g caller number (Flash p.story to) m)
flashed_to write g m caller number p [] some = absurd (some refl)
flashed_to write g m caller number p (reader ∷ more) some = refl

-- the flash to the readers
pub with_readers : (write : Writer) (g : History) (m : ℕ) (caller : Bytes) (number : ℕ) (p : Composed) → (readers g p.members ≡ [] → ⊥) → package_outcome write g m caller number p ≡ replied (request_at g caller number (flash_of p g) m)
with_readers write g m caller number p some = by_readers write g m caller number p ∙ flashed_to write g m caller number p (readers g p.members) some

pub judged : (store : Bytes) (h : History) (a : Asking) (m : ℕ) → asking_outcome store h a m ≡ cond (may_ask h a.caller (right_of a.ask)) (ask_outcome store h a.ask m) (unasked (notice_response notice.Forbidden))
unfolding asking_outcome
judged store h a m = refl

pub http_by : (store : Bytes) (h : History) (a : Asking) (reading : ℕ) (seen : Seen) → http store h (Ok (By a)) reading seen ≡ asking_outcome store h a (moment_at h reading)
unfolding http
http_by store h a reading seen = refl

pub http_metrics : (store : Bytes) (h : History) (reading : ℕ) (seen : Seen) → http store h (Ok Metrics) reading seen ≡ unasked (metrics_response (metrics h reading seen.size seen.counts))
unfolding http
http_metrics store h reading seen = refl

pub http_err : (store : Bytes) (h : History) (refusal : Refusal) (reading : ℕ) (seen : Seen) → http store h (Err refusal) reading seen ≡ unasked (refusal_response refusal)
unfolding http
http_err store h refusal reading seen = refl
