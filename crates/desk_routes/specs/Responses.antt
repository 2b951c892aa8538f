-- What a turn is answered: the status, the media type and the body.
use Rattle.std.specs.Prelude.{ℕ, Bool, true, false, [], codes, Option, Some, None}
use Rattle.news_types.specs.declared.denial.Denial.{Denial}
use Rattle.news_types.specs.declared.denial.Denial.TheVariants.{UnknownUser, NoPrivilege, UnknownThing, NotMember}
use Rattle.news_types.specs.declared.entry.Reply.{Reply}
use Rattle.news_types.specs.declared.query.Answer.{Answer}
use Rattle.news_types.specs.declared.query.Answer.TheVariants as told
use Rattle.news_types.specs.Names.{Bytes}
use Rattle.news_types.specs.Outcome.{Answered, Done, Repeat, Denied}
use Rattle.desk_answers.specs.Answers.{reply_bytes, denial_bytes, bad_bytes, fault_bytes, answer_bytes}
use Rattle.ninjs_text.specs.declared.fault.NinjsFault.{NinjsFault}
use Rattle.ninjs_text.specs.declared.fault.NinjsFault.TheVariants as fault
use Rattle.ninjs_text.specs.Properties.{property_name}
use Rattle.desk_routes.specs.declared.ask.Refusal.{Refusal}
use Rattle.desk_routes.specs.declared.ask.Refusal.TheVariants.{NoRoute, NoCaller, BadPath, BadBody, BadItem, TooMany, Memory}
use Rattle.desk_routes.specs.declared.response.Media.{Media}
use Rattle.desk_routes.specs.declared.response.Media.TheVariants.{Json, Octets, Metrics}
use Rattle.desk_routes.specs.declared.response.Response.{Response}
use Rattle.desk_routes.specs.declared.response.Notice.{Notice}
use Rattle.desk_routes.specs.declared.response.Notice.TheVariants as notice

abbrev pub media_text : Media → Bytes
media_text Json = codes "application/json"
media_text Octets = codes "application/octet-stream"
media_text Metrics = codes "text/plain; version=0.0.4"

abbrev pub told_as : ℕ → Bytes → Response
told_as status body = record { status = status; media = Json; body = body }

-- without a body
abbrev pub bare : ℕ → Response
bare status = told_as status []

-- the metrics as they are
abbrev pub metrics_response : Bytes → Response
metrics_response body = record { status = 200; media = Metrics; body = body }

-- ---- what the room says

-- 403 where it is about the caller: no user, a user without the privilege, no member of the desk; 404 where a thing is not
-- there
abbrev pub denial_status : Denial → ℕ
denial_status UnknownUser = 403
denial_status (NoPrivilege privilege) = 403
denial_status (NotMember desk) = 403
denial_status (UnknownThing thing) = 404
denial_status _ = 409

-- what is done, or was done before
abbrev pub reply_response : Reply → Bool → Response
reply_response reply repeat = told_as 200 (reply_bytes reply repeat)

abbrev pub denial_response : Denial → Response
denial_response denial = told_as (denial_status denial) (denial_bytes denial)

-- to a request, a receipt and an ingest
abbrev pub answered_response : Answered → Response
answered_response (Done reply) = reply_response reply false
answered_response (Repeat reply) = reply_response reply true
answered_response (Denied denial) = denial_response denial

-- 404 where there is no such publication
abbrev pub answer_status : Answer → ℕ
answer_status (told.NoPublication count) = 404
answer_status _ = 200

-- an answer that has a line
abbrev pub line_response : Answer → Response
line_response answer = told_as (answer_status answer) (answer_bytes answer)

-- to a question: a frame as it is, and 404 where there is no such thing, publication or frame
abbrev pub answer_response : Answer → Response
answer_response (told.Frame bytes) = record { status = 200; media = Octets; body = bytes }
answer_response (told.NoFrame length) = bare 404
answer_response (told.Unknown thing) = denial_response (UnknownThing thing)
answer_response answer = line_response answer

-- ---- what is refused before the room is asked

abbrev pub fault_word : NinjsFault → Bytes
fault_word fault.NotJson = codes "NotJson"
fault_word fault.NotObject = codes "NotObject"
fault_word fault.NoUri = codes "NoUri"
fault_word (fault.WrongType property) = codes "WrongType"
fault_word (fault.TooLong property) = codes "TooLong"
fault_word fault.Memory = codes "Memory"

-- the property that a fault is of
abbrev pub fault_property : NinjsFault → Option Bytes
fault_property (fault.WrongType property) = Some (property_name property)
fault_property (fault.TooLong property) = Some (property_name property)
fault_property _ = None

abbrev pub refusal_response : Refusal → Response
refusal_response NoRoute = bare 404
refusal_response NoCaller = bare 400
refusal_response BadPath = bare 400
refusal_response (BadBody property) = told_as 400 (bad_bytes property)
refusal_response (BadItem found) = told_as 400 (fault_bytes None (fault_word found) (fault_property found))
refusal_response TooMany = bare 413
refusal_response Memory = bare 507

-- ---- what has no body

abbrev pub notice_status : Notice → ℕ
-- the caller has not the right
notice_status notice.Forbidden = 403
-- the room could not keep an entry
notice_status notice.Full = 508
notice_status notice.Fault = 503
notice_status notice.NoMemory = 507
-- no request could be read
notice_status notice.HeadFault = 400
notice_status notice.TooLarge = 413
notice_status notice.Chunked = 501

abbrev pub notice_response : Notice → Response
notice_response given = bare (notice_status given)
