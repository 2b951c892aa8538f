-- What a request, an ingest and a receipt are answered, and which entry follows the list.
use Rattle.std.specs.Prelude.{ℕ, ◌+◌, nat_lt, [], ◌∷◌, length, if◌then◌else◌, Option, Some, None}
use Rattle.news_types.specs.declared.entry.Entry.{Entry}
use Rattle.news_types.specs.declared.entry.Act.{Act}
use Rattle.news_types.specs.declared.entry.Act.TheVariants.{Receipt, Ingest, Request}
use Rattle.news_types.specs.declared.entry.Reply.{Reply}
use Rattle.news_types.specs.declared.command.Command.{Command}
use Rattle.news_types.specs.declared.command.Command.TheVariants.{Create, Flash}
use Rattle.news_types.specs.declared.denial.Denial.{Denial}
use Rattle.news_types.specs.declared.story.Incoming.{Incoming}
use Rattle.news_types.specs.Names.{Bytes, same}
use Rattle.news_types.specs.History.{History, moment_at, last}
use Rattle.news_types.specs.Items.{Effect, New, NewAt, Replaces, Cancels, Settled, named_item}
use Rattle.news_types.specs.Publications.{Issue, made, item_count, pubs, issued_by, effect}
use Rattle.news_types.specs.Delivery.{acked}
use Rattle.news_types.specs.Denial.{command_denial, turn_denial, is_repeat, ingest_denial, receipt_denial}

-- ---- replies

-- the item that a command makes, or names, or 0
abbrev pub item_of_command : History → Command → ℕ
item_of_command h (Create desk story) = item_count h + 1
item_of_command h (Flash story targets) = item_count h + 1
item_of_command h command = named_item command

abbrev pub item_of_effect : History → Effect → ℕ
item_of_effect h New = item_count h + 1
item_of_effect h (NewAt place published) = item_count h + 1
item_of_effect h (Replaces i) = i
item_of_effect h (Cancels i) = i
item_of_effect h (Settled i) = i

abbrev pub item_of : History → ℕ → Act → ℕ
item_of h m (Request caller number command) = item_of_command h command
item_of h m (Ingest name come) = item_of_effect h (effect h name come m)
item_of h m _ = 0

-- the number and the release of what is published
abbrev pub with_issue : Option Issue → History → ℕ → Reply
with_issue None h i = record { entry = length h + 1; item = i; publication = 0; release = 0 }
with_issue (Some issue) h i = record { entry = length h + 1; item = i; publication = length (pubs h) + 1; release = issue.release }

-- the reply to an act that is kept behind the list
abbrev pub reply_to : History → ℕ → Act → Reply
reply_to h m act = with_issue (issued_by h (made h) m act) h (item_of h m act)

-- the reply to what keeps no entry
abbrev pub no_entry : ℕ → Reply
no_entry i = record { entry = 0; item = i; publication = 0; release = 0 }

abbrev pub replied_after : Bytes → Act → Reply → Reply → Reply
replied_after name (Request caller number command) given before = if same caller name then given else before
replied_after name _ given before = before

-- the reply that was given at the caller's newest request
abbrev pub last_reply : History → Bytes → Reply
last_reply [] name = no_entry 0
last_reply (e ∷ h) name = replied_after name e.act (reply_to h e.moment e.act) (last_reply h name)

-- ---- outcomes

-- an answer, and the entry that follows the list, if one does
pub data Answered : Type 0 where
  Done : Reply → Answered
  Repeat : Reply → Answered
  Denied : Denial → Answered

pub record Outcome (A : Type 0) : Type 0 where
  pub answer : A
  pub more : Option Entry

abbrev pub entry_of : ℕ → Act → Entry
entry_of m act = record { moment = m; act = act }

-- a request, an ingest and a receipt

abbrev pub refused : Denial → Outcome Answered
refused reason = record { answer = Denied reason; more = None }

abbrev pub kept : History → ℕ → Act → Outcome Answered
kept h m act = record { answer = Done (reply_to h m act); more = Some (entry_of m act) }

abbrev pub kept_unless : Option Denial → Outcome Answered → Outcome Answered
kept_unless None result = result
kept_unless (Some reason) result = refused reason

abbrev pub request_at : History → Bytes → ℕ → Command → ℕ → Outcome Answered
request_at h caller number command m =
    kept_unless (turn_denial (last h caller) number command)
    (if is_repeat (last h caller) number command
    then record { answer = Repeat (last_reply h caller); more = None }
    else kept_unless (command_denial h caller command m) (kept h m (Request caller number command)))

abbrev pub request : History → Bytes → ℕ → Command → ℕ → Outcome Answered
request h caller number command reading = request_at h caller number command (moment_at h reading)

abbrev pub ingested : History → Bytes → Incoming → ℕ → Effect → Outcome Answered
ingested h name come m (Settled i) = record { answer = Done (no_entry i); more = None }
ingested h name come m _ = kept h m (Ingest name come)

abbrev pub ingest_at : History → Bytes → Incoming → ℕ → Outcome Answered
ingest_at h name come m = kept_unless (ingest_denial h name come m) (ingested h name come m (effect h name come m))

abbrev pub ingest : History → Bytes → Incoming → ℕ → Outcome Answered
ingest h name come reading = ingest_at h name come (moment_at h reading)

abbrev pub receipt_at : History → Bytes → ℕ → ℕ → Outcome Answered
receipt_at h s n m =
    kept_unless (receipt_denial h s n)
    (if nat_lt (acked h s) n then kept h m (Receipt s n) else record { answer = Done (no_entry 0); more = None })

abbrev pub receipt : History → Bytes → ℕ → ℕ → Outcome Answered
receipt h s n reading = receipt_at h s n (moment_at h reading)
