-- What a call is answered, and which entry follows.
use Rattle.std.specs.Prelude.{ℕ, suc, ◌+◌, Bool, true, false, List, [], ◌∷◌, length, if◌then◌else◌, nat_le, Option, Some, None}
use Rattle.news_types.specs.declared.entry.Entry.{Entry}
use Rattle.news_types.specs.declared.entry.Act.{Act}
use Rattle.news_types.specs.declared.entry.Act.TheVariants.{Advance, Attempt, Halt}
use Rattle.news_types.specs.declared.command.Command.{Command}
use Rattle.news_types.specs.declared.story.Incoming.{Incoming}
use Rattle.news_types.specs.declared.query.Query.{Query}
use Rattle.news_types.specs.declared.query.Answer.{Answer as Told}
use Rattle.news_types.specs.declared.query.Ready.{Ready}
use Rattle.news_types.specs.declared.query.Ready.TheVariants.{Now, Later}
use Rattle.news_types.specs.Names.{Bytes}
use Rattle.news_types.specs.History.{History}
use Rattle.news_types.specs.Delivery.{choice}
use Rattle.news_types.specs.Legal.{some_waits}
use Rattle.news_types.specs.Outcome.{Answered, Done, entry_of, request_at, ingest_at, receipt_at}
use Rattle.news_types.specs.Answers.{query_answer as told}
use Rattle.news_types.specs.Frames.{Frame, Writer, frame_at, frame_bytes_at}

-- a call of the core
pub data Call : Type 0 where
  Requested : Bytes → ℕ → Command → Call
  Ingested : Bytes → Incoming → Call
  Receipted : Bytes → ℕ → Call
  Ticked : Call
  Halted : Call
  Asked : Query → Call
  Claimed : List Bytes → Call

-- an answer. The last three are no answers of the list
pub data Answer : Type 0 where
  Replied : Answered → Answer
  Kept : ℕ → Answer
  Still : Answer
  Job : Bytes → ℕ → Option Frame → ℕ → Answer
  Idle : Option ℕ → Answer
  Tells : Told → Answer
  Full : Answer
  Fault : Answer
  Memory : Answer

-- the number of the entry that an answer says was kept, or 0
abbrev pub place_of_reply : Answered → ℕ
place_of_reply (Done reply) = reply.entry
place_of_reply _ = 0

abbrev pub place_of : Answer → ℕ
place_of (Replied answered) = place_of_reply answered
place_of (Kept n) = n
place_of (Job s k frame n) = n
place_of _ = 0

abbrev pub is_done_reply : Answered → Bool
is_done_reply (Done reply) = true
is_done_reply _ = false

abbrev pub is_done : Answer → Bool
is_done (Replied answered) = is_done_reply answered
is_done _ = false

abbrev pub entry_if : Bool → ℕ → Act → Option Entry
entry_if b m act = if b then Some (entry_of m act) else None

abbrev pub attempt_of : ℕ → Ready → Option Entry
attempt_of m (Now s k) = Some (entry_of m (Attempt s k))
attempt_of m (Later next) = None

-- the entry that follows a list behind a call at a moment; of a claim the one behind its tick
abbrev pub follow : History → Call → ℕ → Option Entry
follow h (Requested caller number command) m = (request_at h caller number command m).more
follow h (Ingested name come) m = (ingest_at h name come m).more
follow h (Receipted s n) m = (receipt_at h s n m).more
follow h Ticked m = entry_if (some_waits h m) m Advance
follow h Halted m = Some (entry_of m Halt)
follow h (Asked query) m = None
follow h (Claimed names) m = attempt_of m (choice h names m)

abbrev pub more : Option Entry → History → History
more None h = h
more (Some e) h = e ∷ h

-- the list behind a tick
abbrev pub ticked : History → ℕ → History
ticked h m = more (follow h Ticked m) h

abbrev pub job : Writer → History → Ready → Answer
job write g (Now s k) = Job s k (frame_at write g s k) (length g + 1)
job write g (Later next) = Idle next

-- the answer at a list and a moment
abbrev pub answer : Writer → History → Call → ℕ → Answer
answer write h (Requested caller number command) m = Replied ((request_at h caller number command m).answer)
answer write h (Ingested name come) m = Replied ((ingest_at h name come m).answer)
answer write h (Receipted s n) m = Replied ((receipt_at h s n m).answer)
answer write h Ticked m = if some_waits h m then Kept (length h + 1) else Still
answer write h Halted m = Kept (length h + 1)
answer write h (Asked query) m = Tells (told (frame_bytes_at write h) h query)
answer write h (Claimed names) m = job write (ticked h m) (choice (ticked h m) names m)

-- what happens to an entry that would follow, or to the call for want of memory
pub data Fate : Type 0 where
  IsKept : Fate
  IsFull : Fate
  IsFailed : Fate
  IsStarved : Fate

-- what is answered in the end
abbrev pub given : Option Entry → Fate → Answer → Answer
given None IsStarved a = Memory
given None _ a = a
given (Some e) IsKept a = a
given (Some e) IsFull a = Full
given (Some e) IsFailed a = Fault
given (Some e) IsStarved a = Memory

-- the list behind an entry of this fate
abbrev pub list_after : History → Option Entry → Fate → History
list_after h None fate = h
list_after h (Some e) IsKept = e ∷ h
list_after h (Some e) _ = h

-- what is in doubt: tried since the last that was kept
abbrev pub doubt_after : {A : Type 0} → List A → Option A → Fate → List A
doubt_after doubt None fate = doubt
doubt_after doubt (Some e) IsKept = []
doubt_after doubt (Some e) IsFailed = e ∷ doubt
doubt_after doubt (Some e) _ = doubt

-- the first n entries of a list
abbrev pub front : History → ℕ → History
front [] n = []
front (e ∷ h) n = if nat_le n (length h) then front h n else e ∷ h

-- entry n of a list, counted from 1
abbrev pub entry_at : History → ℕ → Option Entry
entry_at [] n = None
entry_at (e ∷ h) n = if nat_le n (length h) then entry_at h n else (if nat_le n (suc (length h)) then Some e else None)
