-- What is answered where nothing hinders it.
use Rattle.std.specs.Prelude.{◌≡◌, ◌⊎◌, ℕ, ◌+◌, ◌≤◌, List, [], ◌∷◌, length, if◌then◌else◌, Option, Some, None}
use Rattle.news_types.specs.declared.entry.Entry.{Entry}
use Rattle.news_types.specs.declared.entry.Act.TheVariants.{Halt}
use Rattle.news_types.specs.Names.{Bytes}
use Rattle.news_types.specs.History.{moment_at}
use Rattle.news_types.specs.Books.{Book}
use Rattle.news_types.specs.Legal.{some_waits}
use Rattle.news_types.specs.Calls as call
use Rattle.news_types.specs.Calls.{follow, answer, Replied}
use Rattle.news_types.specs.Outcome.{Outcome, entry_of}
use Rattle.news_types.specs.Outcome as outcome
use Rattle.feed_frames.specs.Writer.{the_writer}
use Rattle.news_io.specs.Faults.{Rose}
use Rattle.news_room.specs.Log.{size_of, sizes}
use Rattle.news_room.specs.Beside.{Beside}
use Rattle.news_room.specs.Stands.{LIMIT, LAST, limit_for}
use Rattle.news_room.specs.Said.{said, said_kept}
use Rattle.news_room.specs.Steps.{Answers, Receives, TickStep, HaltStep, entries}
use Rattle.news_room.specs.Claims.{ClaimStep, IsSaid, claim_entries}
use Rattle.news_room.specs.declared.answers.Handled.{Handled}
use Rattle.news_room.specs.declared.answers.Kept.{Kept}
use Rattle.news_room.specs.declared.answers.Ticked.{Ticked}
use Rattle.news_room.specs.declared.claim.Claimed.{Claimed}

-- the entry that is to follow, where one is, stays within the limit
abbrev pub HasPlace : Beside → ℕ → Option Entry → Type 0
HasPlace n limit None = Unit {0}
HasPlace n limit (Some e) = n.used + size_of e ≤ limit

-- it has place, and the keeper has not failed
pub record IsFree (n : Beside) (limit : ℕ) (next : Option Entry) : Type 0 where
  pub place : HasPlace n limit next
  pub calm : Rose n.faults n.later_faults → ⊥

-- a request and an ingest are answered as the list answers, or there was no memory
abbrev pub OutcomesComplete : Type 0
OutcomesComplete = (n : Beside) (more : List Entry) (o : Outcome outcome.Answered) (answered : Handled) → Answers n more o answered → IsFree n (limit_for (entries o.more)) o.more → (said answered ≡ Replied o.answer) ⊎ (answered ≡ Handled.Memory)

-- a receipt is answered as the list answers
abbrev pub ReceiptsComplete : Type 0
ReceiptsComplete = (n : Beside) (more : List Entry) (o : Outcome outcome.Answered) (kept : Kept) → Receives n more o kept → IsFree n LIMIT o.more → said_kept kept ≡ Replied o.answer

-- a tick keeps an entry where something waits
abbrev pub TicksComplete : Type 0
TicksComplete = (n : Beside) (b : Book) (now : ℕ) (more : List Entry) (ticked : Ticked) → TickStep n b now more ticked → IsFree n LIMIT (follow b.list call.Ticked (moment_at b.list now))
    → ticked ≡ (if some_waits b.list (moment_at b.list now) then Ticked.Kept (length b.list + 1) else Ticked.Still)

-- a halt is kept
abbrev pub HaltsComplete : Type 0
HaltsComplete = (n : Beside) (b : Book) (now : ℕ) (more : List Entry) (ticked : Ticked) → HaltStep n b now more ticked → IsFree n LAST (Some (entry_of (moment_at b.list now) Halt)) → ticked ≡ Ticked.Kept (length b.list + 1)

-- the entries that are to follow, where some are, stay within the limit
abbrev pub HavePlace : Beside → ℕ → List Entry → Type 0
HavePlace n limit [] = Unit {0}
HavePlace n limit (e ∷ es) = n.used + sizes (e ∷ es) ≤ limit

-- they have place, and the keeper has not failed
pub record AreFree (n : Beside) (limit : ℕ) (next : List Entry) : Type 0 where
  pub place : HavePlace n limit next
  pub calm : Rose n.faults n.later_faults → ⊥

-- a claim is answered as the list answers, or there was no memory
abbrev pub ClaimsComplete : Type 0
ClaimsComplete = (n : Beside) (b : Book) (now : ℕ) (names : List Bytes) (more : List Entry) (claimed : Claimed) → ClaimStep n b now names more claimed
    → AreFree n LIMIT (claim_entries b.list names (moment_at b.list now))
    → IsSaid claimed (answer (the_writer b.store) b.list (call.Claimed names) (moment_at b.list now)) ⊎ (claimed ≡ Claimed.Memory)
