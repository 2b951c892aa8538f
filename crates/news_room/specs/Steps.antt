-- What a call adds to a list, what it answers, and how much of it was kept.
use Rattle.std.specs.Prelude.{◌≡◌, ◌⊎◌, Bool, true, false, ℕ, ◌+◌, ◌<◌, ◌≤◌, List, [], ◌∷◌, ◌++◌, length, Option, Some, None, Result, Ok, Err}
use Rattle.news_types.specs.declared.entry.Entry.{Entry}
use Rattle.news_types.specs.declared.command.Command.{Command}
use Rattle.news_types.specs.declared.story.Incoming.{Incoming}
use Rattle.news_types.specs.Names.{Bytes}
use Rattle.news_types.specs.History.{History, moment_at}
use Rattle.news_types.specs.Books.{Book, onto}
use Rattle.news_types.specs.declared.entry.Act.{Act}
use Rattle.news_types.specs.declared.entry.Act.TheVariants.{Halt, Ingest, Request}
use Rattle.news_types.specs.Legal.{IsLegal, some_waits}
use Rattle.news_types.specs.Calls as call
use Rattle.news_types.specs.Calls.{follow}
use Rattle.news_types.specs.Outcome.{Outcome, Done, Repeat, Denied, reply_to, entry_of, kept, request, request_at, ingest, ingest_at, receipt}
use Rattle.news_types.specs.Outcome as outcome
use Rattle.news_io.specs.Faults.{Rose}
use Rattle.news_io.specs.Left.{Between}
use Rattle.entry_codec.specs.Spelling.{entry_bytes}
use Rattle.entry_codec.specs.Formed.{IsEntry}
use Rattle.news_room.specs.Log.{size_of, sizes, Opens}
use Rattle.news_room.specs.Beside.{Beside}
use Rattle.news_room.specs.Said.{said, said_kept, said_tick, is_failure}
use Rattle.news_room.specs.Stands.{Stands, LIMIT, LAST, limit_of, limit_for, numbers, in_doubt}
use Rattle.news_io.specs.declared.keeper.AppendFault.{AppendFault}
use Rattle.news_room.specs.declared.answers.Handled.{Handled}
use Rattle.news_room.specs.declared.answers.Kept.{Kept}
use Rattle.news_room.specs.declared.answers.Ticked.{Ticked}
use Rattle.news_room.specs.declared.room.Room.{Room}
use Rattle.news_io.specs.Keeper.{KeeperMeaning, KeeperGains}

-- all that should follow was kept
pub record Whole (n : Beside) (should more : List Entry) : Type 0 where
  pub is : more ≡ should
  pub calm : n.later_faults ≡ n.faults
  pub grown : n.later_used ≡ n.used + sizes more

-- all before some entry was kept, and that entry would have passed the limit
pub record Refused (n : Beside) (limit : ℕ) (should more : List Entry) (size count : ℕ) : Type 0 where
  pub next : Entry
  pub rest : List Entry
  pub is : should ≡ more ++ next ∷ rest
  pub calm : n.later_faults ≡ n.faults
  pub grown : n.later_used ≡ n.used + sizes more
  pub size_is : size ≡ n.later_used
  pub length_is : count ≡ length (entry_bytes next)
  pub past : limit < n.later_used + size_of next

-- all before some entry was kept, and the keeper failed at that entry
pub record Failed (n : Beside) (limit : ℕ) (should more : List Entry) : Type 0 where
  pub next : Entry
  pub rest : List Entry
  pub is : should ≡ more ++ next ∷ rest
  pub rose : Rose n.faults n.later_faults
  pub grown : n.later_used ≡ n.used + sizes more
  pub fits : n.later_used + size_of next ≤ limit

-- the entry that follows, if one does
abbrev pub entries : Option Entry → List Entry
entries None = []
entries (Some e) = e ∷ []

-- what was kept stays within the limit
abbrev pub Within : Beside → ℕ → List Entry → Type 0
Within n limit [] = Unit {0}
Within n limit (e ∷ es) = n.later_used ≤ limit

-- all that should follow was kept, within the limit
pub record Given (n : Beside) (limit : ℕ) (should more : List Entry) : Type 0 where
  pub whole : Whole n should more
  pub within : Within n limit more

-- what a request or an ingest is answered at a moment
abbrev pub by_act : History → ℕ → Act → Outcome outcome.Answered
by_act h m (Request caller number command) = request_at h caller number command m
by_act h m (Ingest name come) = ingest_at h name come m
by_act h m act = kept h m act

-- the outcome of an act at the moment of its entry
abbrev pub outcome_of : History → Entry → Outcome outcome.Answered
outcome_of h e = by_act h e.moment e.act

-- ---- the keeping of one entry

module _ (n : Beside) (limit : ℕ) (e : Entry) (more : List Entry) where
  abbrev pub PutStep : Result (Unit {0}) AppendFault → Type 0
  PutStep (Ok u) = Given n limit (e ∷ []) more
  PutStep (Err AppendFault.Fault) = Failed n limit (e ∷ []) more
  PutStep (Err (AppendFault.Full size count)) = Refused n limit (e ∷ []) more size count

-- the keeping of an entry that may follow, and was prepared
abbrev pub KeepStep : Beside → Book → Entry → List Entry → Handled → Type 0
KeepStep n b e more (Handled.Done reply) = (reply ≡ reply_to b.list e.moment e.act) × Given n (limit_of e.act) (e ∷ []) more
KeepStep n b e more Handled.Fault = Failed n (limit_of e.act) (e ∷ []) more
KeepStep n b e more (Handled.Full size count) = Refused n (limit_of e.act) (e ∷ []) more size count
KeepStep n b e more Handled.Memory = Whole n [] more
KeepStep n b e more _ = ⊥

-- ---- requests and ingests

-- an outcome, by what was answered
module _ (n : Beside) (more : List Entry) (o : Outcome outcome.Answered) where
  abbrev pub Answers : Handled → Type 0
  Answers (Handled.Done reply) = (o.answer ≡ Done reply) × Given n (limit_for (entries o.more)) (entries o.more) more
  Answers (Handled.Repeat reply) = (o.answer ≡ Repeat reply) × Given n (limit_for (entries o.more)) (entries o.more) more
  Answers (Handled.Denied denial) = (o.answer ≡ Denied denial) × Given n (limit_for (entries o.more)) (entries o.more) more
  Answers Handled.Fault = Failed n (limit_for (entries o.more)) (entries o.more) more
  Answers (Handled.Full size count) = Refused n (limit_for (entries o.more)) (entries o.more) more size count
  Answers Handled.Memory = Whole n [] more

-- a request of a caller at a reading of the clock
abbrev pub RequestStep : Beside → Book → ℕ → Bytes → ℕ → Command → List Entry → Handled → Type 0
RequestStep n b now caller number command more answered = Answers n more (request b.list caller number command now) answered

-- a story that comes in from a provider
abbrev pub IngestStep : Beside → Book → ℕ → Bytes → Incoming → List Entry → Handled → Type 0
IngestStep n b now provider come more answered = Answers n more (ingest b.list provider come now) answered

-- ---- receipts

-- an outcome that takes no memory, by what was answered
module _ (n : Beside) (more : List Entry) (o : Outcome outcome.Answered) where
  abbrev pub Receives : Kept → Type 0
  Receives (Kept.Done reply) = (o.answer ≡ Done reply) × Given n LIMIT (entries o.more) more
  Receives (Kept.Denied denial) = (o.answer ≡ Denied denial) × Given n LIMIT (entries o.more) more
  Receives Kept.Fault = Failed n LIMIT (entries o.more) more
  Receives (Kept.Full size count) = Refused n LIMIT (entries o.more) more size count

-- a subscriber's receipt for the first entries of its feed, so many
abbrev pub ReceiptStep : Beside → Book → ℕ → Bytes → ℕ → List Entry → Kept → Type 0
ReceiptStep n b now subscriber count more answered = Receives n more (receipt b.list subscriber count now) answered

-- ---- ticks and halts

-- the entry of a tick at a moment, if one is due
abbrev pub tick_entries : History → ℕ → List Entry
tick_entries h m = entries (follow h call.Ticked m)

module _ (n : Beside) (b : Book) (m : ℕ) (more : List Entry) where
  -- a tick at a moment: whether its entry was kept
  abbrev pub ReleaseStep : Result Bool AppendFault → Type 0
  ReleaseStep (Ok waits) = (some_waits b.list m ≡ waits) × Given n LIMIT (tick_entries b.list m) more
  ReleaseStep (Err AppendFault.Fault) = Failed n LIMIT (tick_entries b.list m) more
  ReleaseStep (Err (AppendFault.Full size count)) = Refused n LIMIT (tick_entries b.list m) more size count

module _ (n : Beside) (b : Book) (now : ℕ) (more : List Entry) where
  -- a tick at a reading of the clock
  abbrev pub TickStep : Ticked → Type 0
  TickStep (Ticked.Kept place) = (some_waits b.list (moment_at b.list now) ≡ true) × (place ≡ length b.list + 1) × Given n LIMIT (tick_entries b.list (moment_at b.list now)) more
  TickStep Ticked.Still = (some_waits b.list (moment_at b.list now) ≡ false) × Given n LIMIT (tick_entries b.list (moment_at b.list now)) more
  TickStep Ticked.Fault = Failed n LIMIT (tick_entries b.list (moment_at b.list now)) more
  TickStep (Ticked.Full size count) = Refused n LIMIT (tick_entries b.list (moment_at b.list now)) more size count

  -- a halt, within the limit of the whole log
  abbrev pub HaltStep : Ticked → Type 0
  HaltStep (Ticked.Kept place) = (place ≡ length b.list + 1) × Given n LAST (entry_of (moment_at b.list now) Halt ∷ []) more
  HaltStep Ticked.Still = ⊥
  HaltStep Ticked.Fault = Failed n LAST (entry_of (moment_at b.list now) Halt ∷ []) more
  HaltStep (Ticked.Full size count) = Refused n LAST (entry_of (moment_at b.list now) Halt ∷ []) more size count

-- ---- what a crash leaves, where the keeper tells its list

-- what of a doubt is left behind the entries that were kept: all, or none where one was kept
abbrev pub still : (Bytes → Type 0) → List Entry → Bytes → Type 0
still D [] payload = D payload
still D (e ∷ es) payload = ⊥

-- the bytes of the entry that was to come next
abbrev pub IsTried : (should more : List Entry) → Bytes → Type 0
IsTried should more payload = (e : Entry) × (rest : List Entry) × (should ≡ more ++ e ∷ rest) × IsEntry e × (payload ≡ entry_bytes e)

-- the first entry that is kept ends all doubt
abbrev pub DoubtsKept : (Bytes → Type 0) → (Bytes → Type 0) → List Entry → Type 0
DoubtsKept D D' more = (payload : Bytes) → D' payload → still D more payload

-- a fault adds the entry that was tried to what is in doubt
abbrev pub DoubtStep : (Bytes → Type 0) → (Bytes → Type 0) → (should more : List Entry) → (failed : Bool) → Type 0
DoubtStep D D' should more true = (payload : Bytes) → D' payload → still D more payload ⊎ IsTried should more payload
DoubtStep D D' should more false = DoubtsKept D D' more

module _ {K : Type 0} (keeper : KeeperMeaning K) where
  -- each crash moment of a call leaves the list before it and the first few of the entries that it kept, or one of the two lists with one in doubt
  abbrev pub CrashLeaves : Room K → Room K → Book → List Entry → Type 0
  CrashLeaves old new b more = KeeperGains keeper old.keeper new.keeper (Between Opens b.list ((onto more b).list) (in_doubt keeper old) (in_doubt keeper new))

  -- a call behind which these should follow, of which more was kept, and whether the keeper failed
  pub record ToldStep (old new : Room K) (b : Book) (should more : List Entry) (failed : Bool) : Type 0 where
    pub crash : CrashLeaves old new b more
    pub doubt : DoubtStep (keeper.doubts old.keeper) (keeper.doubts new.keeper) should more failed

-- the answers that a failure of the keeper has
abbrev pub is_fault : Handled → Bool
is_fault answered = is_failure (said answered)

abbrev pub is_kept_fault : Kept → Bool
is_kept_fault kept = is_failure (said_kept kept)

abbrev pub is_tick_fault : Ticked → Bool
is_tick_fault ticked = is_failure (said_tick ticked)

-- what is answered where the entry was not kept
abbrev pub ticked_by : AppendFault → Ticked
ticked_by AppendFault.Fault = Ticked.Fault
ticked_by (AppendFault.Full size count) = Ticked.Full size count

abbrev pub kept_by : AppendFault → Kept
kept_by AppendFault.Fault = Kept.Fault
kept_by (AppendFault.Full size count) = Kept.Full size count

abbrev pub is_append_fault : {A : Type 0} → Result A AppendFault → Bool
is_append_fault (Err AppendFault.Fault) = true
is_append_fault _ = false

-- ---- the room behind a call

module _ {K : Type 0} (keeper : KeeperMeaning K) where
  -- it stands for the list with more, of what should follow, and the step holds
  pub record After (old new : Room K) (b : Book) (should more : List Entry) (failed : Bool) (step : Type 0) : Type 0 where
    pub stands : Stands keeper new (onto more b)
    pub did : step
    pub told : b.told ≡ true → ToldStep keeper old new b should more failed

  -- the keeping of an entry within a limit, where it may follow
  abbrev pub Puts : Room K → Room K → ℕ → Entry → Result (Unit {0}) AppendFault → Type 0
  Puts old new limit e r =
      (more : List Entry) × ((b : Book) → Stands keeper old b → IsLegal (e ∷ b.list) → After old new b (e ∷ []) more (is_append_fault r) (PutStep (numbers keeper old new) limit e more r))
