-- A claim: what it adds to a list, what it answers, and the claim as an event of the world.
use Rattle.std.specs.Prelude.{◌≡◌, ℕ, ◌+◌, Bool, true, false, List, ◌++◌, length, Some}
use Rattle.news_types.specs.declared.entry.Entry.{Entry}
use Rattle.news_types.specs.declared.query.Ready.TheVariants.{Now, Later}
use Rattle.news_types.specs.Names.{Bytes}
use Rattle.news_types.specs.History.{History, moment_at}
use Rattle.news_types.specs.Books.{Book, onto}
use Rattle.news_types.specs.Delivery.{choice}
use Rattle.news_types.specs.Frames.{Frame, Writer, frame_bytes, frame_bytes_at}
use Rattle.news_types.specs.Calls as call
use Rattle.news_types.specs.Calls.{Answer, Job, Idle, Full, Fault, Memory, Fate, follow, ticked}
use Rattle.news_types.specs.Server.{Server, claimed, claim_answer}
use Rattle.feed_frames.specs.Writer.{the_writer}
use Rattle.news_io.specs.Keeper.{KeeperMeaning}
use Rattle.news_io.specs.declared.keeper.AppendFault.{AppendFault}
use Rattle.news_room.specs.Beside.{Beside}
use Rattle.news_room.specs.Stands.{Stands, LIMIT}
use Rattle.news_room.specs.Steps.{Given, Failed, Refused, entries, tick_entries, ToldStep}
use Rattle.news_room.specs.Events.{Serves}
use Rattle.news_room.specs.declared.claim.Claimed.{Claimed}
use Rattle.news_room.specs.declared.room.Room.{Room}

-- ---- what it adds and answers

-- the attempt on the feed that is chosen, if one is
abbrev pub attempt_entries : History → List Bytes → ℕ → List Entry
attempt_entries g names m = entries (follow g (call.Claimed names) m)

-- the entries that follow a list behind a claim at a moment, oldest first: its tick's, if one is due, and the attempt on the feed that is
-- chosen behind that
abbrev pub claim_entries : History → List Bytes → ℕ → List Entry
claim_entries h names m = tick_entries h m ++ attempt_entries (ticked h m) names m

-- what is answered of a list at a moment, where these entries should follow, and without memory for the frame those
module _ (write : Writer) (n : Beside) (g : History) (names : List Bytes) (m : ℕ) (all without more : List Entry) where
  abbrev pub ClaimAt : Claimed → Type 0
  ClaimAt (Claimed.Job s k frame front) = (choice g names m ≡ Now s k) × (frame ≡ frame_bytes_at write g s k) × (front ≡ length g + 1) × Given n LIMIT all more
  ClaimAt (Claimed.Idle next) = (choice g names m ≡ Later next) × Given n LIMIT all more
  ClaimAt Claimed.Fault = Failed n LIMIT all more
  ClaimAt (Claimed.Full size count) = Refused n LIMIT all more size count
  ClaimAt Claimed.Memory = Given n LIMIT without more

-- a claim at a reading of the clock: the choice, the frame and the front are those of the list behind the tick, and want of memory
-- leaves what the tick kept
abbrev pub ClaimStep : Beside → Book → ℕ → List Bytes → List Entry → Claimed → Type 0
ClaimStep n b now names more claimed =
    let m : ℕ = moment_at b.list now in
    ClaimAt (the_writer b.store) n (ticked b.list m) names m (claim_entries b.list names m) (tick_entries b.list m) more claimed

-- the answer that a failure of the keeper has
abbrev pub is_claim_fault : Claimed → Bool
is_claim_fault Claimed.Fault = true
is_claim_fault _ = false

-- what is answered where an entry was not kept
abbrev pub claimed_by : AppendFault → Claimed
claimed_by AppendFault.Fault = Claimed.Fault
claimed_by (AppendFault.Full size count) = Claimed.Full size count

-- ---- the claim as an event of the world

-- the world's answer to what the room answers: where the room has a frame's bytes, the world has that frame
abbrev pub IsSaid : Claimed → Answer → Type 0
IsSaid (Claimed.Job s k bytes front) heard = (frame : Frame) × (bytes ≡ frame_bytes frame) × (heard ≡ Job s k (Some frame) front)
IsSaid (Claimed.Idle next) heard = heard ≡ Idle next
IsSaid Claimed.Fault heard = heard ≡ Fault
IsSaid (Claimed.Full size count) heard = heard ≡ Full
IsSaid Claimed.Memory heard = heard ≡ Memory

module _ {K : Type 0} (keeper : KeeperMeaning K) where
  -- the claim is an event of the world, of two fates, the first of its tick's entry and the second of its attempt: each server that the
  -- room serves becomes one that it serves then, and the world's answer is the one that was given, where publications are written as
  -- those of this store are
  pub record IsClaimEvent (old new : Room K) (b : Book) (more : List Entry) (names : List Bytes) (now : ℕ) (answer : Claimed) : Type 0 where
    pub first : Fate
    pub second : Fate
    pub serves : (c : Server) → Serves keeper old b c → Serves keeper new (onto more b) (claimed c names now first second)
    pub answers : (c : Server) → Serves keeper old b c → IsSaid answer (claim_answer (the_writer b.store) c names now first second)

  -- a claim at a reading of the clock, by a room that stood for the book: it stands for the book with more, what was kept and answered is
  -- the step, and the claim is an event of the world. Where the keeper tells its list, so is what a crash may leave
  pub record ClaimHappens (old new : Room K) (b : Book) (more : List Entry) (names : List Bytes) (now : ℕ) (answer : Claimed) (Step : Type 0) : Type 0 where
    pub stands : Stands keeper new (onto more b)
    pub step : Step
    pub event : IsClaimEvent old new b more names now answer
    pub told : b.told ≡ true → ToldStep keeper old new b (claim_entries b.list names (moment_at b.list now)) more (is_claim_fault answer)
