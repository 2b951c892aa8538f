-- What one turn of the lock does to the list that the room stands for.
use Rattle.std.specs.Prelude.{◌≡◌, ℕ, ◌<◌, ◌≤◌, List}
use Rattle.news_types.specs.declared.entry.Entry.{Entry}
use Rattle.news_types.specs.Names.{Bytes}
use Rattle.news_types.specs.History.{last_stop}
use Rattle.news_types.specs.Books.{Book, onto}
use Rattle.news_types.specs.Frames.{frame_bytes_at}
use Rattle.news_types.specs.Calls as call
use Rattle.news_types.specs.Calls.{Fate}
use Rattle.news_types.specs.Server as server
use Rattle.news_types.specs.Server.{Server}
use Rattle.feed_frames.specs.Writer.{the_writer}
use Rattle.room_lock.specs.Passes.{At}
use Rattle.news_room.specs.Beside.{Beside, beside}
use Rattle.news_room.specs.Claims.{ClaimStep, IsSaid}
use Rattle.news_room.specs.Said.{said_kept}
use Rattle.news_room.specs.Steps.{ReceiptStep}
use Rattle.news_room.specs.declared.answers.Kept.{Kept}
use Rattle.news_room.specs.declared.claim.Claimed.{Claimed}
use Rattle.shared_workers.specs.declared.works.Step.{Step}

-- the numbers beside a call: the keeper's faults and the bytes that it uses, before it and behind it
abbrev pub of_turn : At → At → Beside
of_turn before after = beside before.faults before.used after.faults after.used

-- ---- calls as events of the world

-- The call at a reading of the clock is an event of the world, of one fate: each server with the list before it becomes one with the list
-- behind it, and the world's answer is the one that was given. Publications are written as those of this store are.
pub record IsCall (before after : At) (asked : call.Call) (now : ℕ) (answer : call.Answer) : Type 0 where
  pub fate : Fate
  pub lists : (c : Server) → c.list ≡ before.book.list → (server.called c asked now fate).list ≡ after.book.list
  pub answers : (c : Server) → c.list ≡ before.book.list → server.call_answer (the_writer before.book.store) c asked now fate ≡ answer

-- a claim is one of two fates, the first of its tick's entry and the second of its attempt
pub record IsClaim (before after : At) (names : List Bytes) (now : ℕ) (answer : Claimed) : Type 0 where
  pub first : Fate
  pub second : Fate
  pub lists : (c : Server) → c.list ≡ before.book.list → (server.claimed c names now first second).list ≡ after.book.list
  pub answers : (c : Server) → c.list ≡ before.book.list → IsSaid answer (server.claim_answer (the_writer before.book.store) c names now first second)

-- ---- claims

-- the frame, if there is one, is that of the subscriber's entry k in this list
abbrev pub IsFrameIn : Book → Claimed → Type 0
IsFrameIn b (Claimed.Job s k frame front) = frame ≡ frame_bytes_at (the_writer b.store) b.list s k
IsFrameIn b (Claimed.Idle next) = Unit {0}
IsFrameIn b Claimed.Fault = Unit {0}
IsFrameIn b (Claimed.Full size count) = Unit {0}
IsFrameIn b Claimed.Memory = Unit {0}

-- a claim over the feeds of these names, at a reading of the clock
pub record ClaimedBy (now : ℕ) (names : List Bytes) (before : At) (claimed : Claimed) (after : At) : Type 0 where
  pub more : List Entry
  pub book_is : after.book ≡ onto more before.book
  pub step : ClaimStep (of_turn before after) before.book now names more claimed
  -- the frame is that of its feed in the list that the turn left, of which the attempt is the last entry
  pub frame : IsFrameIn after.book claimed
  pub event : IsClaim before after names now claimed

-- A stop or a halt behind the opening list, which has so many entries, was found, and nothing else was done; or there is none, and a claim was made.
abbrev pub Took : ℕ → List Bytes → ℕ → At → Step → At → Type 0
Took now names base before (Step.Stopping place) after = (place ≡ last_stop before.book.list) × (base < place) × (after ≡ before)
Took now names base before (Step.Claimed claimed) after = (last_stop before.book.list ≤ base) × ClaimedBy now names before claimed after

-- ---- receipts

-- a subscriber's receipt for the first n entries of its feed, at a reading of the clock
pub record KeptBy (now : ℕ) (s : Bytes) (n : ℕ) (before : At) (kept : Kept) (after : At) : Type 0 where
  pub more : List Entry
  pub book_is : after.book ≡ onto more before.book
  pub step : ReceiptStep (of_turn before after) before.book now s n more kept
  pub event : IsCall before after (call.Receipted s n) now (said_kept kept)
