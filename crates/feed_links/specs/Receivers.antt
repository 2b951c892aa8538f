-- The receivers behind a link, and what becomes of them by what passes over it.
use Rattle.std.specs.Prelude.{◌≡◌, ℕ, ◌+◌, ◌==◌, Bool, true, false, List, [], length, take, slice_get, slice_set, Option, Some, None, if◌then◌else◌}
use Rattle.std.specs.List.{position, position_or_len}
use Rattle.news_types.specs.Names.{Bytes, same}
use Rattle.news_types.specs.Frames.{Frame}
use Rattle.news_io.specs.Link.{Passed, Sent, Said, Nothing}
use Rattle.feed_receiver.specs.declared.receiver.Taken.{Taken}
use Rattle.feed_receiver.specs.declared.receiver.Taken.TheVariants.{BadFrame, Fault, Full, Memory}
use Rattle.feed_receiver.specs.Spelling.{receipt_bytes}
use Rattle.feed_receiver.specs.Takes.{IsStep}
use Rattle.feed_receiver.specs.Holds.{Received, onto}

-- what the receivers hold, in the link's order, and the reply that waits to be read, with its subscriber
pub record Behind : Type 0 where
  pub held : List Received
  pub waits : Option (Bytes × Bytes)

-- a receiver replies with this answer: not to what is no frame, and not where a frame was not kept
abbrev pub is_replied : Taken → Bool
is_replied (BadFrame at) = false
is_replied Fault = false
is_replied (Full size count) = false
is_replied Memory = false
is_replied answer = true

-- its reply is its receipt, or nothing
abbrev pub reply_with : Taken → Received → Bytes
reply_with answer b = if is_replied answer then receipt_bytes b.name (length b.frames) else []

-- a receiver is given some bytes, and replies to them
pub record Replies (old : Received) (bytes : Bytes) (new : Received) (reply : Bytes) : Type 0 where
  pub answer : Taken
  pub more : List Frame
  pub step : IsStep old.name old.frames bytes answer more
  pub grown : new ≡ onto more old
  pub is : reply ≡ reply_with answer new

-- the first place of a name among these
abbrev pub place : Bytes → List Bytes → Option ℕ
place s names = position (same s) names

-- the frame comes to the subscriber's receiver alone, and its reply is the one that waits
pub record Comes (names : List Bytes) (s frame : Bytes) (old new : Behind) : Type 0 where
  pub at : ℕ
  pub here : place s names ≡ Some at
  pub was : Received
  pub now : Received
  pub reply : Bytes
  pub there : slice_get old.held at ≡ Some was
  pub replies : Replies was frame now reply
  pub only : new ≡ record { held = slice_set old.held at now; waits = Some (s, reply) }

-- up to and with its first line feed, or all of it
abbrev pub first_line : Bytes → Bytes
first_line bytes = take (position_or_len (λ (b : ℕ). b == 10) bytes + 1) bytes

-- what a subscriber reads where this waits: nothing of another's reply
abbrev pub reply_from : Bytes → Option (Bytes × Bytes) → Bytes
reply_from s None = []
reply_from s (Some reply) = if same reply.0 s then first_line reply.1 else []

-- what becomes of the receivers, and of the reply that waits, by what passes in a call
abbrev pub Passes : List Bytes → Passed → Behind → Behind → Type 0
Passes names (Sent s frame) old new = Comes names s frame old new
Passes names (Said s bytes) old new = (bytes ≡ reply_from s old.waits) × (new ≡ record { held = old.held; waits = None })
Passes names Nothing old new = new ≡ old
