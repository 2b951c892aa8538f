-- A receiver's list with its doubt, and what a frame makes of them.
use Rattle.std.specs.Prelude.{ℕ, ◌+◌, Bool, true, false, not, List, [], ◌∷◌, ◌++◌, length, if◌then◌else◌, nat_lt, nat_le, Option, Some, None}
use Rattle.news_types.specs.Names.{Bytes, same}
use Rattle.news_types.specs.Frames.{Frame}
use Rattle.news_types.specs.Calls.{Fate, IsKept, IsFailed}

-- the frames that it holds, oldest first, and those that were tried since the last that was kept
pub record Receiver : Type 0 where
  pub held : List Frame
  pub doubt : List Frame

-- what a receiver makes of a frame
pub data Taken : Type 0 where
  NotMine : Taken
  Known : Taken
  Ahead : Taken
  Accepted : Taken

-- what the receiver of this name with so many frames makes of a frame: the next one of its own is accepted
abbrev pub reaction : Bytes → ℕ → Frame → Taken
reaction s n f = if not (same s f.to) then NotMine else (if nat_le f.k n then Known else (if nat_lt (n + 1) f.k then Ahead else Accepted))

-- behind an accepted frame of this fate
abbrev pub accepted : Receiver → Frame → Fate → Receiver
accepted r f IsKept = record { held = r.held ++ f ∷ []; doubt = [] }
accepted r f IsFailed = record r { doubt = f ∷ r.doubt }
accepted r f _ = r

abbrev pub reacted : Receiver → Frame → Fate → Taken → Receiver
reacted r f fate Accepted = accepted r f fate
reacted r f fate _ = r

-- the receiver of this name behind a frame that reaches it
abbrev pub taken : Bytes → Receiver → Frame → Fate → Receiver
taken s r f fate = reacted r f fate (reaction s (length r.held) f)

-- a receipt goes out where the frame was kept, or nothing had to be kept
abbrev pub is_receipted : Fate → Taken → Bool
is_receipted IsKept Accepted = true
is_receipted _ Accepted = false
is_receipted _ _ = true

-- behind a stop: its list is as before, or has the frame that was found at its end
abbrev pub restarted : Receiver → Option Frame → Receiver
restarted r None = record { held = r.held; doubt = [] }
restarted r (Some f) = record { held = r.held ++ f ∷ []; doubt = [] }
