-- What a standby makes of the record lines that reach it.
use Rattle.std.specs.Prelude.{ℕ, ◌+◌, Bool, true, false, length, if◌then◌else◌, nat_le, nat_lt, Option, Some, None, ◌∷◌, []}
use Rattle.news_types.specs.declared.entry.Entry.{Entry}
use Rattle.news_types.specs.Calls.{Fate, IsKept}
use Rattle.news_types.specs.Server.{Server, put}

-- a record on its way: the number of an entry in the primary's list, and the entry
pub record SentRecord : Type 0 where
  pub number : ℕ
  pub entry : Entry

-- what a record is to a standby: one that it has, one past the next, or the next
pub data Reaction : Type 0 where
  Known : Reaction
  Ahead : Reaction
  Next : Reaction

-- by its number, to a standby that has so many
abbrev pub reaction : ℕ → ℕ → Reaction
reaction count n = if nat_le n count then Known else (if nat_lt (count + 1) n then Ahead else Next)

-- A standby has a list and its doubt, as a server has. The next entry is tried, and has this fate; nothing else changes
-- anything.
abbrev pub reacted : Server → Entry → Fate → Reaction → Server
reacted s e fate Next = put s (Some e) fate
reacted s e fate _ = s

-- the standby behind a record that reaches it
abbrev pub taken : Server → SentRecord → Fate → Server
taken s r fate = reacted s r.entry fate (reaction (length s.list) r.number)

-- KEPT is sent where the record was kept, or nothing had to be kept
abbrev pub is_answered : Fate → Reaction → Bool
is_answered IsKept Next = true
is_answered _ Next = false
is_answered _ _ = true

-- behind a stop: its list is as before, or has the entry that was found at its end
abbrev pub restarted : Server → Option Entry → Server
restarted s None = record { list = s.list; doubt = [] }
restarted s (Some e) = record { list = e ∷ s.list; doubt = [] }
