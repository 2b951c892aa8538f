-- A server's list with its doubt, and what a call makes of them.
use Rattle.std.specs.Prelude.{ℕ, List, ◌∷◌, Option, Some, None}
use Rattle.news_types.specs.declared.entry.Entry.{Entry}
use Rattle.news_types.specs.Names.{Bytes}
use Rattle.news_types.specs.History.{History, moment_at}
use Rattle.news_types.specs.Frames.{Writer}
use Rattle.news_types.specs.Calls.{Call, Ticked, Claimed, Answer, Fate, IsKept, follow, answer, given, list_after, doubt_after}

-- the accepted entries, and those that were tried since the last that was kept: a crash may leave one of these behind the list
pub record Server : Type 0 where
  pub list : History
  pub doubt : List Entry

-- behind an entry of this fate, if there is one
abbrev pub put : Server → Option Entry → Fate → Server
put c entry fate = record { list = list_after c.list entry fate; doubt = doubt_after c.doubt entry fate }

-- behind a call at a clock's reading
abbrev pub called : Server → Call → ℕ → Fate → Server
called c call reading fate = put c (follow c.list call (moment_at c.list reading)) fate

-- what it is answered
abbrev pub call_answer : Writer → Server → Call → ℕ → Fate → Answer
call_answer write c call reading fate =
    given (follow c.list call (moment_at c.list reading)) fate (answer write c.list call (moment_at c.list reading))

-- behind a claim at a moment, whose tick has this entry: the attempt is tried only where that entry is kept
abbrev pub claimed_at : Server → List Bytes → ℕ → Option Entry → Fate → Fate → Server
claimed_at c names m None first second = put c (follow c.list (Claimed names) m) second
claimed_at c names m (Some e) IsKept second = put (put c (Some e) IsKept) (follow (e ∷ c.list) (Claimed names) m) second
claimed_at c names m (Some e) first second = put c (Some e) first

-- behind a claim at a clock's reading, with the fates of its tick's entry and of its attempt
abbrev pub claimed : Server → List Bytes → ℕ → Fate → Fate → Server
claimed c names reading first second = claimed_at c names (moment_at c.list reading) (follow c.list Ticked (moment_at c.list reading)) first second

abbrev pub claim_answer_at : Writer → History → List Bytes → ℕ → Option Entry → Fate → Fate → Answer
claim_answer_at write h names m None first second = given (follow h (Claimed names) m) second (answer write h (Claimed names) m)
claim_answer_at write h names m (Some e) IsKept second = given (follow (e ∷ h) (Claimed names) m) second (answer write h (Claimed names) m)
claim_answer_at write h names m (Some e) first second = given (Some e) first (answer write h (Claimed names) m)

-- what the claim is answered
abbrev pub claim_answer : Writer → Server → List Bytes → ℕ → Fate → Fate → Answer
claim_answer write c names reading first second =
    claim_answer_at write c.list names (moment_at c.list reading) (follow c.list Ticked (moment_at c.list reading)) first second
