-- What a disk's calls do to its file, and what a crash may do to it between two syncs.
use Rattle.std.specs.Prelude.{◌≡◌, ◌⊎◌, ℕ, ◌+◌, ◌≤◌, max, List, ◌++◌, length, take, drop}
use Rattle.news_io.specs.Moments.{Elapses}

-- new is old with these bytes at this place
abbrev pub Holds : List ℕ → ℕ → List ℕ → List ℕ → Type 0
Holds old at bytes new = new ≡ take at old ++ bytes ++ drop (at + length bytes) old

-- after a write of n bytes that may be cut short: any bytes in the range and past the old end, the same elsewhere
pub record Torn (at n : ℕ) (old new : List ℕ) : Type 0 where
  pub before : (k : ℕ) → k ≤ at → k ≤ length old → take k new ≡ take k old
  pub after : drop (at + n) new ≡ drop (at + n) old
  pub no_shorter : length old ≤ length new
  pub no_longer : length new ≤ max (length old) (at + n)

-- each new outcome of a crash is an old outcome after a step
abbrev pub Follows : (List ℕ → List ℕ → Type 0) → (List ℕ → Type 0) → (List ℕ → Type 0) → Type 0
Follows step old new = (c : List ℕ) → new c → (d : List ℕ) × old d × step d c

-- a crash leaves this and nothing else
abbrev pub Only : List ℕ → (List ℕ → Type 0) → Type 0
Only file outcomes = (c : List ℕ) → outcomes c → c ≡ file

-- what a disk means
pub record DiskMeaning (D : Type 0) : Type 1 where
  -- how often it has failed; a counter of 64 bits stays at its last value
  pub faults : D → ℕ
  -- how many device calls were made; it may count fewer, and never more
  pub calls : D → ℕ
  -- holds of a disk that tells what it holds
  pub tells : D → Type 0
  -- the bytes that a read gives
  pub seen : D → List ℕ
  -- what a crash at this moment may leave
  pub may_leave : D → List ℕ → Type 0
  -- the moment, as a number that never falls
  pub moment : D → ℕ
  -- what a crash at some moment from that one on might have left, during a call or between two
  pub left_since : D → ℕ → List ℕ → Type 0
  -- this moment is one of those since an earlier one
  pub counts_now : (d : D) (t : ℕ) (c : List ℕ) → t ≤ moment d → may_leave d c → left_since d t c
  -- a crash may always leave what a read gives
  pub leaves_seen : (d : D) → tells d → may_leave d (seen d)
  -- no crash leaves more than a read gives: a file doesn't get shorter
  pub no_longer : (d : D) (c : List ℕ) → tells d → may_leave d c → length c ≤ length (seen d)
  -- since this moment there is no other
  pub only_now : (d : D) (c : List ℕ) → left_since d (moment d) c → may_leave d c

-- over a call, what a crash since an earlier moment might leave gains only what has P
abbrev pub DiskGains : {D : Type 0} → DiskMeaning D → D → D → (List ℕ → Type 0) → Type 0
DiskGains disk old new P = Elapses (disk.moment old) (disk.moment new) (disk.left_since old) (disk.left_since new) P

-- a crash at any moment since old leaves what has P
pub record LeavesOnly {D : Type 0} (disk : DiskMeaning D) (old new : D) (P : List ℕ → Type 0) : Type 0 where
  pub later : disk.moment old ≤ disk.moment new
  pub each : (c : List ℕ) → disk.left_since new (disk.moment old) c → P c
  -- for a run that began earlier
  pub before : (t : ℕ) (c : List ℕ) → t ≤ disk.moment old → disk.left_since new t c → disk.left_since old t c ⊎ P c
