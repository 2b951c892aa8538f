-- What a journal stands for: its list, what is in doubt, and what a crash leaves.
use Rattle.std.specs.Prelude.{◌≡◌, ◌≢◌, ◌⊎◌, ℕ, ◌+◌, ◌≤◌, ◌<◌, ◌^◌, List, [], ◌∷◌, ◌++◌, length, take, true, false, Option, Some, None}
use Rattle.news_journal.specs.Log.{opened, records, AllFit}
use Rattle.news_journal.specs.Read.{record_then}
use Rattle.news_journal.specs.declared.log.Journal.{Journal}
use Rattle.news_io.specs.Disk.{DiskMeaning}
use Rattle.news_io.specs.Moments.{Elapses}

-- what a read gives, or what a crash may leave
abbrev pub Outcome : List ℕ → (List ℕ → Type 0) → List ℕ → Type 0
Outcome seen may_leave c = (c ≡ seen) ⊎ may_leave c

-- in each outcome the same closed gate stands behind the records
pub record IsShut (base seen : List ℕ) (may_leave : List ℕ → Type 0) : Type 0 where
  pub gate : ℕ
  pub closed : gate ≢ 1
  pub each : (c : List ℕ) → Outcome seen may_leave c → (rest : List ℕ) × (c ≡ base ++ gate ∷ rest)

-- in each outcome this payload stands whole behind some gate
pub record IsAjar (base payload seen : List ℕ) (may_leave : List ℕ → Type 0) : Type 0 where
  pub tail : List ℕ
  pub fits : length payload ≤ 4194304
  pub small : length base + 5 + length payload < 2 ^ 30
  pub each : (c : List ℕ) → Outcome seen may_leave c → (gate : ℕ) × (c ≡ base ++ gate ∷ record_then payload tail)

abbrev pub base_of : {D : Type 0} → Journal D → List (List ℕ) → List ℕ
base_of j ps = j.head ++ records ps

module _ {D : Type 0} (disk : DiskMeaning D) where
  -- a payload that a crash may leave behind these
  pub record Doubts (j : Journal D) (ps : List (List ℕ)) (x : List ℕ) : Type 0 where
    pub is_ajar : j.ajar ≡ true
    pub behind_gate : IsAjar (base_of j ps) x (disk.seen j.disk) (disk.may_leave j.disk)

  -- the disk holds these payloads
  pub record Logs (j : Journal D) (ps : List (List ℕ)) : Type 0 where
    pub told : disk.tells j.disk
    pub fit : AllFit ps
    pub gate : j.gate ≡ length (base_of j ps)
    pub small : j.gate < 2 ^ 30
    pub shut : j.ajar ≡ false → IsShut (base_of j ps) (disk.seen j.disk) (disk.may_leave j.disk)
    pub ajar : j.ajar ≡ true → (x : List ℕ) × Doubts j ps x

abbrev pub listed : Option (List (List ℕ)) → List (List ℕ)
listed (Some ps) = ps
listed None = []

-- the payloads before the gate
abbrev pub list_of : {D : Type 0} → DiskMeaning D → Journal D → List (List ℕ)
list_of disk j = listed (opened j.head (take j.gate (disk.seen j.disk) ++ 0 ∷ []))

-- what opening a log with this header after a crash since that moment might have found
abbrev pub opened_since : {D : Type 0} → DiskMeaning D → List ℕ → D → ℕ → Option (List (List ℕ)) → Type 0
opened_since disk header d t found = (c : List ℕ) × disk.left_since d t c × (found ≡ opened header c)

-- over a call on the disk, what such openings might have found gains only what has P
abbrev pub LogGains : {D : Type 0} → DiskMeaning D → List ℕ → D → D → (Option (List (List ℕ)) → Type 0) → Type 0
LogGains disk header old new P = Elapses (disk.moment old) (disk.moment new) (opened_since disk header old) (opened_since disk header new) P

abbrev pub disk_of : {D : Type 0} → Journal D → D
disk_of j = j.disk

abbrev pub head_of : {D : Type 0} → Journal D → List ℕ
head_of j = j.head
