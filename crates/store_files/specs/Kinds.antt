-- Which files are no newsroom's, whatever stands behind their headers.
use Rattle.std.specs.Prelude.{◌≡◌, ◌⊎◌, ℕ, ◌≤◌, List, [], ◌∷◌, ◌++◌, length, take, codes, replicate, None}
use Rattle.news_types.specs.Names.{Bytes}
use Rattle.news_journal.specs.declared.header.Header.{Header}
use Rattle.news_journal.specs.declared.header.Header.TheVariants as header
use Rattle.news_journal.specs.Log.{IsHead}
use Rattle.news_journal.specs.Damage.{header_damage}
use Rattle.store_files.specs.declared.kinds.LogKind.{LogKind}
use Rattle.store_files.specs.declared.kinds.LogKind.TheVariants.{Other, Room, Unknown}

-- ---- the log

-- the header is that of a receiver's log
abbrev pub IsReceivers : List ℕ → Type 0
IsReceivers log = (name : Bytes) × (header_damage (take 64 log) ≡ None) × IsHead (header.Receiver name) (take 64 log)

-- the header is that of this store's log
abbrev pub IsOfStore : Bytes → List ℕ → Type 0
IsOfStore store log = (header_damage (take 64 log) ≡ None) × IsHead (header.Room store) (take 64 log)

-- the file is empty, or a receiver's log
abbrev pub IsOtherLog : List ℕ → Type 0
IsOtherLog log = (log ≡ []) ⊎ IsReceivers log

-- what a log with this header is for
abbrev pub kind_of : Header → LogKind
kind_of (header.Receiver name) = Other
kind_of (header.Room store) = Room store

-- what a log is for, as far as its length and its header tell
abbrev pub IsKind : List ℕ → LogKind → Type 0
IsKind log Other = IsOtherLog log
IsKind log (Room store) = (IsOtherLog log → ⊥) × IsOfStore store log
IsKind log Unknown = (IsOtherLog log → ⊥) × ((store : Bytes) → IsOfStore store log → ⊥)

-- ---- the side

-- a header of the form of a side's, of this kind and with this identifier
abbrev pub side_form : ℕ → Bytes → List ℕ
side_form kind owner = codes "NEWSDESK" ++ 1 ∷ kind ∷ (replicate 6 0 ++ (owner ++ replicate 32 0))

-- the file has room for a header and a gate, and its header is that of this store's side but for its kind or its identifier
pub record IsOtherSide (store : Bytes) (side : List ℕ) : Type 0 where
  pub some : 65 ≤ length side
  pub kind : ℕ
  pub owner : Bytes
  pub long : length owner ≡ 16
  pub head : take 64 side ≡ side_form kind owner
  pub other : kind ≡ 3 → owner ≡ store → ⊥

-- ---- both

abbrev pub IsOther : List ℕ → List ℕ → Type 0
IsOther log side = IsOtherLog log ⊎ ((store : Bytes) × IsOfStore store log × IsOtherSide store side)
