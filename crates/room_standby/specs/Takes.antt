-- What a standby answers to some bytes, and what becomes of its keeper.
use Rattle.std.specs.Prelude.{◌≡◌, ◌≤◌, ◌<◌, ◌+◌, ◌-◌, ℕ, false, List, [], ◌∷◌, ◌++◌, length, Some}
use Rattle.news_types.specs.declared.entry.Entry.{Entry}
use Rattle.news_types.specs.Names.{Bytes}
use Rattle.news_types.specs.Calls.{Fate, IsKept, IsFull, IsFailed, IsStarved}
use Rattle.news_types.specs.Server.{Server, put}
use Rattle.news_io.specs.Faults.{Rose}
use Rattle.news_io.specs.declared.record.Record.{Record}
use Rattle.byte_formats.specs.Faults.{IsFaultAt}
use Rattle.entry_codec.specs.Spelling.{entry_bytes}
use Rattle.entry_codec.specs.Formed.{IsEntry}
use Rattle.record_lines.specs.Spelling.{Numbered, record_bytes, IsRecord}
use Rattle.record_lines.specs.Reads.{AreRecord}
use Rattle.standby_laws.specs.Standby.{Reaction, reaction}
use Rattle.standby_laws.specs.Standby as step
use Rattle.room_standby.specs.declared.standby.Standby.{Standby}
use Rattle.room_standby.specs.declared.standby.Shipped.{Shipped}
use Rattle.room_standby.specs.declared.standby.Shipped.TheVariants.{BadRecord, Known, Ahead, NoEntry, Accepted, Fault, Full, Memory}

-- what became of the next record; one that is not the next is not tried
abbrev pub fate_of : Shipped → Fate
fate_of (Accepted n) = IsKept
fate_of Fault = IsFailed
fate_of (Full size count) = IsFull
fate_of answer = IsStarved

-- the bytes are a record line, to which the standby with so many records reacts so
abbrev pub IsLine : Bytes → ℕ → Reaction → Numbered → Type 0
IsLine bytes count t r = AreRecord r bytes × (reaction count r.number ≡ t)

-- they are this one, which is the next, of this entry
pub record IsNext (bytes : Bytes) (count : ℕ) (line : Numbered) (e : Entry) : Type 0 where
  pub is : IsLine bytes count step.Next line
  pub entry : IsEntry e
  pub payload : line.payload ≡ entry_bytes e

-- the answer to bytes that are not the next record of an entry, by a standby with so many records
abbrev pub IsRefused : ℕ → Bytes → Shipped → Type 0
IsRefused count bytes (BadRecord at) = IsFaultAt record_bytes IsRecord bytes at
IsRefused count bytes (Known held) = ((r : Numbered) × IsLine bytes count step.Known r) × (held ≡ count)
IsRefused count bytes (Ahead held) = ((r : Numbered) × IsLine bytes count step.Ahead r) × (held ≡ count)
IsRefused count bytes (NoEntry at) =
    (r : Numbered) × IsLine bytes count step.Next r × IsFaultAt entry_bytes IsEntry r.payload at
IsRefused count bytes Memory = (r : Numbered) × IsLine bytes count step.Next r
IsRefused count bytes answer = ⊥

-- the next record of an entry, by what became of it
abbrev pub IsTried : Server → Bytes → Shipped → Server → Type 0
IsTried s bytes answer s' =
    (line : Numbered) × (e : Entry) × IsNext bytes (length s.list) line e × (s' ≡ put s (Some e) (fate_of answer))

-- what the bytes are to a standby with this list and doubt, and what it then has
abbrev pub IsStep : Server → Bytes → Shipped → Server → Type 0
IsStep s bytes (Accepted n) s' = IsTried s bytes (Accepted n) s' × (n ≡ length s.list + 1)
IsStep s bytes Fault s' = IsTried s bytes Fault s'
IsStep s bytes (Full size count) s' = IsTried s bytes (Full size count) s'
IsStep s bytes answer s' = IsRefused (length s.list) bytes answer × (s' ≡ s)

-- the standby is as before, unless its keeper was asked; want of memory leaves the keeper
abbrev pub SameUnlessAsked : {K : Type 0} → Standby K → Standby K → Shipped → Type 0
SameUnlessAsked old new (Accepted n) = Unit {0}
SameUnlessAsked old new Fault = Unit {0}
SameUnlessAsked old new (Full size count) = Unit {0}
SameUnlessAsked old new Memory = new.keeper ≡ old.keeper
SameUnlessAsked old new answer = new ≡ old

-- a fault comes only where the count rose, and else it is as it was
abbrev pub FaultCounts : ℕ → ℕ → Shipped → Type 0
FaultCounts before now Fault = Rose before now × (before ≤ now)
FaultCounts before now answer = now ≡ before

-- A payload of so many bytes takes five more, and is Full exactly where the bytes in use would pass the limit,
-- with their number and its length.
abbrev pub Uses : ℕ → ℕ → ℕ → Shipped → Type 0
Uses before now bytes (Accepted n) = (now ≡ before + bytes + 5) × (now ≤ 1073741824)
Uses before now bytes Fault = (now ≡ before) × (before + bytes + 5 ≤ 1073741824)
Uses before now bytes (Full size count) =
    (now ≡ before) × (1073741824 < before + bytes + 5) × (size ≡ before) × (count ≡ bytes)
Uses before now bytes answer = now ≡ before

-- ---- the next record's payload, by what became of it

abbrev pub IsTry : Shipped → Type 0
IsTry (Accepted n) = Unit {0}
IsTry Fault = Unit {0}
IsTry (Full size count) = Unit {0}
IsTry Memory = Unit {0}
IsTry answer = ⊥

-- what a standby has of the records: one that is kept begins at the gate that was the last byte in use of the log
abbrev pub record_at : ℕ → Bytes → Record
record_at used payload = record { at = used - 1; side = false; bytes = payload }

abbrev pub Adds : List Record → List Record → ℕ → Bytes → Shipped → Type 0
Adds old new used payload (Accepted n) = (new ≡ old ++ record_at used payload ∷ []) × (n ≡ length old + 1)
Adds old new used payload answer = new ≡ old

-- the keeper's list
abbrev pub ListAfter : List Bytes → List Bytes → Bytes → Shipped → Type 0
ListAfter old new payload (Accepted n) = new ≡ old ++ payload ∷ []
ListAfter old new payload answer = new ≡ old
