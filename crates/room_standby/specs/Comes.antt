-- Record lines that were sent, as they come to a standby.
use Rattle.std.specs.Prelude.{◌≡◌, ◌⊎◌, ◌≤◌, Bool, true, false, List, length, Option}
use Rattle.news_types.specs.Names.{Bytes}
use Rattle.news_types.specs.Server.{Server}
use Rattle.news_io.specs.Keeper.{KeeperMeaning, KeeperGains}
use Rattle.entry_codec.specs.Spelling.{entry_bytes}
use Rattle.entry_codec.specs.Formed.{IsEntry}
use Rattle.record_lines.specs.Spelling.{record_bytes}
use Rattle.standby_laws.specs.Standby.{SentRecord, reaction, taken, is_answered}
use Rattle.standby_laws.specs.Law.{IsStop}
use Rattle.room_standby.specs.Holds.{Followed, Holds}
use Rattle.room_standby.specs.Takes.{fate_of}
use Rattle.room_standby.specs.declared.standby.Standby.{Standby}
use Rattle.room_standby.specs.declared.standby.Shipped.{Shipped}
use Rattle.room_standby.specs.declared.standby.Shipped.TheVariants.{BadRecord, Known, Ahead, NoEntry, Accepted}

-- the bytes are the record line of this record
pub record AreSent (s : SentRecord) (bytes : Bytes) : Type 0 where
  pub entry : IsEntry s.entry
  pub first : 1 ≤ s.number
  pub last : s.number ≤ 281474976710655
  pub is : bytes ≡ record_bytes (record { number = s.number; payload = entry_bytes s.entry })

-- a KEPT line is the reply
abbrev pub is_replied : Shipped → Bool
is_replied (Known held) = true
is_replied (Ahead held) = true
is_replied (Accepted n) = true
is_replied answer = false

-- it is a record line of an entry
abbrev pub IsRead : Shipped → Type 0
IsRead (BadRecord at) = ⊥
IsRead (NoEntry at) = ⊥
IsRead answer = Unit {0}

-- what a stop leaves of either
abbrev pub IsStopOfEither : Server → Server → Option (List Bytes) → Type 0
IsStopOfEither s s' found = IsStop entry_bytes s found ⊎ IsStop entry_bytes s' found

-- What comes of it is what the event does; and a crash at any moment of it leaves what a stop before it leaves, or a
-- stop behind it.
pub record Comes {K : Type 0} (keeper : KeeperMeaning K) (b : Followed) (old new : Standby K) (s : SentRecord)
    (answer : Shipped) : Type 0 where
  pub holds : Holds keeper new (record { told = b.told; standby = taken b.standby s (fate_of answer) })
  pub reply : is_replied answer ≡ is_answered (fate_of answer) (reaction (length b.standby.list) s.number)
  pub read : IsRead answer
  pub stops : b.told ≡ true
      → KeeperGains keeper old.keeper new.keeper (IsStopOfEither b.standby (taken b.standby s (fate_of answer)))
