-- What passes over a link as the records of a list are shipped.
use Rattle.std.specs.Prelude.{◌≡◌, ◌≤◌, ◌<◌, ◌+◌, ℕ, List, [], ◌∷◌, ◌++◌, length, Option, Some, None, slice_get, Result, Ok, Err}
use Rattle.news_types.specs.declared.entry.Entry.{Entry}
use Rattle.news_types.specs.Names.{Bytes}
use Rattle.news_types.specs.History.{History}
use Rattle.news_types.specs.Calls.{entry_at}
use Rattle.news_io.specs.Faults.{Rose}
use Rattle.news_io.specs.Link.{Passed, Sent, Said, Nothing, LinkMeaning, Goes}
use Rattle.news_io.specs.declared.record.Record.{Record}
use Rattle.entry_codec.specs.Spelling.{entry_bytes}
use Rattle.entry_codec.specs.Formed.{IsEntry}
use Rattle.record_lines.specs.Spelling.{record_bytes, kept_bytes}
use Rattle.standby_laws.specs.Standby.{SentRecord}
use Rattle.standby_laws.specs.Following.{Following, Ships as Sends, happens}
use Rattle.standby_laws.specs.Law.{IsPrefix}
use Rattle.room_standby.specs.Holds.{AreOf}
use Rattle.room_standby.specs.Comes.{AreSent}
use Rattle.room_standby.specs.declared.outcome.Ship.{Ship}
use Rattle.room_standby.specs.declared.outcome.Ship.TheVariants.{Level, LinkFault, NoKept, Memory}

-- ---- the replies

-- each says of at least one record more that it is kept, and of none past the last
abbrev pub Rise : ℕ → ℕ → List ℕ → Type 0
Rise total from [] = Unit {0}
Rise total from (c ∷ counts) = (from < c) × (c ≤ total) × Rise total c counts

-- how many are kept behind these replies
abbrev pub behind : ℕ → List ℕ → ℕ
behind from [] = from
behind from (c ∷ counts) = behind c counts

-- the reply to record n is no KEPT line with a count from n to the number of records
abbrev pub IsNoKept : ℕ → ℕ → Bytes → Type 0
IsNoKept total n reply = (c : ℕ) → n ≤ c → c ≤ total → reply ≡ kept_bytes c → ⊥

-- ---- what passed

abbrev pub payload_of : Option Record → Bytes
payload_of None = []
payload_of (Some r) = r.bytes

-- the record line of the record behind so many
abbrev pub line_behind : List Record → ℕ → Bytes
line_behind records from = record_bytes (record { number = from + 1; payload = payload_of (slice_get records from) })

-- with the standby's name
abbrev pub next_line : List Record → Bytes → ℕ → Bytes × Bytes
next_line records name from = (name, line_behind records from)

-- the record that is sent is the one behind those that are kept
abbrev pub lines : List Record → Bytes → ℕ → List ℕ → List (Bytes × Bytes)
lines records name from [] = []
lines records name from (c ∷ counts) = next_line records name from ∷ lines records name c counts

abbrev pub replies : Bytes → List ℕ → List (Bytes × Bytes)
replies name [] = []
replies name (c ∷ counts) = (name, kept_bytes c) ∷ replies name counts

abbrev pub passed : List Record → Bytes → ℕ → List ℕ → List Passed
passed records name from [] = []
passed records name from (c ∷ counts) =
    Sent name (line_behind records from) ∷ Said name (kept_bytes c) ∷ passed records name c counts

-- what came of the last record
pub data Ending : Type 0 where
  -- there was none: all are kept, or memory was wanting for its line
  Unasked : Ending
  -- it could not be sent
  Unsent : Ending
  -- it was sent, and no reply could be read
  Unread : Ending
  -- it was sent, and this reply is none that goes on
  Replied : Bytes → Ending

abbrev pub last_lines : List Record → Bytes → ℕ → Ending → List (Bytes × Bytes)
last_lines records name from Unasked = []
last_lines records name from Unsent = []
last_lines records name from Unread = next_line records name from ∷ []
last_lines records name from (Replied reply) = next_line records name from ∷ []

abbrev pub last_replies : Bytes → Ending → List (Bytes × Bytes)
last_replies name (Replied reply) = (name, reply) ∷ []
last_replies name ending = []

abbrev pub last_passed : List Record → Bytes → ℕ → Ending → List Passed
last_passed records name from Unasked = []
last_passed records name from Unsent = Nothing ∷ []
last_passed records name from Unread = Sent name (line_behind records from) ∷ Nothing ∷ []
last_passed records name from (Replied reply) = Sent name (line_behind records from) ∷ Said name reply ∷ []

-- what is answered, with so many kept and this ending
abbrev pub EndsBy : ℕ → ℕ → Ending → Ship → Type 0
EndsBy total from Unasked (Level count) = (from ≡ total) × (count ≡ total)
EndsBy total from Unasked Memory = from < total
EndsBy total from Unsent (LinkFault n) = (from < total) × (n ≡ from + 1)
EndsBy total from Unread (LinkFault n) = (from < total) × (n ≡ from + 1)
EndsBy total from (Replied reply) (NoKept n line) =
    (from < total) × (n ≡ from + 1) × (line ≡ reply) × IsNoKept total n reply
EndsBy total from ending answer = ⊥

-- a link that tells was sent these lines, and gave these replies; and these passed in its calls, in order
pub record Passes {L : Type 0} (link : LinkMeaning L) (old new : L) (sent said : List (Bytes × Bytes))
    (went : List Passed) : Type 0 where
  pub tells : link.tells new
  pub sent_is : link.sent new ≡ link.sent old ++ sent
  pub said_is : link.said new ≡ link.said old ++ said
  pub goes : Goes link old new went

-- records from so many kept on are shipped
pub record Ships {L : Type 0} (link : LinkMeaning L) (old new : L) (records : List Record) (name : Bytes) (from : ℕ)
    (answer : Ship) : Type 0 where
  pub counts : List ℕ
  pub ending : Ending
  pub rise : Rise (length records) from counts
  pub ends : EndsBy (length records) (behind from counts) ending answer
  pub passes : link.tells old
      → Passes link old new (lines records name from counts ++ last_lines records name (behind from counts) ending)
      (replies name counts ++ last_replies name ending)
      (passed records name from counts ++ last_passed records name (behind from counts) ending)

-- one record is sent, and its reply goes on, or ends it
abbrev pub Exchanges : {L : Type 0} → LinkMeaning L → L → L → List Record → Bytes → ℕ → Result ℕ Ship → Type 0
Exchanges link old new records name from (Ok c) =
    (from < c) × (c ≤ length records)
    × (link.tells old → Passes link old new (next_line records name from ∷ []) ((name, kept_bytes c) ∷ [])
    (Sent name (line_behind records from) ∷ Said name (kept_bytes c) ∷ []))
Exchanges link old new records name from (Err answer) =
    (ending : Ending) × EndsBy (length records) from ending answer
    × (link.tells old → Passes link old new (last_lines records name from ending) (last_replies name ending)
    (last_passed records name from ending))

-- a failure of the link is answered only where its count rose, and else it is as it was
abbrev pub ShipCounts : ℕ → ℕ → Ship → Type 0
ShipCounts before now (LinkFault n) = Rose before now
ShipCounts before now answer = now ≡ before

abbrev pub ExchangeCounts : ℕ → ℕ → Result ℕ Ship → Type 0
ExchangeCounts before now (Ok c) = now ≡ before
ExchangeCounts before now (Err answer) = ShipCounts before now answer

-- the reply to record n: a count from n to the number of records, or none that goes on
abbrev pub IsReply : ℕ → ℕ → Bytes → Result ℕ Ship → Type 0
IsReply total n reply (Ok c) = (n ≤ c) × (c ≤ total) × (reply ≡ kept_bytes c)
IsReply total n reply (Err (NoKept m line)) = (m ≡ n) × (line ≡ reply) × IsNoKept total n reply
IsReply total n reply (Err answer) = ⊥

-- a record that has a line
abbrev pub HasLine : Record → Type 0
HasLine r = (1 ≤ length r.bytes) × (length r.bytes ≤ 4194304)

-- the line behind so many records is that of the list's entry of the next number
pub record IsOfNumber (h : History) (records : List Record) (from : ℕ) : Type 0 where
  pub entry : Entry
  pub there : entry_at h (from + 1) ≡ Some entry
  pub formed : IsEntry entry
  pub line : line_behind records from ≡ record_bytes (record { number = from + 1; payload = entry_bytes entry })

-- the records are of a list: then each line is that of its entry of that number
abbrev pub LinesAreEntries : List Record → Type 0
LinesAreEntries records =
    (h : History) → AreOf records h → (from : ℕ) → from < length records → IsOfNumber h records from

-- the bytes are the line of the record that the event of this number sends
pub record IsSentBy (w : Following) (n : ℕ) (bytes : Bytes) : Type 0 where
  pub sent : SentRecord
  pub number : sent.number ≡ n
  pub event : happens w (Sends n) ≡ record w { records = sent ∷ w.records }
  pub line : AreSent sent bytes

-- the records are of the primary's list, or of a front of it: then each line is that of the event of its number
abbrev pub LinesAreEvents : List Record → Type 0
LinesAreEvents records =
    (w : Following) (h : History) → AreOf records h → IsPrefix h w.primary → (from : ℕ) → from < length records
    → IsSentBy w (from + 1) (line_behind records from)
