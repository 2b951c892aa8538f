-- What a provider sends in one body: its members, in order, and what each comes to on the day of a reading.
use Rattle.std.specs.Prelude.{◌≡◌, ◌<◌, ◌≤◌, ◌+◌, ◌^◌, ℕ, List, [], ◌∷◌, ◌++◌, map, length, codes, Some, None, Result, Ok, Err}
use Rattle.std.specs.Global.{Vec}
use Rattle.std.specs.List.{join_by}
use Rattle.news_types.specs.Fits.{FitsIncoming}
use Rattle.news_types.specs.Names.{Bytes}
use Rattle.news_types.specs.declared.entry.Entry.{Entry}
use Rattle.news_types.specs.declared.story.Incoming.{Incoming}
use Rattle.news_types.specs.declared.text.Memory.{Memory}
use Rattle.line_run.specs.Life.{Outcome, Meaning}
use Rattle.command_words.specs.declared.words.IngestFormat.{IngestFormat}
use Rattle.command_words.specs.declared.words.IngestFormat.TheVariants as format
use Rattle.text7901.specs.Wire.{wire}
use Rattle.text7901.specs.declared.found.Found as text
use Rattle.text7901.specs.declared.found.Found.TheVariants as text_is
use Rattle.ninjs_text.specs.declared.fault.NinjsFault.{NinjsFault}
use Rattle.agency_wires.specs.Messages.{messages}
use Rattle.agency_wires.specs.Reading.{told}
use Rattle.agency_wires.specs.declared.found.Found as agency
use Rattle.agency_wires.specs.declared.found.Found.TheVariants as agency_is
use Rattle.agency_wires.specs.declared.fault.WireFault.{WireFault}
use Rattle.agency_wires.specs.declared.fault.WireFault.TheVariants as wire_fault
use Rattle.agency_items.specs.Items.{items}
use Rattle.agency_items.specs.declared.fault.ItemFault.{ItemFault}
use Rattle.desk_answers.specs.Answers.{fault_bytes}
use Rattle.wire_run.specs.Members.{of_found, of_item, one_item, only_told, what_word, fault_word, fault_property}
use Rattle.agency_runs.specs.Members.{of_message, of_read, too_long_bytes, message_fault_bytes, item_word, item_property}
use Rattle.agency_runs.specs.declared.messages.Told.{Told}
use Rattle.agency_runs.specs.declared.messages.Told.TheVariants as told_is
use Rattle.wire_bodies.specs.declared.member.BodyMember.{BodyMember}
use Rattle.wire_bodies.specs.declared.member.BodyMember.TheVariants.{Story, Message, Line}
use Rattle.wire_bodies.specs.declared.member.BodyFault.{BodyFault}
use Rattle.wire_bodies.specs.declared.member.BodyFault.TheVariants as fault_is

-- ---- the members of a body

-- a story of a wire, or the line of a fault with its place
abbrev pub text_member : text.Found → BodyMember
text_member (text_is.Story incoming) = Story incoming
text_member (text_is.Fault place what) = Line (fault_bytes (Some place) (what_word what) None)

-- an item, or the line of its fault
abbrev pub item_member : Result Incoming NinjsFault → BodyMember
item_member (Ok incoming) = Story incoming
item_member (Err fault) = Line (fault_bytes None (fault_word fault) (fault_property fault))

-- a message of an agency's wire, which is not read yet, or the line of one that is too long
abbrev pub agency_member : agency.Found → BodyMember
agency_member (agency_is.Message at bytes) = Message at bytes
agency_member (agency_is.TooLong at) = Line (too_long_bytes at)

-- an item of an agency, or the line of its fault
abbrev pub agency_item_member : Result Incoming ItemFault → BodyMember
agency_item_member (Ok incoming) = Story incoming
agency_item_member (Err fault) = Line (fault_bytes None (item_word fault) (item_property fault))

-- all members of a body, by its format
abbrev pub members_of : IngestFormat → List ℕ → List BodyMember
members_of format.Wire body = map text_member (wire body)
members_of format.Item body = map item_member (one_item body)
members_of format.AgencyWire body = map agency_member (messages body)
members_of format.AgencyItems body = map agency_item_member (items body)

-- there are more than a body may have, or there is no memory for them
abbrev pub IsFault : List BodyMember → BodyFault → Type 0
IsFault members fault_is.TooMany = 4096 < length members
IsFault members fault_is.Memory = Unit {0}

-- what was read are these members, at most 4096, or why it was not
abbrev pub IsBody : List BodyMember → Result (Vec BodyMember) BodyFault → Type 0
IsBody members (Ok read) = (read.items ≡ members) × (length members ≤ 4096)
IsBody members (Err fault) = IsFault members fault

-- a story lies within the limits, and a message within a body of fewer than 2 ^ 63 bytes
abbrev pub FitsMember : BodyMember → Type 0
FitsMember (Story incoming) = FitsIncoming incoming
FitsMember (Message at bytes) = at + 1 + length bytes < 2 ^ 63
FitsMember (Line text) = Unit {0}

-- ---- what a member comes to

-- A message that was read: a story, or the line of its fault. No message says that there is no memory.
abbrev pub message_told : ℕ → Result Incoming WireFault → Result Incoming Bytes
message_told at (Ok incoming) = Ok incoming
message_told at (Err (wire_fault.Fault within what)) = Err (message_fault_bytes at within what)
message_told at (Err wire_fault.Memory) = Err (fault_bytes (Some at) (codes "Memory") None)

-- the story of a member, or its line, on the day of a reading
abbrev pub told_of : ℕ → BodyMember → Result Incoming Bytes
told_of reading (Story incoming) = Ok incoming
told_of reading (Message at bytes) = message_told at (told reading bytes)
told_of reading (Line text) = Err text

-- this story, which lies within the limits, or this line; or there was no memory
abbrev pub IsToldAt : Result Incoming Bytes → Result Told Memory → Type 0
IsToldAt said (Ok (told_is.Story incoming)) = (said ≡ Ok incoming) × FitsIncoming incoming
IsToldAt said (Ok (told_is.Line text)) = said ≡ Err text.items
IsToldAt said (Err memory) = Unit {0}

-- ---- the members of a body are those of an input

-- what a story is answered, or a line alone
abbrev pub answered : Meaning Entry Incoming → List Entry → ℕ → Result Incoming Bytes → Outcome Entry
answered M h reading (Ok incoming) = M h incoming reading
answered M h reading (Err text) = only_told text

-- the same text, and the same entries that follow the list
abbrev pub IsSameRow : Outcome Entry → Outcome Entry → Type 0
IsSameRow one other = (one.text ≡ other.text) × (one.adds ≡ other.adds) × (one.passes ≡ other.passes)

-- One by one, at whatever list and reading, a member of an input is answered as the story or the line of a member of a body is.
abbrev pub AreAnswered : {X : Type 0} → Meaning Entry Incoming → Meaning Entry X → List X → List BodyMember → Type 0
AreAnswered M N [] [] = Unit {0}
AreAnswered M N (x ∷ xs) (member ∷ members) =
    ((h : List Entry) (reading : ℕ) → IsSameRow (N h x reading) (answered M h reading (told_of reading member))) × AreAnswered M N xs members
AreAnswered M N _ _ = ⊥

-- the members of a body are answered as those of an input that has the same bytes
abbrev pub IsIngested : Meaning Entry Incoming → IngestFormat → List ℕ → Type 0
IsIngested M format.Wire body = AreAnswered M (of_found M) (wire body) (members_of format.Wire body)
IsIngested M format.Item body = AreAnswered M (of_item M) (one_item body) (members_of format.Item body)
IsIngested M format.AgencyWire body = AreAnswered M (of_message M) (messages body) (members_of format.AgencyWire body)
IsIngested M format.AgencyItems body = AreAnswered M (of_read M) (items body) (members_of format.AgencyItems body)

-- ---- the answers of a wire

-- one object with the lines of all members, in order
abbrev pub rows_bytes : List Bytes → List ℕ
rows_bytes rows = codes "{\"answer\":\"wire\",\"rows\":[" ++ (join_by (λ row. row) (codes ",") rows ++ codes "]}")
