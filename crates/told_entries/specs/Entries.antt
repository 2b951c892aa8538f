-- A list of entries, told line by line.
use Rattle.std.specs.Prelude.{ℕ, ◌+◌, ◌^◌, ◌<◌, nat_le, [], ◌∷◌, ◌++◌, length, codes, ◌==◌, if◌then◌else◌}
use Rattle.serde_json.specs.Data.{Members, no_members}
use Rattle.news_types.specs.declared.entry.Entry.{Entry}
use Rattle.news_types.specs.declared.entry.Act.{Act}
use Rattle.news_types.specs.declared.entry.Act.TheVariants.{Advance, Attempt, Receipt, Halt, Ingest, Request}
use Rattle.news_types.specs.declared.entry.Reply.{Reply}
use Rattle.news_types.specs.declared.story.Incoming.{Incoming}
use Rattle.news_types.specs.Names.{Bytes}
use Rattle.news_types.specs.Members.{Each}
use Rattle.news_types.specs.History.{History}
use Rattle.news_types.specs.Outcome.{reply_to}
use Rattle.entry_codec.specs.Formed.{IsEntry}
use Rattle.told_objects.specs.Members.{◌with◌, text, number, inner, written}
use Rattle.told_entries.specs.Words.{status_word}
use Rattle.told_entries.specs.Members.{unless_zero}
use Rattle.told_entries.specs.Objects.{story_members}
use Rattle.told_entries.specs.Commands.{request_members}

-- the release is that of a publication
unfoldable pub released : Reply → Members → Members
released reply members = if reply.publication == 0 then members else unless_zero "release" reply.release members

-- what the reply says of items and publications
unfoldable pub replied : Reply → Members → Members
replied reply members = members with unless_zero "item" reply.item with unless_zero "publication" reply.publication with released reply

-- what came in from a provider
unfoldable pub ingest_members : Bytes → Incoming → Members
ingest_members provider incoming =
    no_members with text "act" (codes "ingest") with number "created" incoming.created with number "embargo" incoming.embargo
    with text "identity" incoming.identity with text "provider" provider with text "status" (status_word incoming.status)
    with inner "story" (story_members incoming.story)

-- a request that was accepted
abbrev pub asked_members : Members → Reply → Members
asked_members request reply = no_members with text "act" (codes "request") with inner "request" request with replied reply

unfoldable pub act_members : Act → Reply → Members
act_members Advance reply = no_members with text "act" (codes "advance")
act_members (Attempt subscriber k) reply = no_members with text "act" (codes "attempt") with number "k" k with text "subscriber" subscriber
act_members (Receipt subscriber n) reply = no_members with text "act" (codes "receipt") with number "n" n with text "subscriber" subscriber
act_members Halt reply = no_members with text "act" (codes "halt")
act_members (Ingest provider incoming) reply = ingest_members provider incoming with replied reply
act_members (Request caller n command) reply = asked_members (request_members caller n command) reply

-- the entry of this number, with the reply to it
abbrev pub entry_members : ℕ → Entry → Reply → Members
entry_members n entry reply = act_members entry.act reply with number "entry" n with number "moment" entry.moment

-- as a line, without its end
abbrev pub entry_line : ℕ → Entry → Reply → Bytes
entry_line n entry reply = written (entry_members n entry reply)

-- the line of the entry that comes behind the list, with its end
abbrev pub line_behind : History → Entry → Bytes
line_behind h e = entry_line (length h + 1) e (reply_to h e.moment e.act) ++ 10 ∷ []

-- the lines of the entries behind the first so many, oldest first
abbrev pub audit : ℕ → History → Bytes
audit after [] = []
audit after (e ∷ h) = audit after h ++ (if nat_le after (length h) then line_behind h e else [])

-- entries that a program can hold, each with a number of 64 bits
abbrev pub IsList : History → Type 0
IsList h = Each IsEntry h × (length h < 2 ^ 64)
