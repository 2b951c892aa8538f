-- What a message says, from its bytes between SOH and its end, or why it is not read. Places count from 0 over these bytes.
use Rattle.std.specs.Prelude.{◌≡◌, ℕ, ◌+◌, Bool, false, not, ◌&&◌, ◌||◌, if◌then◌else◌, List, [], length, take, Option, Some, None, Result, Ok, Err}
use Rattle.news_types.specs.declared.words.Media.TheVariants.{Text}
use Rattle.news_types.specs.declared.words.PubStatus.{PubStatus}
use Rattle.news_types.specs.declared.words.PubStatus.TheVariants.{Usable, Withheld}
use Rattle.news_types.specs.declared.story.Story.{Story}
use Rattle.news_types.specs.declared.story.Incoming.{Incoming}
use Rattle.text7901.specs.Fields.{before, behind_byte, utf8, fitting}
use Rattle.agency_wires.specs.declared.fault.What.TheVariants.{NotThisForm, NoHeader, NoText, NoEnd, TooLong}
use Rattle.agency_wires.specs.declared.fault.WireFault.{WireFault}
use Rattle.agency_wires.specs.declared.fault.WireFault.TheVariants.{Fault, Memory}
use Rattle.agency_wires.specs.Characters.{decoded}
use Rattle.agency_wires.specs.Parts.{line, is_within, has}
use Rattle.agency_wires.specs.Header.{header_line, slug, has_header, behind_number, urgency, category}
use Rattle.agency_wires.specs.Headline.{headline, body}
use Rattle.agency_wires.specs.HeldWords.{has_held_word}
use Rattle.agency_wires.specs.Identity.{identity}

-- ---- the parts of a message: before STX, from there to ETX, and behind that. What is missing is empty. Each part is in UTF-8 or in
-- Windows-1252 for itself.

unfoldable pub head_of : List ℕ → List ℕ
head_of bytes = decoded (before 2 bytes)

unfoldable pub text_of : List ℕ → List ℕ
text_of bytes = decoded (before 3 (behind_byte 2 bytes))

unfoldable pub info_of : List ℕ → List ℕ
info_of bytes = decoded (behind_byte 3 (behind_byte 2 bytes))

-- the place behind STX
abbrev pub text_place : List ℕ → ℕ
text_place bytes = length (before 2 bytes) + 1

-- ---- what is wrong

-- A message of ANPA 1312 has `^` and `<` in its text's first line that is not empty.
abbrev pub is_anpa : List ℕ → Bool
is_anpa told = has 94 (line told) && has 60 (line told)

-- what is wrong with the text: another form; no STX; no ETX behind it; a body past the longest of a story
abbrev pub wrong_text : List ℕ → List ℕ → Option WireFault
wrong_text bytes text =
    if is_anpa text then Some (Fault (text_place bytes) NotThisForm)
    else if not (has 2 bytes) then Some (Fault (length bytes) NoText)
    else if not (has 3 (behind_byte 2 bytes)) then Some (Fault (length bytes) NoEnd)
    else if not (is_within 524_288 (body text)) then Some (Fault (text_place bytes) TooLong)
    else None

-- first that the header line does not begin with source and number
abbrev pub wrong : List ℕ → List ℕ → List ℕ → Option WireFault
wrong bytes head text = if not (has_header (header_line head)) then Some (Fault 0 NoHeader) else wrong_text bytes text

-- ---- what comes in

-- of what follows source and number, the slug part, the headline and the body
abbrev pub story_with : List ℕ → List ℕ → List ℕ → List ℕ → Story
story_with rest slug headline body = record {
  kind = Text;
  urgency = urgency rest;
  slugline = fitting 500 slug;
  headline = fitting 500 headline;
  byline = [];
  language = [];
  category = utf8 (category rest);
  body = utf8 body;
  html = false;
  copyright = [];
}

abbrev pub story_of : List ℕ → List ℕ → Story
story_of head text = story_with (behind_number (header_line head)) (slug head) (headline text) (body text)

-- withheld where slugline, headline or the first 200 characters of the text have a word that holds a story back
abbrev pub status_with : List ℕ → List ℕ → List ℕ → PubStatus
status_with slug headline text = if has_held_word false slug || has_held_word false headline || has_held_word false (take 200 text) then Withheld else Usable

abbrev pub incoming_of : List ℕ → List ℕ → List ℕ → ℕ → Incoming
incoming_of head text info day = record {
  identity = identity (header_line head) info day;
  created = 0;
  embargo = 0;
  status = status_with (slug head) (headline text) text;
  story = story_of head text;
}

abbrev pub or_fault : Option WireFault → Incoming → Result Incoming WireFault
or_fault None told = Ok told
or_fault (Some fault) told = Err fault

-- what a message comes to of which these are the parts
abbrev pub told_of : List ℕ → List ℕ → List ℕ → List ℕ → ℕ → Result Incoming WireFault
told_of bytes head text info day = or_fault (wrong bytes head text) (incoming_of head text info day)

-- what a message says that is read on this day
abbrev pub told : ℕ → List ℕ → Result Incoming WireFault
told day bytes = told_of bytes (head_of bytes) (text_of bytes) (info_of bytes) day

-- what was told is what was read, the fault, or want of memory
abbrev pub IsRead : {A : Type 0} → Result A WireFault → Result A WireFault → Type 0
IsRead told (Ok a) = told ≡ Ok a
IsRead told (Err Memory) = Unit {0}
IsRead told (Err fault) = told ≡ Err fault
