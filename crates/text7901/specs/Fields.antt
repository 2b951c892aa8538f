-- The fields of a message of the wire, read from the bytes between its SOH and its end. Each byte is a character of ISO 8859-1.
use Rattle.std.specs.Prelude.{ℕ, zero, suc, ◌-◌, Bool, true, false, ◌&&◌, ◌||◌, nat_le, ◌==◌, if◌then◌else◌, List, [], ◌∷◌, ◌++◌, length, take, reverse, codes}
use Rattle.std.specs.Str.{encode_utf8_all}
use Rattle.std.specs.Char.{encode_utf8}
use Rattle.news_types.specs.declared.words.Media.TheVariants.{Text}
use Rattle.news_types.specs.declared.words.PubStatus.TheVariants.{Usable}
use Rattle.news_types.specs.declared.story.Story.{Story}
use Rattle.news_types.specs.declared.story.Incoming.{Incoming}

abbrev pub letter : ℕ → Bool
letter b = (nat_le 65 b && nat_le b 90) || (nat_le 97 b && nat_le b 122)

abbrev pub digit : ℕ → Bool
digit b = nat_le 48 b && nat_le b 57

-- space, CR and LF
abbrev pub blank : ℕ → Bool
blank b = b == 32 || b == 13 || b == 10

-- ---- parts of some bytes

-- the leading bytes that pass, of which at most n count
abbrev pub lead : (ℕ → Bool) → ℕ → List ℕ → List ℕ
lead p zero bytes = []
lead p (suc n) [] = []
lead p (suc n) (b ∷ bytes) = if p b then b ∷ lead p n bytes else []

-- what follows them
abbrev pub past : (ℕ → Bool) → ℕ → List ℕ → List ℕ
past p zero bytes = bytes
past p (suc n) [] = []
past p (suc n) (b ∷ bytes) = if p b then past p n bytes else b ∷ bytes

-- what stands before the first such byte: all where there is none
abbrev pub before : ℕ → List ℕ → List ℕ
before x [] = []
before x (b ∷ bytes) = if b == x then [] else b ∷ before x bytes

-- what stands behind the first such byte: nothing where there is none
abbrev pub behind_byte : ℕ → List ℕ → List ℕ
behind_byte x [] = []
behind_byte x (b ∷ bytes) = if b == x then bytes else behind_byte x bytes

-- without the leading blanks
abbrev pub trim_front : List ℕ → List ℕ
trim_front [] = []
trim_front (b ∷ bytes) = if blank b then trim_front bytes else b ∷ bytes

-- without the blanks at both ends
abbrev pub trim : List ℕ → List ℕ
trim bytes = reverse (trim_front (reverse (trim_front bytes)))

abbrev pub begins_line : List ℕ → Bool
begins_line [] = false
begins_line (b ∷ bytes) = b == 10

-- CR LF counts as LF
abbrev pub with_lf : List ℕ → List ℕ
with_lf [] = []
with_lf (b ∷ bytes) = if b == 13 && begins_line bytes then with_lf bytes else b ∷ with_lf bytes

-- the first line, up to a CR LF or an LF
abbrev pub first_line : List ℕ → List ℕ
first_line [] = []
first_line (b ∷ bytes) = if b == 10 || (b == 13 && begins_line bytes) then [] else b ∷ first_line bytes

-- without one LF at the end
abbrev pub without_last_lf : List ℕ → List ℕ
without_last_lf [] = []
without_last_lf (b ∷ []) = if b == 10 then [] else b ∷ []
without_last_lf (b ∷ c ∷ bytes) = b ∷ without_last_lf (c ∷ bytes)

-- as UTF-8
abbrev pub utf8 : List ℕ → List ℕ
utf8 bytes = encode_utf8_all bytes

-- at most 500 bytes as UTF-8
abbrev pub is_short : List ℕ → Bool
is_short bytes = nat_le (length (utf8 bytes)) 500

-- the characters from the front on that have at most n bytes together as UTF-8
abbrev pub fitting : ℕ → List ℕ → List ℕ
fitting n [] = []
fitting n (b ∷ bytes) = if nat_le (length (encode_utf8 b)) n then encode_utf8 b ++ fitting (n - length (encode_utf8 b)) bytes else []

-- ---- the parts of a message

abbrev pub source : List ℕ → List ℕ
source bytes = lead letter 8 bytes

abbrev pub number : List ℕ → List ℕ
number bytes = lead digit 8 (past letter 8 bytes)

-- the rest of the header line and the slug part
abbrev pub head : List ℕ → List ℕ
head bytes = before 2 (past digit 8 (past letter 8 bytes))

abbrev pub behind_head : List ℕ → List ℕ
behind_head bytes = behind_byte 2 (past digit 8 (past letter 8 bytes))

abbrev pub text : List ℕ → List ℕ
text bytes = before 3 (behind_head bytes)

-- the post-text information
abbrev pub info : List ℕ → List ℕ
info bytes = behind_byte 3 (behind_head bytes)

-- ---- the rest of the header line

-- a field is followed by a space or the line's end
abbrev pub ends_field : List ℕ → Bool
ends_field [] = true
ends_field (b ∷ line) = b == 32

abbrev pub is_urgency : ℕ → ℕ → List ℕ → Bool
is_urgency space b line = space == 32 && nat_le 49 b && nat_le b 57 && ends_field line

-- a space and a digit 1 to 9, else none
abbrev pub urgency : List ℕ → ℕ
urgency (space ∷ b ∷ line) = if is_urgency space b line then b - 48 else 0
urgency _ = 0

-- what follows the urgency: nothing that counts where there is none
abbrev pub behind_urgency : List ℕ → List ℕ
behind_urgency (space ∷ b ∷ line) = if is_urgency space b line then line else []
behind_urgency _ = []

-- a space and 1 to 3 letters, else none
abbrev pub category_in : List ℕ → List ℕ
category_in [] = []
category_in (space ∷ line) = if space == 32 && ends_field (past letter 3 line) then lead letter 3 line else []

abbrev pub category : List ℕ → List ℕ
category line = category_in (behind_urgency line)

-- ---- slugline, headline and body

-- empty where it would be too long
abbrev pub slugline : List ℕ → List ℕ
slugline slug = if is_short slug then utf8 slug else []

-- The headline is the text's first line. Where it would be too long it is empty, and the whole text is the body.
abbrev pub headline : List ℕ → List ℕ
headline lines = if is_short (before 10 lines) then utf8 (before 10 lines) else []

abbrev pub body : List ℕ → List ℕ
body lines = if is_short (before 10 lines) then utf8 (behind_byte 10 lines) else utf8 lines

-- the text with LF for CR LF, without the one line end at its end
abbrev pub lines_of : List ℕ → List ℕ
lines_of bytes = without_last_lf (with_lf bytes)

-- ---- what comes in

abbrev pub story_of : List ℕ → List ℕ → List ℕ → Story
story_of line slug lines = record {
  kind = Text;
  urgency = urgency line;
  slugline = slugline slug;
  headline = headline lines;
  byline = [];
  language = [];
  category = utf8 (category line);
  body = body lines;
  html = false;
  copyright = [];
}

abbrev pub story : List ℕ → Story
story bytes = story_of (first_line (head bytes)) (trim (behind_byte 10 (head bytes))) (lines_of (text bytes))

-- source, number, `@` and the post-text information, of which the first 200 bytes count
abbrev pub named : List ℕ → List ℕ
named bytes = source bytes ++ number bytes ++ codes "@" ++ trim (take 200 (info bytes))

-- cut at the last whole character where it would be longer than 256 bytes
abbrev pub identity : List ℕ → List ℕ
identity bytes = fitting 256 (named bytes)

abbrev pub incoming : List ℕ → Incoming
incoming bytes = record {
  identity = identity bytes;
  created = 0;
  embargo = 0;
  status = Usable;
  story = story bytes;
}
