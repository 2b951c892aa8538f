-- A publication as it is written for the wire. What is not in ISO 8859-1 is written as `?`.
use Rattle.std.specs.Prelude.{ℕ, ◌+◌, ◌-◌, Bool, true, false, ◌&&◌, ◌||◌, nat_lt, nat_le, ◌==◌, if◌then◌else◌, min, List, [], ◌∷◌, ◌++◌, length, map, codes, decimal, replicate}
use Rattle.std.specs.List.{flat_map, filter}
use Rattle.std.specs.Str.{chars}
use Rattle.news_types.specs.declared.words.Kind.{Kind}
use Rattle.news_types.specs.declared.words.Kind.TheVariants.{First, Correct, Kill, Recall}
use Rattle.news_types.specs.declared.story.Story.{Story}
use Rattle.news_types.specs.declared.query.Publication.{Publication}
use Rattle.release_rules.specs.Writer.{moment_text}
use Rattle.text7901.specs.Fields.{letter}

-- ---- characters

-- characters past FF, and 01 to 04, which the wire itself uses, are written as `?`
abbrev pub wire_byte : ℕ → ℕ
wire_byte c = if nat_lt 255 c || (nat_le 1 c && nat_le c 4) then 63 else c

-- in a slugline and a headline, CR and LF are written as a space
abbrev pub line_byte : ℕ → ℕ
line_byte c = if c == 10 || c == 13 then 32 else wire_byte c

-- in a body CR is dropped and LF is written CR LF
abbrev pub body_bytes : ℕ → List ℕ
body_bytes c = if c == 13 then [] else if c == 10 then 13 ∷ 10 ∷ [] else wire_byte c ∷ []

unfoldable pub line_text : List ℕ → List ℕ
line_text t = map line_byte (chars t)

unfoldable pub body_text : List ℕ → List ℕ
body_text t = flat_map body_bytes (chars t)

-- ---- the header line

-- at least four digits
abbrev pub padded : ℕ → List ℕ
padded n = replicate (4 - length (decimal n)) 48 ++ decimal n

-- 5 where none is given
abbrev pub urgency_text : ℕ → List ℕ
urgency_text u = decimal (if u == 0 then 5 else u)

abbrev pub or_none : List ℕ → List ℕ
or_none [] = codes "n"
or_none (b ∷ letters) = b ∷ letters

-- its letters, `n` where it has none
abbrev pub category_text : List ℕ → List ℕ
category_text category = or_none (filter letter category)

-- space, tab, CR and LF
abbrev pub parts_words : ℕ → Bool
parts_words b = b == 32 || b == 9 || b == 13 || b == 10

-- The number of longest runs of bytes that part no words, each counted at its first byte. The flag says whether the byte
-- before was in one.
abbrev pub words_from : Bool → List ℕ → ℕ
words_from inside [] = 0
words_from inside (b ∷ bytes) =
    if parts_words b then words_from false bytes
    else if inside then words_from true bytes
    else words_from true bytes + 1

abbrev pub word_count : List ℕ → ℕ
word_count bytes = min (words_from false bytes) 99999

abbrev pub kind_word : Kind → List ℕ
kind_word First = codes "FIRST"
kind_word Correct = codes "CORRECTION"
kind_word Kill = codes "KILL"
kind_word Recall = codes "RECALL"

unfoldable pub header : Publication → List ℕ
header p =
    codes "NWS" ++ padded p.number ++ codes " " ++ urgency_text p.story.urgency ++ codes " "
    ++ category_text p.story.category ++ codes " " ++ decimal (word_count p.story.body) ++ codes " " ++ kind_word p.kind

-- ---- the whole

abbrev pub crlf : List ℕ
crlf = 13 ∷ 10 ∷ []

-- up to the slugline
unfoldable pub head_part : Publication → List ℕ
head_part p = 1 ∷ [] ++ header p ++ crlf ++ line_text p.story.slugline ++ crlf

unfoldable pub text_part : Story → List ℕ
text_part s = 2 ∷ [] ++ line_text s.headline ++ crlf ++ body_text s.body ++ crlf

unfoldable pub released : ℕ → List ℕ
released release = moment_text release

-- the post-text information is the release
unfoldable pub end_part : ℕ → List ℕ
end_part release = 3 ∷ [] ++ released release ++ 4 ∷ []

abbrev pub written : Publication → List ℕ
written p = head_part p ++ text_part p.story ++ end_part p.release
