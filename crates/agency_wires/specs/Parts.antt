-- Parts of some characters.
use Rattle.std.specs.Prelude.{ℕ, ◌-◌, Bool, true, ◌&&◌, ◌||◌, nat_le, ◌==◌, if◌then◌else◌, List, [], ◌∷◌, length, reverse}
use Rattle.std.specs.Char.{encode_utf8}
use Rattle.std.specs.List.{list_any}
use Rattle.text7901.specs.Fields.{before, behind_byte}

-- space, tab and LF
abbrev pub blank : ℕ → Bool
blank c = c == 32 || c == 9 || c == 10

-- without the leading blanks
abbrev pub trim_front : List ℕ → List ℕ
trim_front [] = []
trim_front (c ∷ rest) = if blank c then trim_front rest else c ∷ rest

-- without the blanks at both ends
abbrev pub trim : List ℕ → List ℕ
trim told = reverse (trim_front (reverse (trim_front told)))

-- ---- words, which blanks part

-- the word that these begin with
abbrev pub front_word : List ℕ → List ℕ
front_word [] = []
front_word (c ∷ rest) = if blank c then [] else c ∷ front_word rest

abbrev pub behind_front_word : List ℕ → List ℕ
behind_front_word [] = []
behind_front_word (c ∷ rest) = if blank c then c ∷ rest else behind_front_word rest

-- the next word, and what follows it
unfoldable pub word : List ℕ → List ℕ
word told = front_word (trim_front told)

unfoldable pub behind_word : List ℕ → List ℕ
behind_word told = behind_front_word (trim_front told)

-- ---- lines

-- the first line that is not empty, without the blanks at its ends. A line of blanks is empty.
unfoldable pub line : List ℕ → List ℕ
line told = trim (before 10 (trim_front told))

-- what follows that line
unfoldable pub behind_line : List ℕ → List ℕ
behind_line told = behind_byte 10 (trim_front told)

-- ---- sizes

-- these characters have at most n bytes together as UTF-8
abbrev pub is_within : ℕ → List ℕ → Bool
is_within n [] = true
is_within n (c ∷ rest) = nat_le (length (encode_utf8 c)) n && is_within (n - length (encode_utf8 c)) rest

-- such a byte or character is among them
abbrev pub has : ℕ → List ℕ → Bool
has x told = list_any (λ c. c == x) told
