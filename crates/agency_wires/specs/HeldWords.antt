-- The words that hold a story back: embargoes and kills, which a person must see.
use Rattle.std.specs.Prelude.{ℕ, Bool, true, false, not, ◌&&◌, ◌||◌, ◌==◌, if◌then◌else◌, List, [], ◌∷◌, codes}
use Rattle.std.specs.Char.{to_ascii_uppercase}
use Rattle.agency_wires.specs.Header.{is_letter_or_digit}

-- the letters and digits that these begin with
abbrev pub run : List ℕ → List ℕ
run [] = []
run (c ∷ rest) = if is_letter_or_digit c then c ∷ run rest else []

-- in upper case a word is this one
abbrev pub is_word : List ℕ → List ℕ → Bool
is_word [] [] = true
is_word [] (l ∷ letters) = false
is_word (c ∷ rest) [] = false
is_word (c ∷ rest) (l ∷ letters) = to_ascii_uppercase c == l && is_word rest letters

abbrev pub is_held_word : List ℕ → Bool
is_held_word w =
    is_word w (codes "EMBARGO") || is_word w (codes "EMBARGOED") || is_word w (codes "SPERRFRIST") || is_word w (codes "KILL")
    || is_word w (codes "AUFHEBUNG") || is_word w (codes "ANNULE") || is_word w (codes "ANNULATION")

-- A word is a longest run of letters A to Z and digits, in any case: all other characters part words. The flag says whether the character
-- before was in one.
abbrev pub has_held_word : Bool → List ℕ → Bool
has_held_word inside [] = false
has_held_word inside (c ∷ rest) = (not inside && is_held_word (run (c ∷ rest))) || has_held_word (is_letter_or_digit c) rest
