-- Headline and body of a text.
use Rattle.std.specs.Prelude.{ℕ, zero, suc, ◌+◌, ◌-◌, Bool, false, ◌&&◌, ◌==◌, if◌then◌else◌, List, [], ◌∷◌, ◌++◌, length, take, reverse}
use Rattle.text7901.specs.Fields.{without_last_lf}
use Rattle.agency_wires.specs.Parts.{trim, line, behind_line, is_within}

-- these begin with `= `
abbrev pub begins_with_mark : List ℕ → Bool
begins_with_mark [] = false
begins_with_mark (c ∷ []) = false
begins_with_mark (c ∷ d ∷ rest) = c == 61 && d == 32

-- a line ends with ` =`
abbrev pub ends_with_mark : List ℕ → Bool
ends_with_mark l = begins_with_mark (reverse l)

abbrev pub without_mark : List ℕ → List ℕ
without_mark l = if ends_with_mark l then trim (take (length l - 2) l) else l

-- How many further lines the headline has. Of the next n lines that are not empty, of which so many stand before: how many stand before
-- the first that ends with ` =`; none where none does.
abbrev pub further : ℕ → ℕ → List ℕ → ℕ
further seen zero text = 0
further seen (suc n) text = if ends_with_mark (line text) then seen else further (seen + 1) n (behind_line text)

-- so many lines, each with a space before it
abbrev pub spaced : ℕ → List ℕ → List ℕ
spaced zero text = []
spaced (suc n) text = 32 ∷ without_mark (line text) ++ spaced n (behind_line text)

-- behind so many lines
abbrev pub behind : ℕ → List ℕ → List ℕ
behind zero text = text
behind (suc n) text = behind n (behind_line text)

-- The headline is the first line that is not empty. Where one of the first four such lines ends with ` =`, it is the lines up to that one,
-- with a space between, without the ` =`.
unfoldable pub headline : List ℕ → List ℕ
headline text = without_mark (line text) ++ spaced (further 0 4 text) (behind_line text)

-- what follows the headline
unfoldable pub behind_headline : List ℕ → List ℕ
behind_headline text = behind (further 0 4 text) (behind_line text)

-- The body is what follows the headline, without the one line end at its end. Where the headline has more than 500 bytes it is cut, and the
-- whole text is the body, so nothing is lost.
unfoldable pub body : List ℕ → List ℕ
body text = without_last_lf (if is_within 500 (headline text) then behind_headline text else text)
