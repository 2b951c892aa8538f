-- The tokens of a text, with one space between two. One that begins with a quote goes on to its closing quote, and from there to the
-- next space.
use Rattle.std.specs.Prelude.{◌≡◌, ℕ, ◌+◌, ◌<◌, ◌≤◌, ◌==◌, ◌&&◌, Bool, true, false, List, [], ◌∷◌, ◌++◌, length, take, drop, slice_index, if◌then◌else◌, Option, Some, None}
use Rattle.news_types.specs.Names.{Bytes}
use Rattle.archive_query.specs.declared.tokens.Place.{Place}
use Rattle.archive_query.specs.declared.tokens.Place.TheVariants.{Start, Plain, Quoted, Escaped}

-- where the next byte stands
abbrev pub place_after : Place → ℕ → Place
place_after Start b = if b == 34 then Quoted else Plain
place_after Plain b = Plain
place_after Quoted b = if b == 34 then Plain else (if b == 92 then Escaped else Quoted)
place_after Escaped b = Quoted

-- a space there ends the token
abbrev pub is_outside : Place → Bool
is_outside Start = true
is_outside Plain = true
is_outside Quoted = false
is_outside Escaped = false

-- the byte at the front of the first token
abbrev pub put_byte : ℕ → List Bytes → List Bytes
put_byte b [] = (b ∷ []) ∷ []
put_byte b (token ∷ rest) = (b ∷ token) ∷ rest

-- the tokens from there on: there is always one, which may be empty
abbrev pub tokens_from : Place → Bytes → List Bytes
tokens_from place [] = [] ∷ []
tokens_from place (b ∷ bytes) =
    if b == 32 && is_outside place then [] ∷ tokens_from Start bytes else put_byte b (tokens_from (place_after place b) bytes)

abbrev pub tokens : Bytes → List Bytes
tokens text = tokens_from Start text

-- tokens with one space between two
abbrev pub joined : List Bytes → Bytes
joined [] = []
joined (token ∷ []) = token
joined (token ∷ next ∷ rest) = token ++ 32 ∷ joined (next ∷ rest)

-- those of the text that is left, if there is one
abbrev pub tokens_left : Option Bytes → List Bytes
tokens_left None = []
tokens_left (Some rest) = tokens rest

-- the first token has so many bytes, and the others stand behind the space that follows it
pub record IsFirst (text : Bytes) (n : ℕ) : Type 0 where
  pub within : n ≤ length text
  pub last : n ≡ length text → tokens text ≡ text ∷ []
  pub space : n < length text → slice_index text n ≡ 32
  pub more : n < length text → tokens text ≡ take n text ∷ tokens (drop (n + 1) text)
