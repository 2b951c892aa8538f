-- Which tokens are a query.
use Rattle.std.specs.Prelude.{◌≡◌, ℕ, suc, ◌+◌, ◌-◌, ◌<◌, ◌≤◌, ◌^◌, ◌==◌, ◌&&◌, List, [], ◌∷◌, ◌++◌, length, codes, decimal, Bool, Option, Some, None, option_and_then, slice_index, if◌then◌else◌}
use Rattle.serde_json.specs.Read.{read}
use Rattle.serde_json.specs.Find.{as_str}
use Rattle.news_types.specs.Names.{Bytes}
use Rattle.archive_query.specs.Words.{text_field_word, text_operator_word, number_field_word, number_operator_word, act_word}
use Rattle.archive_query.specs.Query.{Test, Text, Number, Act, Query, Tested, Not, And, Or}
use Rattle.archive_query.specs.Tokens.{tokens, joined}

-- ---- values

-- from a quote to a quote
abbrev pub is_quoted : Bytes → Bool
is_quoted token = slice_index token 0 == 34 && slice_index token (length token - 1) == 34

-- the text that a JSON text says
abbrev pub text_said : Bytes → Option Bytes
text_said token = if is_quoted token then option_and_then as_str (read token) else None

-- ---- queries

-- the three tokens are the test
abbrev pub SpellsTest : Test → Bytes → Bytes → Bytes → Type 0
SpellsTest (Text f o value) field operator token = (field ≡ text_field_word f) × (operator ≡ text_operator_word o) × (text_said token ≡ Some value)
SpellsTest (Number f o value) field operator token = (field ≡ number_field_word f) × (operator ≡ number_operator_word o) × (token ≡ decimal value) × (value < 2 ^ 64)
SpellsTest (Act kind) field operator token = (field ≡ codes "act") × (operator ≡ codes "is") × (token ≡ act_word kind)

-- how much of a query: a test, a negation or a group; or several of these with `and` between two; or several of those with `or` between two
pub data Part : Type 0 where
  unit : Part
  all : Part
  any : Part

-- The tokens from `from` on, up to `to`, are that part of a query. At most so many parentheses and negations nest in it.
pub data Reads : Part → ℕ → List Bytes → List Bytes → Query → Type 0 where
  test : {levels : ℕ} {field operator token : Bytes} {to : List Bytes} {t : Test}
      → SpellsTest t field operator token → Reads unit levels (field ∷ operator ∷ token ∷ to) to (Tested t)
  negation : {levels : ℕ} {from to : List Bytes} {q : Query}
      → Reads unit levels from to q → Reads unit (suc levels) (codes "not" ∷ from) to (Not q)
  group : {levels : ℕ} {from to : List Bytes} {q : Query}
      → Reads any levels from (codes ")" ∷ to) q → Reads unit (suc levels) (codes "(" ∷ from) to q
  one : {levels : ℕ} {from to : List Bytes} {q : Query}
      → Reads unit levels from to q → Reads all levels from to q
  both : {levels : ℕ} {from middle to : List Bytes} {q r : Query}
      → Reads unit levels from (codes "and" ∷ middle) q → Reads all levels middle to r → Reads all levels from to (And q r)
  only : {levels : ℕ} {from to : List Bytes} {q : Query}
      → Reads all levels from to q → Reads any levels from to q
  either : {levels : ℕ} {from middle to : List Bytes} {q r : Query}
      → Reads all levels from (codes "or" ∷ middle) q → Reads any levels middle to r → Reads any levels from to (Or q r)

-- the tokens are the query, of at most so many levels
abbrev pub Spells : ℕ → List Bytes → Query → Type 0
Spells levels words q = Reads any levels words [] q

-- ---- texts

-- the text is the query: its tokens, in at most 65536 bytes and 32 levels
pub record IsQuery (text : Bytes) (q : Query) : Type 0 where
  pub short : length text ≤ 65536
  pub spelled : Spells 32 (tokens text) q

-- ---- texts that are none

-- some query of at most so many levels begins with these tokens
abbrev pub GoesOn : ℕ → List Bytes → Type 0
GoesOn levels front = (more : List Bytes) × (q : Query) × Spells levels (front ++ more) q

-- the text has these tokens, and then those; the first of those stands there, and where there is none the text ends there
pub record Stops (text : Bytes) (front rest : List Bytes) (at : ℕ) : Type 0 where
  pub short : length text ≤ 65536
  pub tokens_are : tokens text ≡ front ++ rest
  pub at_is : at + length (joined rest) ≡ length text
  -- a query of at most 32 levels goes on with what stands before
  pub begun : GoesOn 32 front

-- no query goes on with the first of these, and where there is none what stands before is none
abbrev pub IsBad : List Bytes → List Bytes → Type 0
IsBad front [] = (levels : ℕ) (q : Query) → Spells levels front q → ⊥
IsBad front (token ∷ rest) = (levels : ℕ) → GoesOn levels (front ++ token ∷ []) → ⊥

-- one goes on with the first of these, but with one of 33 levels
abbrev pub IsDeep : List Bytes → List Bytes → Type 0
IsDeep front [] = ⊥
IsDeep front (token ∷ rest) = GoesOn 33 (front ++ token ∷ []) × (GoesOn 32 (front ++ token ∷ []) → ⊥)

-- there is the first token with which no query goes on, or the end of tokens that end too soon
abbrev pub IsBadAt : Bytes → ℕ → Type 0
IsBadAt text at = (front rest : List Bytes) × Stops text front rest at × IsBad front rest

-- there is the first token with which queries of more than 32 levels alone go on
abbrev pub IsDeepAt : Bytes → ℕ → Type 0
IsDeepAt text at = (front rest : List Bytes) × Stops text front rest at × IsDeep front rest
