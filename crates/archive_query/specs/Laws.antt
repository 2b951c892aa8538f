-- What holds of each text.
use Rattle.std.specs.Prelude.{◌≡◌, ◌⊎◌, ℕ, ◌≤◌, length}
use Rattle.news_types.specs.Names.{Bytes}
use Rattle.archive_query.specs.Query.{Query}
use Rattle.archive_query.specs.Grammar.{IsQuery, IsBadAt, IsDeepAt}

-- a text within the limit is a query, or is none from a place on
abbrev pub IsJudged : Bytes → Type 0
IsJudged text = length text ≤ 65536 → ((q : Query) × IsQuery text q) ⊎ (((at : ℕ) × IsBadAt text at) ⊎ ((at : ℕ) × IsDeepAt text at))

-- but one of these, and with one place
pub record IsJudgedOnce (text : Bytes) : Type 0 where
  pub query_not_bad : (q : Query) (at : ℕ) → IsQuery text q → IsBadAt text at → ⊥
  pub query_not_deep : (q : Query) (at : ℕ) → IsQuery text q → IsDeepAt text at → ⊥
  pub bad_not_deep : (a b : ℕ) → IsBadAt text a → IsDeepAt text b → ⊥
  pub bad_once : (a b : ℕ) → IsBadAt text a → IsBadAt text b → a ≡ b
  pub deep_once : (a b : ℕ) → IsDeepAt text a → IsDeepAt text b → a ≡ b
