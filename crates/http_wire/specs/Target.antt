-- Whether bytes end inside a request target, as a test.
use Rattle.std.specs.Prelude.{ℕ, List, [], ◌∷◌, Bool, false, ◌==◌, ◌&&◌, if◌then◌else◌}
use Rattle.std.specs.List.{list_all}
use Rattle.httparse.specs.Grammar.{is_token_byte, is_uri_byte}

-- after a byte of a method
abbrev pub in_method : List ℕ → Bool
in_method [] = false
in_method (b ∷ rest) = if b == 32 then list_all is_uri_byte rest else (is_token_byte b && in_method rest)

abbrev pub at_method : List ℕ → Bool
at_method [] = false
at_method (b ∷ rest) = is_token_byte b && in_method rest

-- at empty lines
abbrev pub in_target : List ℕ → Bool
in_target [] = false
in_target (a ∷ []) = false
in_target (a ∷ b ∷ rest) =
    if a == 10 then in_target (b ∷ rest)
    else (if (a == 13) && (b == 10) then in_target rest else at_method (a ∷ b ∷ rest))
