-- Fields that end at a byte: as many bytes as a state machine takes, which says which byte is the last.
use Rattle.std.specs.Prelude.{ℕ, suc, List, [], ◌∷◌, ◌++◌, length, take, Option, Some, None, Result, Ok, Err, nat_lt, nat_le, ◌&&◌, ◌==◌, ◌+◌, ◌-◌, ◌*◌, if◌then◌else◌, decimal, ⊤}
use Rattle.news_types.specs.Names.{is_name_byte}
use Rattle.byte_formats.specs.Format.{Format, ◌>>=◌, with_byte, scan_at}

-- a step refuses the byte, ends with it, or goes on
abbrev pub taken : {S : Type 0} → Option (Option S) → ℕ → List ℕ → (S → Result (List ℕ × List ℕ) ℕ) → Result (List ℕ × List ℕ) ℕ
taken None b bytes f = Err (suc (length bytes))
taken (Some None) b bytes f = Ok (b ∷ [], bytes)
taken (Some (Some t)) b bytes f = f t

unfoldable pub until_at : {S : Type 0} → (S → ℕ → Option (Option S)) → S → List ℕ → Result (List ℕ × List ℕ) ℕ
until_at step s [] = Err 0
until_at step s (b ∷ bytes) = taken (step s b) b bytes (λ t. with_byte b (until_at step t bytes))

abbrev pub until : {S : Type 0} → (S → ℕ → Option (Option S)) → S → Format (List ℕ)
until step s = record { spell = λ x. x; read = until_at step s }

-- all but the last
abbrev pub before_last : List ℕ → List ℕ
before_last x = take (length x - 1) x

-- ---- a name and the space behind it

-- the state: how many bytes the name has so far
abbrev pub word_step : ℕ → ℕ → Option (Option ℕ)
word_step n b =
    if b == 32 && nat_lt 0 n then Some None
    else if is_name_byte b && nat_lt n 32 then Some (Some (n + 1)) else None

unfoldable pub word_at : List ℕ → Result (List ℕ × List ℕ) ℕ
word_at bytes = until_at word_step 0 bytes >>= λ x. Ok (before_last x.0, x.1)

abbrev pub word : Format (List ℕ)
word = record { spell = λ n. n ++ 32 ∷ []; read = word_at }

-- ---- a decimal number without leading zeros, and the byte behind it

-- the state: nothing yet, or the number so far
abbrev pub numeral_step : ℕ → ℕ → ℕ → Option ℕ → ℕ → Option (Option (Option ℕ))
numeral_step stop least most None b =
    if nat_le 49 b && nat_le b 57 && nat_le (b - 48) most then Some (Some (Some (b - 48)))
    else if b == 48 && least == 0 then Some (Some (Some 0)) else None
numeral_step stop least most (Some v) b =
    if b == stop then Some None
    else if nat_le 48 b && nat_le b 57 && nat_lt 0 v && nat_le (v * 10 + (b - 48)) most then Some (Some (Some (v * 10 + (b - 48)))) else None

-- the number of these digits, behind what stands before them
abbrev pub value_after : ℕ → List ℕ → ℕ
value_after v [] = v
value_after v (b ∷ bytes) = value_after (v * 10 + (b - 48)) bytes

unfoldable pub numeral_at : ℕ → ℕ → ℕ → List ℕ → Result (ℕ × List ℕ) ℕ
numeral_at stop least most bytes = until_at (numeral_step stop least most) None bytes >>= λ x. Ok (value_after 0 (before_last x.0), x.1)

-- a number from least, 0 or 1, to most
abbrev pub numeral : ℕ → ℕ → ℕ → Format ℕ
numeral stop least most = record { spell = λ n. decimal n ++ stop ∷ []; read = numeral_at stop least most }

-- ---- these very bytes

abbrev pub literal_step : ℕ → List ℕ → ℕ → Option (List ℕ)
literal_step n [] b = None
literal_step n (m ∷ word) b = if b == m then Some word else None

unfoldable pub literal_at : List ℕ → List ℕ → Result (⊤ × List ℕ) ℕ
literal_at word bytes = scan_at literal_step (length word) word bytes >>= λ x. Ok (tt, x.1)

abbrev pub literal : List ℕ → Format ⊤
literal word = record { spell = λ _. word; read = literal_at word }
