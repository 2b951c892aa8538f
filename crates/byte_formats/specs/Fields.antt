-- The formats of texts, names, options, lists and flags.
use Rattle.std.specs.Prelude.{ℕ, zero, suc, List, [], length, Bool, true, false, Option, Some, None, Result, nat_lt, ◌==◌, if◌then◌else◌}
use Rattle.std.specs.Int.{w16, w32}
use Rattle.news_types.specs.Names.{is_name_byte}
use Rattle.byte_formats.specs.declared.due.Due.{Due}
use Rattle.byte_formats.specs.Spelling as spelled
use Rattle.byte_formats.specs.Format.{Format, chain, made, nothing, ranged, upto, scanned, many}

-- ---- texts

-- the least byte that may follow the first byte of a character
abbrev pub least_after : ℕ → ℕ
least_after b = if b == 224 then 160 else if b == 240 then 144 else 128

-- and the greatest
abbrev pub most_after : ℕ → ℕ
most_after b = if b == 237 then 159 else if b == 244 then 143 else 191

abbrev pub due : ℕ → ℕ → ℕ → Due
due left least most = record { left = left; least = least; most = most }

-- what is due after the first byte of a character
abbrev pub lead : ℕ → Option Due
lead b =
    if nat_lt b 128 then Some (due 0 128 191) else if nat_lt b 194 then None
    else if nat_lt b 224 then Some (due 1 128 191)
    else if nat_lt b 240 then Some (due 2 (least_after b) (most_after b))
    else if nat_lt b 245 then Some (due 3 (least_after b) (most_after b)) else None

-- what is due after one more byte
abbrev pub due_after : Due → ℕ → Option Due
due_after d b = elim d.left [ zero ↦ lead b | suc left ↦ if nat_lt b d.least then None else if nat_lt d.most b then None else Some (due left 128 191) ]

-- no more may be due than bytes follow
abbrev pub room_for : ℕ → Option Due → Option Due
room_for n None = None
room_for n (Some d) = if nat_lt n d.left then None else Some d

abbrev pub utf8_step : ℕ → Due → ℕ → Option Due
utf8_step n d b = room_for n (due_after d b)

abbrev pub utf8 : ℕ → Format (List ℕ)
utf8 n = scanned utf8_step (due 0 128 191) n

unfoldable pub text_at : ℕ → List ℕ → Result (List ℕ × List ℕ) ℕ
text_at limit = (chain (upto w32 limit) utf8 length).read

-- a text of at most so many bytes
abbrev pub text : ℕ → Format (List ℕ)
text limit = record { spell = spelled.text; read = text_at limit }

-- ---- names

abbrev pub name_step : ℕ → Bool → ℕ → Option Bool
name_step n s b = if is_name_byte b then Some true else None

unfoldable pub name_at : List ℕ → Result (List ℕ × List ℕ) ℕ
name_at = (chain (ranged 1 32) (scanned name_step true) length).read

abbrev pub name : Format (List ℕ)
name = record { spell = spelled.name; read = name_at }

-- ---- options, lists and flags

abbrev pub option_by : {A : Type 0} → Format A → ℕ → Format (Option A)
option_by F zero = made {A = ℕ} (nothing 0) (λ _. None) (λ _. [])
option_by F (suc n) = made F (λ x. Some x) (λ o. elim o [ None ↦ [] | Some x ↦ F.spell x ])

abbrev pub has : {A : Type 0} → Option A → ℕ
has None = 0
has (Some x) = 1

unfoldable pub option_at : {A : Type 0} → Format A → List ℕ → Result (Option A × List ℕ) ℕ
option_at F = (chain (ranged 0 1) (option_by F) has).read

abbrev pub option : {A : Type 0} → Format A → Format (Option A)
option F = record { spell = spelled.option F.spell; read = option_at F }

unfoldable pub list_at : {A : Type 0} → ℕ → Format A → List ℕ → Result (List A × List ℕ) ℕ
list_at limit F = (chain (upto w16 limit) (many F) length).read

-- at most so many items
abbrev pub list : {A : Type 0} → ℕ → Format A → Format (List A)
list limit F = record { spell = spelled.list F.spell; read = list_at limit F }

abbrev pub is_one : ℕ → Bool
is_one zero = false
is_one (suc n) = true

unfoldable pub flag_at : List ℕ → Result (Bool × List ℕ) ℕ
flag_at = (made (ranged 0 1) is_one spelled.flag).read

abbrev pub flag : Format Bool
flag = record { spell = spelled.flag; read = flag_at }
