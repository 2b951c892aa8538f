-- What a record of a table asks for.
use Rattle.std.specs.Prelude.{ℕ, ◌+◌, ◌-◌, ◌*◌, Bool, not, ◌&&◌, ◌==◌, nat_lt, nat_le, List, [], ◌∷◌, length, codes, if◌then◌else◌, slice_index, Option, Some, None}
use Rattle.std.specs.List.{list_all, slice_split}
use Rattle.std.specs.Char.{is_ascii_digit}
use Rattle.news_types.specs.declared.words.Format.{Format}
use Rattle.news_types.specs.declared.words.Format.TheVariants.{Ninjs, Text7901}
use Rattle.news_types.specs.declared.command.Command.{Command}
use Rattle.news_types.specs.declared.command.Command.TheVariants.{AddSubscriber}
use Rattle.news_types.specs.Names.{Bytes, same, is_name}

-- ---- fields

-- a name
abbrev pub name_of : Bytes → Option Bytes
name_of field = if is_name field then Some field else None

abbrev pub format_of : Bytes → Option Format
format_of field = if same field (codes "ninjs") then Some Ninjs else if same field (codes "7901") then Some Text7901 else None

-- the parts of a field, with a `;` between two
abbrev pub parts_of : Bytes → List Bytes
parts_of field = slice_split (λ b. b == 59) field

abbrev pub few_names : List Bytes → Option (List Bytes)
few_names parts = if nat_le (length parts) 64 && list_all is_name parts then Some parts else None

-- at most 64 names, none where the field is empty
abbrev pub products_of : Bytes → Option (List Bytes)
products_of field = if length field == 0 then Some [] else few_names (parts_of field)

-- a 0 with more behind it
abbrev pub leads_with_zero : Bytes → Bool
leads_with_zero field = nat_lt 1 (length field) && slice_index field 0 == 48

-- the number of these digits, behind what stands before them
abbrev pub value_behind : ℕ → Bytes → ℕ
value_behind v [] = v
value_behind v (b ∷ field) = value_behind (v * 10 + (b - 48)) field

-- one to six digits, of which the first is 0 only where it stands alone
abbrev pub is_decimal : Bytes → Bool
is_decimal field = nat_lt 0 (length field) && nat_le (length field) 6 && list_all is_ascii_digit field && not (leads_with_zero field)

-- seconds in decimal, at most 604800
abbrev pub lag_of : Bytes → Option ℕ
lag_of field = if is_decimal field && nat_le (value_behind 0 field) 604800 then Some (value_behind 0 field) else None

-- ---- records

-- a subscriber as a record has it
pub record Wanted : Type 0 where
  pub subscriber : Bytes
  pub format : Format
  pub products : List Bytes
  pub lag : ℕ

abbrev pub wanted_by : Option Bytes → Option Format → Option (List Bytes) → Option ℕ → Option Wanted
wanted_by (Some subscriber) (Some format) (Some products) (Some lag) = Some (record { subscriber = subscriber; format = format; products = products; lag = lag })
wanted_by subscriber format products lag = None

-- four fields, each of its form
abbrev pub wanted_of : List Bytes → Option Wanted
wanted_of (subscriber ∷ format ∷ products ∷ lag ∷ []) = wanted_by (name_of subscriber) (format_of format) (products_of products) (lag_of lag)
wanted_of fields = None

abbrev pub command_of : Wanted → Command
command_of w = AddSubscriber w.subscriber w.format w.products w.lag
