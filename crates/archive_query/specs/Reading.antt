-- How the tokens of a query are read, one after the other. For private clauses: what a query is, `Grammar` says.
use Rattle.std.specs.Prelude.{ℕ, ◌==◌, nat_lt, ◌&&◌, Bool, not, List, [], ◌∷◌, ◌++◌, length, slice_index, codes, decimal, if◌then◌else◌, Option, Some, None, option_map, Result, Ok, Err}
use Rattle.std.specs.Char.{is_ascii_digit}
use Rattle.std.specs.List.{list_all}
use Rattle.std.specs.Str.Parse.{digits_value}
use Rattle.news_types.specs.Names.{Bytes, same}
use Rattle.archive_query.specs.declared.words.TextField.{TextField}
use Rattle.archive_query.specs.declared.words.NumberField.{NumberField}
use Rattle.archive_query.specs.declared.words.TextOperator as texts
use Rattle.archive_query.specs.declared.words.NumberOperator as numbers
use Rattle.archive_query.specs.Words.{text_field_of, number_field_of, text_operator_of, number_operator_of, act_of}
use Rattle.archive_query.specs.Query.{Test, Text, Number, Act, Query, Tested, Not, And, Or}
use Rattle.archive_query.specs.Grammar.{text_said}

-- the number below 2 ^ 64 of which it is the decimal
unfoldable pub decimal_said : Bytes → Option ℕ
decimal_said token = if nat_lt (digits_value 10 token) 18446744073709551616 && same token (decimal (digits_value 10 token)) then Some (digits_value 10 token) else None

-- digits, of which the first is 0 only where it stands alone
abbrev pub is_decimal : Bytes → Bool
is_decimal token = list_all is_ascii_digit token && not (nat_lt 1 (length token) && slice_index token 0 == 48)

-- ---- what is read so far

-- what a group waits to join to what follows: queries with an `or` behind each, and then queries with an `and` behind each
pub record Waits : Type 0 where
  pub any : List Query
  pub all : List Query

-- what is open: a `not`, or a parenthesis in a group that waits so
pub data Opened : Type 0 where
  Negation : Opened
  Group : Waits → Opened

-- what may come next: a unit; an operator or a value of a test; or, behind a query, what joins it
pub data Wants : Type 0 where
  AUnit : Wants
  ATextOperator : TextField → Wants
  AText : TextField → texts.TextOperator → Wants
  ANumberOperator : NumberField → Wants
  ANumber : NumberField → numbers.NumberOperator → Wants
  AnActOperator : Wants
  AnAct : Wants
  AJoint : Query → Wants

-- what is open (the innermost first), what the innermost group waits for, and what may come next
pub record State : Type 0 where
  pub levels : List Opened
  pub waits : Waits
  pub wants : Wants

abbrev pub nothing_waits : Waits
nothing_waits = record { any = []; all = [] }

abbrev pub start : State
start = record { levels = []; waits = nothing_waits; wants = AUnit }

-- ---- a query that ends

abbrev pub all_joined : List Query → Query → Query
all_joined [] q = q
all_joined (p ∷ ps) q = And p (all_joined ps q)

abbrev pub any_joined : List Query → Query → Query
any_joined [] q = q
any_joined (p ∷ ps) q = Or p (any_joined ps q)

-- a group whose last unit it is
abbrev pub closed : Waits → Query → Query
closed waits q = any_joined waits.any (all_joined waits.all q)

-- behind a unit: it ends the negations before it
abbrev pub put : List Opened → Waits → Query → State
put [] waits q = record { levels = []; waits = waits; wants = AJoint q }
put (Negation ∷ levels) waits q = put levels waits (Not q)
put (Group outer ∷ levels) waits q = record { levels = Group outer ∷ levels; waits = waits; wants = AJoint q }

-- ---- one token

pub data Refusal : Type 0 where
  Misplaced : Refusal
  TooDeep : Refusal

abbrev pub wanting : List Opened → Waits → Option Wants → Result State Refusal
wanting levels waits None = Err Misplaced
wanting levels waits (Some wants) = Ok (record { levels = levels; waits = waits; wants = wants })

abbrev pub putting : List Opened → Waits → Option Test → Result State Refusal
putting levels waits None = Err Misplaced
putting levels waits (Some t) = Ok (put levels waits (Tested t))

-- one level more, where there are fewer than `most`
abbrev pub opening : ℕ → List Opened → Opened → Waits → Result State Refusal
opening most levels level waits = if nat_lt (length levels) most then Ok (record { levels = level ∷ levels; waits = waits; wants = AUnit }) else Err TooDeep

abbrev pub first_of : Option Wants → Option Wants → Option Wants
first_of None other = other
first_of (Some wants) other = Some wants

-- what a field wants behind it
unfoldable pub field_wants : Bytes → Option Wants
field_wants word =
    first_of (option_map ATextOperator (text_field_of word))
    (first_of (option_map ANumberOperator (number_field_of word)) (if same word (codes "act") then Some AnActOperator else None))

unfoldable pub unit_step : ℕ → List Opened → Waits → Bytes → Result State Refusal
unit_step most levels waits word =
    if same word (codes "(") then opening most levels (Group waits) nothing_waits
    else (if same word (codes "not") then opening most levels Negation waits
    else wanting levels waits (field_wants word))

abbrev pub closing : List Opened → Waits → Query → Result State Refusal
closing (Group outer ∷ levels) waits q = Ok (put levels outer (closed waits q))
closing _ waits q = Err Misplaced

unfoldable pub joint_step : List Opened → Waits → Query → Bytes → Result State Refusal
joint_step levels waits q word =
    if same word (codes "and") then Ok (record { levels = levels; waits = record { any = waits.any; all = waits.all ++ q ∷ [] }; wants = AUnit })
    else (if same word (codes "or") then Ok (record { levels = levels; waits = record { any = waits.any ++ all_joined waits.all q ∷ []; all = [] }; wants = AUnit })
    else (if same word (codes ")") then closing levels waits q
    else Err Misplaced))

abbrev pub step_by : ℕ → List Opened → Waits → Wants → Bytes → Result State Refusal
step_by most levels waits AUnit word = unit_step most levels waits word
step_by most levels waits (ATextOperator f) word = wanting levels waits (option_map (AText f) (text_operator_of word))
step_by most levels waits (AText f o) word = putting levels waits (option_map (Text f o) (text_said word))
step_by most levels waits (ANumberOperator f) word = wanting levels waits (option_map (ANumber f) (number_operator_of word))
step_by most levels waits (ANumber f o) word = putting levels waits (option_map (Number f o) (decimal_said word))
step_by most levels waits AnActOperator word = wanting levels waits (if same word (codes "is") then Some AnAct else None)
step_by most levels waits AnAct word = putting levels waits (option_map Act (act_of word))
step_by most levels waits (AJoint q) word = joint_step levels waits q word

abbrev pub step : ℕ → State → Bytes → Result State Refusal
step most s word = step_by most s.levels s.waits s.wants word

-- ---- all tokens

-- a token that is refused, with those behind it, or no token where one is wanting
pub record Refused : Type 0 where
  pub why : Refusal
  pub rest : List Bytes

abbrev pub misplaced : List Bytes → Result Query Refused
misplaced rest = Err (record { why = Misplaced; rest = rest })

abbrev pub ended : List Opened → Waits → Wants → Result Query Refused
ended [] waits (AJoint q) = Ok (closed waits q)
ended _ waits wants = misplaced []

abbrev pub then_run : Result State Refusal → List Bytes → (State → Result Query Refused) → Result Query Refused
then_run (Ok s) rest next = next s
then_run (Err why) rest next = Err (record { why = why; rest = rest })

unfoldable pub run : ℕ → State → List Bytes → Result Query Refused
run most s [] = ended s.levels s.waits s.wants
run most s (word ∷ words) = then_run (step most s word) (word ∷ words) (λ t. run most t words)
