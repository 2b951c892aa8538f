-- The texts that name a moment: a date and a time of day, a fraction, and how far the clock is from UTC.
use Rattle.std.specs.Prelude.{◌≡◌, ℕ, ℤ, pos, neg_ℤ, ◌+◌, ◌*◌, ◌/◌, ◌%◌, ◌≤◌, ◌-ℤ◌, Bool, IsTrue, if◌then◌else◌, List, [], ◌∷◌, ◌++◌, length, codes}
use Rattle.std.specs.Char.{is_ascii_digit}
use Rattle.std.specs.List.{list_all}
use Rattle.release_rules.specs.Civil.{Civil, IsCivil, seconds_of, last_moment}

-- a number in two digits
abbrev pub two : ℕ → List ℕ
two n = (48 + n / 10) ∷ (48 + n % 10) ∷ []

-- `YYYY-MM-DDThh:mm:ss`
abbrev pub civil_text : Civil → List ℕ
civil_text c =
    two (c.year / 100) ++ two (c.year % 100) ++ codes "-" ++ two c.month ++ codes "-" ++ two c.day
    ++ codes "T" ++ two c.hour ++ codes ":" ++ two c.minute ++ codes ":" ++ two c.second

-- a fraction of a second: none, or a point and its digits
abbrev pub fraction_text : List ℕ → List ℕ
fraction_text [] = []
fraction_text (d ∷ digits) = codes "." ++ d ∷ digits

pub record IsFraction (digits : List ℕ) : Type 0 where
  pub decimal : IsTrue (list_all is_ascii_digit digits)
  pub few : length digits ≤ 9

-- how the clock stands to UTC: at it, or so many hours and minutes ahead or behind, written with a colon or without
pub data Offset : Type 0 where
  Utc : Offset
  Ahead : Bool → ℕ → ℕ → Offset
  Behind : Bool → ℕ → ℕ → Offset

abbrev pub hours_text : Bool → ℕ → ℕ → List ℕ
hours_text colon h m = two h ++ (if colon then codes ":" else []) ++ two m

-- `Z`, `+hh:mm`, `+hhmm`, `-hh:mm` or `-hhmm`
abbrev pub offset_text : Offset → List ℕ
offset_text Utc = codes "Z"
offset_text (Ahead colon h m) = codes "+" ++ hours_text colon h m
offset_text (Behind colon h m) = codes "-" ++ hours_text colon h m

abbrev pub IsHours : ℕ → ℕ → Type 0
IsHours h m = (h ≤ 23) × (m ≤ 59)

abbrev pub IsOffset : Offset → Type 0
IsOffset Utc = Unit {0}
IsOffset (Ahead colon h m) = IsHours h m
IsOffset (Behind colon h m) = IsHours h m

-- in seconds
abbrev pub offset_of : Offset → ℤ
offset_of Utc = pos 0
offset_of (Ahead colon h m) = pos (h * 3600 + m * 60)
offset_of (Behind colon h m) = neg_ℤ (pos (h * 3600 + m * 60))

-- the parts of a text of a moment
pub record Written : Type 0 where
  pub clock : Civil
  pub fraction : List ℕ
  pub offset : Offset

pub record IsWritten (w : Written) : Type 0 where
  pub clock : IsCivil w.clock
  pub fraction : IsFraction w.fraction
  pub offset : IsOffset w.offset

abbrev pub written_text : Written → List ℕ
written_text w = civil_text w.clock ++ fraction_text w.fraction ++ offset_text w.offset

-- the fraction is dropped
abbrev pub written_seconds : Written → ℤ
written_seconds w = seconds_of w.clock -ℤ offset_of w.offset

-- the text is one of the moment
pub record IsTextOf (text : List ℕ) (moment : ℕ) : Type 0 where
  pub parts : Written
  pub form : IsWritten parts
  pub spelled : text ≡ written_text parts
  pub value : written_seconds parts ≡ pos moment
  pub in_range : moment ≤ last_moment
