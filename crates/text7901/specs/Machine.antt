-- The same byte by byte.
use Rattle.std.specs.Prelude.{◌≡◌, ◌≢◌, ℕ, ◌+◌, ◌<◌, ◌≤◌, ◌&&◌, nat_lt, ◌==◌, if◌then◌else◌, List, [], ◌∷◌, length, take, slice_index, Option, Some, None}
use Rattle.text7901.specs.declared.found.What.{What}
use Rattle.text7901.specs.declared.found.What.TheVariants.{NoHeader, NoText, NoEnd, TooLong}
use Rattle.text7901.specs.declared.phase.Phase.{Phase}
use Rattle.text7901.specs.declared.phase.Phase.TheVariants.{Source, Number, Head, Text, Info}
use Rattle.text7901.specs.declared.phase.Step.{Step}
use Rattle.text7901.specs.declared.phase.Step.TheVariants.{Go, Bad, Ends}
use Rattle.text7901.specs.declared.reach.Turn.{Turn}
use Rattle.text7901.specs.declared.reach.Turn.TheVariants.{On, Over}
use Rattle.text7901.specs.declared.reach.Reach.{Reach}
use Rattle.text7901.specs.declared.reach.Reach.TheVariants.{Open, Ended}
use Rattle.text7901.specs.Fields.{letter, digit}

abbrev pub head_step_of : ℕ → Step
head_step_of b = if b == 2 then Go Text else if b == 4 then Bad NoText else Go Head

-- what a byte that is no SOH does
abbrev pub step : Phase → ℕ → Step
step (Source n) b = if letter b && nat_lt n 8 then Go (Source (n + 1)) else if digit b && nat_lt 0 n then Go (Number 1) else Bad NoHeader
step (Number n) b = if digit b && nat_lt n 8 then Go (Number (n + 1)) else head_step_of b
step Head b = head_step_of b
step Text b = if b == 3 then Go Info else if b == 4 then Bad NoEnd else Go Text
step Info b = if b == 4 then Ends else Go Info

-- what a message comes to that ends here
abbrev pub at_end : Phase → Option What
at_end (Source n) = Some NoHeader
at_end (Number n) = Some NoText
at_end Head = Some NoText
at_end Text = Some NoEnd
at_end Info = None

-- a step within the greatest size
abbrev pub within_size : ℕ → Step → Turn
within_size held (Go p) = if held == 131071 then Over (Some TooLong) else On p
within_size held (Bad w) = Over (Some w)
within_size held Ends = if held == 131071 then Over (Some TooLong) else Over None

-- what a byte does behind so many bytes of a message
abbrev pub turn : Phase → ℕ → ℕ → Turn
turn p held b = if b == 1 then Over (at_end p) else within_size held (step p b)

-- these bytes lead on from one phase to another, and no SOH is among them
abbrev pub Leads : Phase → List ℕ → Phase → Type 0
Leads p [] q = p ≡ q
Leads p (b ∷ bytes) q = (b ≢ 1) × (r : Phase) × (step p b ≡ Go r) × Leads r bytes q

-- a message ends in a piece, behind so many of its bytes
pub record EndsIn (p : Phase) (held : ℕ) (piece : List ℕ) (len : ℕ) (what : Option What) : Type 0 where
  pub phase : Phase
  pub leads : Leads p (take len piece) phase
  pub few : held + len ≤ 131071
  pub within : len < length piece
  pub over : turn phase (held + len) (slice_index piece len) ≡ Over what

-- how far a message, of which so many bytes are held, goes in a piece
abbrev pub IsReach : Phase → ℕ → List ℕ → Reach → Type 0
IsReach p held piece (Open q) = (held + length piece ≤ 131071) × Leads p piece q
IsReach p held piece (Ended len what) = EndsIn p held piece len what
