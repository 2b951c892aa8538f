-- Where a message ends, byte by byte.
use Rattle.std.specs.Prelude.{◌≡◌, ℕ, ◌+◌, ◌-◌, ◌<◌, ◌≤◌, false, ◌==◌, if◌then◌else◌, List, [], ◌∷◌, length, take, slice_index}
use Rattle.agency_wires.specs.declared.phase.Phase.{Phase}
use Rattle.agency_wires.specs.declared.phase.Phase.TheVariants.{Head, Text, Mark, Info}
use Rattle.agency_wires.specs.declared.phase.Step.{Step}
use Rattle.agency_wires.specs.declared.phase.Step.TheVariants.{Go, Ends}
use Rattle.agency_wires.specs.declared.reach.End.{End}
use Rattle.agency_wires.specs.declared.reach.End.TheVariants.{Whole, TooLong}
use Rattle.agency_wires.specs.declared.reach.Turn.{Turn}
use Rattle.agency_wires.specs.declared.reach.Turn.TheVariants.{On, Over}
use Rattle.agency_wires.specs.declared.reach.Reach.{Reach}
use Rattle.agency_wires.specs.declared.reach.Reach.TheVariants.{Open, Ended}
use Rattle.agency_wires.specs.Messages.{ends_line, ends_message}

-- in a line of letters N that lacks so many
abbrev pub line_step : ℕ → ℕ → Step
line_step n b =
    if n == 0 then (if ends_line b then Ends else Go Info)
    else if b == 78 then Go (Mark (n - 1))
    else if ends_line b then Go (Mark 4)
    else Go Info

-- what a byte that is no SOH and no EOT does
abbrev pub step : Phase → ℕ → Step
step Head b = Go (if b == 2 then Text else Head)
step Text b = Go (if b == 3 then Mark 4 else Text)
step (Mark n) b = line_step n b
step Info b = Go (if ends_line b then Mark 4 else Info)

-- a step within the greatest size
abbrev pub within_size : ℕ → Step → Turn
within_size held (Go p) = if held == 1_048_576 then Over TooLong else On p
within_size held Ends = Over Whole

-- what a byte does behind so many bytes of a message
abbrev pub turn : Phase → ℕ → ℕ → Turn
turn p held b = if ends_message b then Over Whole else within_size held (step p b)

-- these bytes lead on from one phase to another, and no SOH or EOT is among them
abbrev pub Leads : Phase → List ℕ → Phase → Type 0
Leads p [] q = p ≡ q
Leads p (b ∷ bytes) q = (ends_message b ≡ false) × (r : Phase) × (step p b ≡ Go r) × Leads r bytes q

-- a message is over in a piece, behind so many of its bytes
pub record EndsIn (p : Phase) (held : ℕ) (piece : List ℕ) (len : ℕ) (end : End) : Type 0 where
  pub phase : Phase
  pub leads : Leads p (take len piece) phase
  pub few : held + len ≤ 1_048_576
  pub within : len < length piece
  pub over : turn phase (held + len) (slice_index piece len) ≡ Over end

-- how far a message, of which so many bytes are held, goes in a piece
abbrev pub IsReach : Phase → ℕ → List ℕ → Reach → Type 0
IsReach p held piece (Open q) = (held + length piece ≤ 1_048_576) × Leads p piece q
IsReach p held piece (Ended len end) = EndsIn p held piece len end
