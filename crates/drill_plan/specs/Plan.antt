-- The requests of a drill.
use Rattle.std.specs.Prelude.{ℕ, zero, suc, ◌+◌, List, [], ◌∷◌, ◌++◌, map}
use Rattle.news_types.specs.declared.command.Command.{Command}
use Rattle.news_types.specs.Users.{admin}
use Rattle.news_types.specs.Fits.{IsMoment}
use Rattle.news_types.specs.FitsCommands.{FitsCommand}
use Rattle.drill_plan.specs.declared.planned.Planned.{Planned}
use Rattle.drill_plan.specs.Draws.{next, draw}
use Rattle.drill_plan.specs.Setup.{setup}
use Rattle.drill_plan.specs.Stories.{moment_of, steps_of}

-- commands of one moment
abbrev pub at : ℕ → List Command → List (ℕ × Command)
at m commands = map (λ command. (m, command)) commands

-- the commands of n stories, the first of them story j, drawn from generator x
abbrev pub stories : ℕ → ℕ → ℕ → List (ℕ × Command)
stories zero j x = []
stories (suc n) j x = at (moment_of j) (steps_of j (draw x)) ++ stories n (j + 1) (next x)

-- requests of `admin`, the first of them with number k
abbrev pub requests : ℕ → List (ℕ × Command) → List Planned
requests k [] = []
requests k (c ∷ cs) = record { moment = c.0; caller = admin; number = k; command = c.1 } ∷ requests (k + 1) cs

-- all requests of a drill of n stories with this seed, in order
abbrev pub plan : ℕ → ℕ → List Planned
plan n seed = requests 1 (at 1000 setup ++ stories n 1 seed)

-- the request is within the limits of its fields
pub record FitsPlanned (p : Planned) : Type 0 where
  pub moment : IsMoment p.moment
  pub command : FitsCommand p.command
