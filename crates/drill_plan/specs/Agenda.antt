-- What is still to come of a drill.
use Rattle.std.specs.Prelude.{ℕ, ◌+◌, ◌<◌, ◌^◌, List, ◌++◌, length, All}
use Rattle.news_types.specs.declared.command.Command.{Command}
use Rattle.news_types.specs.FitsCommands.{FitsCommand}
use Rattle.drill_plan.specs.declared.agenda.Agenda.{Agenda}
use Rattle.drill_plan.specs.declared.planned.Planned.{Planned}
use Rattle.drill_plan.specs.declared.plan.Plan.TheInside.{Inside}
use Rattle.drill_plan.specs.Stories.{moment_of}
use Rattle.drill_plan.specs.Plan.{at, stories, requests}

-- the commands that are due at the present moment, and then those of the stories that are left
abbrev pub commands : Agenda → List (ℕ × Command)
commands a = at (moment_of a.story) a.due.items ++ stories a.left (a.story + 1) a.generator

-- what is due is within the limits, and so are the numbers of the stories
pub record IsAgenda (a : Agenda) : Type 0 where
  pub fits : All FitsCommand a.due.items
  pub stories : a.story + a.left < 2 ^ 32

-- the requests
abbrev pub coming : Inside → List Planned
coming p = requests p.number (commands p.agenda)

pub record IsPlan (p : Inside) : Type 0 where
  pub agenda : IsAgenda p.agenda
  -- the numbers of the requests stay small
  pub numbers : p.number + length (commands p.agenda) < 2 ^ 34
