-- A list with a scheme that routes by night.
use Rattle.std.specs.Prelude.{true, [], ◌∷◌, codes, Some, None, List}
use Rattle.news_types.specs.declared.command.Command.{Command}
use Rattle.news_types.specs.declared.command.Command.TheVariants.{AddDesk, AddScheme, AddProvider, AddSubscriber}
use Rattle.news_types.specs.declared.words.Format.TheVariants.{Ninjs}
use Rattle.news_types.specs.declared.rules.Rule.{Rule}
use Rattle.news_types.specs.declared.rules.Place.{Place}
use Rattle.news_types.specs.Names.{Bytes}
use Rattle.news_types.specs.History.{History}
use Rattle.worked_rows.specs.Examples.{city, alpha, every, asked, usable, taken_in}

abbrev pub wire : Bytes
wire = codes "wire"

abbrev pub incoming_of_city : Place
incoming_of_city = record { desk = city; stage = codes "incoming" }

-- every day from midnight to six, in UTC: fetch to the desk, publish, and ask no further rule
abbrev pub by_night : Rule
by_night = record { filter = None; days = 127; from = 0; to = 21600; zone = codes "UTC0"; fetch = Some incoming_of_city; publish = true; exit = true }

abbrev night_scheme : List Command
night_scheme =
    AddDesk city ∷
    AddScheme (codes "night") (by_night ∷ []) ∷
    AddProvider wire (Some (codes "night")) ∷
    AddSubscriber alpha Ninjs every 0 ∷ []

-- provider wire has a scheme of this rule alone
abbrev pub with_scheme : History
with_scheme = asked 1000 night_scheme []

-- a story at one in the morning
abbrev pub at_night : History
at_night = taken_in wire (usable (codes "a")) 3600 with_scheme

-- and another at ten
abbrev pub by_day : History
by_day = taken_in wire (usable (codes "b")) 36000 at_night
