-- A day of a primary and its standby.
use Rattle.std.specs.Prelude.{List, [], ◌∷◌, Some}
use Rattle.news_types.specs.declared.entry.Entry.{Entry}
use Rattle.news_types.specs.declared.entry.Act.TheVariants.{Halt}
use Rattle.news_types.specs.Calls.{IsKept, IsFailed}
use Rattle.standby_laws.specs.Following.{Following, Event, Grows, Ships, RecordComes, Restarts, happens, after}

abbrev pub morning : Entry
morning = record { moment = 1000; act = Halt }

abbrev pub evening : Entry
evening = record { moment = 2000; act = Halt }

-- The second record comes first, and the first one fails to be kept; a stop finds it. It comes again, and then the
-- second.
abbrev pub day : List Event
day =
    Grows morning ∷ Grows evening ∷ Ships 1 ∷ Ships 2 ∷
    RecordComes 0 IsKept ∷ RecordComes 1 IsFailed ∷ Restarts (Some 0) ∷ RecordComes 1 IsKept ∷ RecordComes 0 IsKept ∷ []

abbrev pub night : Following
night = after happens day
