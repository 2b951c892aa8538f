-- The list that planned requests give.
use Rattle.std.specs.Prelude.{List, [], ◌∷◌}
use Rattle.news_types.specs.History.{History, moment_at}
use Rattle.news_types.specs.Books.{Book}
use Rattle.news_types.specs.Calls.{Requested, follow, more}
use Rattle.drill_plan.specs.declared.planned.Planned.{Planned}

-- the list behind a planned request at its moment: with its entry, if it is one that is kept
abbrev pub asked : Planned → History → History
asked p h = more (follow h (Requested p.caller p.number p.command) (moment_at h p.moment)) h

-- behind requests one after another
abbrev pub given : History → List Planned → History
given h [] = h
given h (p ∷ planned) = given (asked p h) planned

-- the book with this list
abbrev pub with_list : History → Book → Book
with_list h b = record { store = b.store; told = b.told; list = h }
