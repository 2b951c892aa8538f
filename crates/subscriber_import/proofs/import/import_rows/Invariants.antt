use Rattle.std.proofs.Common.{List, take, map}
use Rattle.csv.specs.Records.{fields_of}
use Rattle.news_types.specs.declared.entry.Entry.{Entry}
use Rattle.news_types.specs.Books.{Book}
use Rattle.news_room.specs.Stands.{Stands}
use Rattle.subscriber_import.proofs.Importing.{Gone}
use Rattle.subscriber_import.proofs.import.import_rows.Given as goal

-- the first records were gone through, so many
abbrev pub invariant-loop-row : goal.invariant-loop-row
invariant-loop-row g l =
    (more : List Entry) × ((b : Book) → Stands g.K.Keeper.keeper l.initial.room b → Gone g.K.Keeper.keeper l.caller l.now l.initial.room l.room b (map fields_of (take l.row-index l.rows)) more l.lines.items)
