use Rattle.news_types.specs.Books.{Book}
use Rattle.news_room.specs.Stands.{Stands}
use Rattle.package_rules.proofs.Finding.{Found}
use Rattle.package_rules.proofs.readers.having_every.Given as goal

abbrev pub invariant-loop-row : goal.invariant-loop-row
invariant-loop-row g l = (b : Book) → Stands g.K.Keeper.keeper l.room b → Found b.list l.members l.rows l.row-index l.names.items
