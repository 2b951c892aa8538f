use Rattle.std.proofs.Common.{◌≡◌, take}
use Rattle.news_types.specs.Books.{Book}
use Rattle.news_types.specs.Publications.{pubs}
use Rattle.news_room.specs.Stands.{Stands}
use Rattle.archive_search.specs.Answers.{hits_told}
use Rattle.archive_search.proofs.hit.hits_of.Given as goal

abbrev pub invariant-loop-number : goal.invariant-loop-number
invariant-loop-number g l = (b : Book) → Stands g.K.Keeper.keeper l.room b → l.hits.items ≡ hits_told (pubs b.list) (take l.number-index l.numbers)
