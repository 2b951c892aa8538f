use Rattle.std.proofs.Common.{◌≤◌, take}
use Rattle.std.specs.Prelude.{reverse}
use Rattle.news_types.specs.Books.{Book}
use Rattle.news_types.specs.Publications.{pubs}
use Rattle.news_room.specs.Stands.{Stands}
use Rattle.archive_query.specs.View.{query_of}
use Rattle.archive_search.specs.Pages.{IsPageOf}
use Rattle.archive_search.proofs.Hits.{hits_in}
use Rattle.archive_search.proofs.searching.search.Given as goal

abbrev pub invariant-loop-before : goal.invariant-loop-before
invariant-loop-before g l = record {
  few : l.found.total ≤ l.before;
  so_far : (b : Book) → Stands g.K.Keeper.keeper l.room b → IsPageOf (hits_in (query_of l.query) (take l.before (reverse (pubs b.list)))) l.page l.found;
}
