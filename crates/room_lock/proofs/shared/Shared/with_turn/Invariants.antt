use mathlib.Core.List.{IsPrefix}
use Rattle.news_types.specs.Books.{Book, onto}
use Rattle.room_lock.specs.Rules.{Since}
use Rattle.room_lock.specs.Passes.{at}
use Rattle.room_lock.proofs.shared.Shared.with_turn.Given as goal

abbrev pub ghosts-count : goal.ghosts-count
ghosts-count g a = let stands = g.T.StandsFor.stands in let start = stands a.self.now.table.shared.key.value in record {
  holds = λ more. IsPrefix a.seat.now.me.0.front more × Since stands start a._room.now more
      × ((b : Book) → start b → g.W.Work.does a._began.now.value (at (onto a.seat.now.me.0.front b) (g.T.StandsFor.faults a._found.now.value) (g.T.StandsFor.used a._found.now.value)) a._work.now (at (onto more b) (g.T.StandsFor.faults a._room.now) (g.T.StandsFor.used a._room.now)));
  before = (g.T.StandsFor.faults a._found.now.value, g.T.StandsFor.used a._found.now.value);
  after = (g.T.StandsFor.faults a._room.now, g.T.StandsFor.used a._room.now);
}
