use Rattle.std.proofs.Common.{◌≡◌, ℕ, ◌+◌, length}
use Rattle.news_types.specs.History.{History}
use Rattle.news_types.specs.Books.{Book}
use Rattle.news_room.specs.Stands.{Stands}
use Rattle.feed_drill.specs.Requests.{given, with_list}
use Rattle.feed_drill.specs.Readings.{IsRead}
use Rattle.feed_drill.proofs.asking.ask_all.Given as goal

-- the requests that are left give from here on the list that all of them give, and the clock was read for each of the others
abbrev pub invariant-loop-plan : goal.invariant-loop-plan
invariant-loop-plan g l =
    ((b : Book) → Stands g.K.Keeper.keeper l.initial.room b → (h : History) × Stands g.K.Keeper.keeper l.room (with_list h b) × (given h l.plan ≡ given b.list l.initial.plan))
    × ((n : ℕ) × (n + length l.plan ≡ length l.initial.plan) × IsRead g.C.Clock.clock n l.initial.clock l.clock)

abbrev pub decreases-loop-plan : goal.decreases-loop-plan
decreases-loop-plan g l = length l.plan
