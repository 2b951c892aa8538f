use Rattle.std.proofs.Common.{◌≡◌, take}
use Rattle.std.specs.List.{filter}
use Rattle.news_types.specs.Books.{Book}
use Rattle.news_room.specs.Stands.{Stands}
use Rattle.list_marks.specs.Limits.{is_near_in}
use Rattle.list_marks.proofs.limits.near_limits.Given as goal

-- those of the limits so far
abbrev pub invariant-loop-limited : goal.invariant-loop-limited
invariant-loop-limited g l = (b : Book) → Stands g.K.Keeper.keeper l.room b → l.near.items ≡ filter (is_near_in b.list (g.K.Keeper.keeper.used l.room.keeper)) (take l.limited-index l.limited-items)
