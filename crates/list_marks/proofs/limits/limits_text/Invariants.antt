use Rattle.std.proofs.Common.{◌≡◌, take, string_bytes}
use Rattle.std.specs.List.{flat_map}
use Rattle.news_types.specs.Books.{Book}
use Rattle.news_room.specs.Stands.{Stands}
use Rattle.list_marks.specs.Limits.{line_in}
use Rattle.list_marks.proofs.limits.limits_text.Given as goal

-- the lines of the limits so far
abbrev pub invariant-loop-limited : goal.invariant-loop-limited
invariant-loop-limited g l = (b : Book) → Stands g.K.Keeper.keeper l.room b → string_bytes l.text ≡ flat_map (line_in b.list (g.K.Keeper.keeper.used l.room.keeper)) (take l.limited-index l.limited-items)
