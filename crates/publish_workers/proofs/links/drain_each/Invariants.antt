use Rattle.std.proofs.Common.{◌≡◌, ◌++◌, List, length, map}
use Rattle.news_types.specs.declared.entry.Entry.{Entry}
use Rattle.news_types.specs.Books.{Book}
use Rattle.news_room.specs.Stands.{Stands}
use Rattle.publish_workers.specs.declared.drain.Drained as ends
use Rattle.publish_workers.specs.Links.{Reads}
use Rattle.publish_workers.specs.LinkDrains.{LinkDrain, AllIdle, end_of_all, drains_readings, drains_lines, DrainLinks}
use Rattle.publish_workers.proofs.LinkDraining.{LinkChain}
use Rattle.publish_workers.proofs.links.drain_each.Given as goal

-- the links up to here were drained, each to an end with none ready
abbrev pub invariant-loop-link : goal.invariant-loop-link
invariant-loop-link g l =
    (g.K.Keeper.keeper.faults l.room.keeper ≡ g.K.Keeper.keeper.faults l.initial.room.keeper)
    × (g.O.Sink.sink.faults l.output ≡ g.O.Sink.sink.faults l.initial.output)
    × ((ds : List LinkDrain) × AllIdle ds × (end_of_all ds ≡ ends.Drained.Idle l.lost l.refused) × (length ds ≡ l.link-index) × DrainLinks g.L.Link.link l.initial.links l.links ds
    × ((more : List Entry) × ((b : Book) → Stands g.K.Keeper.keeper l.initial.room b → LinkChain g.K.Keeper.keeper l.initial.room l.room b (map g.L.Link.link.serves l.initial.links) ds more))
    × (g.C.Clock.clock.tells l.initial.clock → Reads g.C.Clock.clock l.initial.clock l.clock (drains_readings ds))
    × (g.O.Sink.sink.tells l.initial.output → g.O.Sink.sink.tells l.output × (g.O.Sink.sink.taken l.output ≡ g.O.Sink.sink.taken l.initial.output ++ drains_lines ds)))
