use Rattle.std.proofs.Common.{◌≡◌, ◌+◌, ◌-◌, ◌++◌, List}
use Rattle.news_types.specs.declared.entry.Entry.{Entry}
use Rattle.news_types.specs.Books.{Book}
use Rattle.news_room.specs.Stands.{Stands, LIMIT}
use Rattle.publish_workers.specs.Turns.{Turn}
use Rattle.publish_workers.specs.Links.{Passes, Reads, CountsFaults}
use Rattle.publish_workers.specs.Drains.{AllReported, lost_in, refused_in, all_frames, all_replies, all_passed, all_readings, lines_of}
use Rattle.publish_workers.proofs.Draining.{Chain}
use Rattle.publish_workers.proofs.drain.drain_feeds.Given as goal

-- so many turns have happened, each an attempt that was reported
abbrev pub invariant-loop-reported : goal.invariant-loop-reported
invariant-loop-reported g l =
    CountsFaults l.link_failed (g.L.Link.link.faults l.initial.link) (g.L.Link.link.faults l.link)
    × (g.K.Keeper.keeper.faults l.room.keeper ≡ g.K.Keeper.keeper.faults l.initial.room.keeper)
    × (g.O.Sink.sink.faults l.output ≡ g.O.Sink.sink.faults l.initial.output)
    × ((ts : List Turn) × AllReported ts × (l.link_failed ≡ lost_in ts) × (l.no_receipt ≡ refused_in ts)
    × (g.L.Link.link.serves l.link ≡ g.L.Link.link.serves l.initial.link)
    × ((more : List Entry) × ((b : Book) → Stands g.K.Keeper.keeper l.initial.room b → Chain g.K.Keeper.keeper l.initial.room l.room b (g.L.Link.link.serves l.initial.link) ts more))
    × (g.L.Link.link.tells l.initial.link → Passes g.L.Link.link l.initial.link l.link (all_frames ts) (all_replies ts) (all_passed ts))
    × (g.C.Clock.clock.tells l.initial.clock → Reads g.C.Clock.clock l.initial.clock l.clock (all_readings ts))
    × (g.O.Sink.sink.tells l.initial.output → g.O.Sink.sink.tells l.output × (g.O.Sink.sink.taken l.output ≡ g.O.Sink.sink.taken l.initial.output ++ lines_of ts)))

-- what is left of the log within the limit
abbrev pub decreases-loop-reported : goal.decreases-loop-reported
decreases-loop-reported g l = LIMIT + 1 - g.K.Keeper.keeper.used l.room.keeper
