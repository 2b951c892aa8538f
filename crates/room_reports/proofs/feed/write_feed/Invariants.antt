use Rattle.std.proofs.Common.{◌≡◌, ◌-◌, ◌^◌}
use Rattle.news_types.specs.Books.{Book}
use Rattle.news_room.specs.Stands.{Stands}
use Rattle.room_reports.specs.Texts.{feed_report_at}
use Rattle.room_reports.proofs.Writing.{SoFar}
use Rattle.room_reports.proofs.feed.write_feed.Given as goal

-- the report's front was written, and the rest of it begins behind so many entries
abbrev pub invariant-pages : goal.invariant-pages
invariant-pages g l =
    (g.O.Sink.sink.faults l.output ≡ g.O.Sink.sink.faults l.initial.output)
    × ((b : Book) → Stands g.K.Keeper.keeper l.room b
    → SoFar g.O.Sink.sink (feed_report_at l.subscriber l.after b.list) (feed_report_at l.subscriber l.from b.list) l.initial.output l.output)

-- how many entries may follow
abbrev pub decreases-pages : goal.decreases-pages
decreases-pages g l = 2 ^ 32 - l.from
