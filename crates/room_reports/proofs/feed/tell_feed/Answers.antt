use Rattle.news_types.specs.Books.{onto}
use Rattle.room_reports.specs.Texts.{feed_report_at}
use Rattle.room_reports.proofs.Ending.{report_follows, no_report}
use Rattle.room_reports.proofs.feed.tell_feed.Goals as goal

pub release-requires : goal.release-requires
release-requires g c = c.requires

pub write_feed-written-requires : goal.write_feed-written-requires
write_feed-written-requires g c =
    let r = c.in-Ok.ensures.0 in
    (onto r.more c.requires.0, (r.happens c.requires.0 c.requires.1).stands)

pub returns-in-Ok : goal.returns-in-Ok
returns-in-Ok g c =
    report_follows g.K.Keeper.keeper g.C.Clock.clock g.O.Sink.sink (feed_report_at c.args.subscriber c.args.after) c.args.room.now c.release.new.room c.args.clock.now c.release.new.clock c.args.output.now c.tell_end.new.output c.tell_end.result
    c.requires c.in-Ok.ensures.0 c.write_feed-written.new.output c.write_feed-written.result c.in-Ok.ensures.1 c.write_feed-written.ensures c.tell_end.ensures

pub returns-in-Err : goal.returns-in-Err
returns-in-Err g c =
    no_report g.K.Keeper.keeper g.C.Clock.clock g.O.Sink.sink (feed_report_at c.args.subscriber c.args.after) c.args.room.now c.release.new.room c.args.clock.now c.release.new.clock c.args.output.now c.tell_end-in-Err.new.output c.tell_end-in-Err.result
    c.requires c.in-Err.ensures.0 c.in-Err.status c.in-Err.ensures.1 c.tell_end-in-Err.ensures
