use Rattle.news_types.specs.Books.{onto}
use Rattle.feed_http.proofs.Tellings.{found_for, search_turn, search_failed, search_refused}
use Rattle.feed_http.proofs.turn.answer_search.Goals as goal

pub tick-requires : goal.tick-requires
tick-requires g c = record { stands = c.requires }

pub tell_archive-requires : goal.tell_archive-requires
tell_archive-requires g c =
    let b = c.requires.0 in
    (onto c.tick.ensures.0 b, (c.tick.ensures.1 b c.requires.1).stands)

pub returns-in-Kept : goal.returns-in-Kept
returns-in-Kept g c =
    let r = c.tick.ensures in (
      r.0,
      λ b stands.
          search_turn g.K.Keeper.keeper c.args.archive.now c.tick.new.self b r.0 c.args.page c.args.query.now c.args.now c.tell_found.result c.tick.result c.tell_archive.result c.in-Kept.is (r.1 b stands)
          (found_for g.K.Keeper.keeper c.args.archive.now c.tick.new.self b r.0 c.args.page c.args.query.now c.args.now c.tell_found.result c.as_str.result.now c.tell_archive.result c.as_str.ensures c.tell_archive.ensures) c.tell_found.ensures,
    )

pub returns-in-Fault : goal.returns-in-Fault
returns-in-Fault g c =
    let r = c.in-Fault.ensures in
    (r.0, λ b stands. search_failed g.K.Keeper.keeper c.args.archive.now c.tick.new.self b r.0 c.args.page c.args.query.now c.args.now c.notify.result (r.1 b stands) c.notify.ensures)

pub returns-in-Full : goal.returns-in-Full
returns-in-Full g c =
    let r = c.in-Full.ensures in
    (r.0, λ b stands. search_refused g.K.Keeper.keeper c.args.archive.now c.tick.new.self b r.0 c.args.page c.args.query.now c.args.now c.notify-in-Full.result c.in-Full.size c.in-Full.length (r.1 b stands) c.notify-in-Full.ensures)
