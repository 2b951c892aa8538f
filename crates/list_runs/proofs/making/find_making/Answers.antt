use Rattle.std.proofs.Common.{sym, ◌∙◌, arith}
use Rattle.news_room.proofs.Openings.{as_many}
use Rattle.list_runs.proofs.Makings.{making_is}
use Rattle.list_runs.proofs.making.find_making.Goals as goal

pub returns-clause-stands : goal.returns-clause-stands
returns-clause-stands c =
    let read = c.in-Ok.ensures.reads in
    let count = as_many c.args.records.now c.in_ok-place.place c.in-Ok.replay.machine read.0 (omega (arith, c.in_ok-place.ensures.within)) read.1 in
    (read.0, (read.1.stands, omega (arith, c.requires.few, c.in_ok-place.ensures.within, count)))

pub returns-clause-making : goal.returns-clause-making
returns-clause-making c h are =
    let read = c.in-Ok.ensures.reads in
    making_is c.args.records.now c.args.publication c.in_ok-place.place h c.in-Ok.replay.machine read.0 c.in-Ok-decode.entry c.index-records-place.result
    (c.in_ok-place.ensures.makes h are) are read.1 c.in-Ok-decode.ensures.found.0 (sym c.as_slice.ensures ∙ c.in-Ok-decode.ensures.found.1)
