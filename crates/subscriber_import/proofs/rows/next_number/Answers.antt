use Rattle.std.proofs.Common.{◌∙◌, sym}
use Rattle.subscriber_import.proofs.Importing.{number_after, number_there}
use Rattle.subscriber_import.proofs.rows.next_number.Goals as goal

pub returns : goal.returns
returns g c b stands =
    number_after g.K.Keeper.keeper c.args.room.now c.request-answered.new.self b c.request-answered.ensures.0 c.args.caller c.args.now c.in-Some.number c.request-answered.result (c.request-answered.ensures.1 b stands) (sym c.expected.ensures ∙ c.in-Some.is)

pub unreachable-requires : goal.unreachable-requires
unreachable-requires g c =
    let b = c.requires.0 in
    number_there g.K.Keeper.keeper c.args.room.now c.request-answered.new.self b c.request-answered.ensures.0 c.args.caller c.args.now c.request-answered.result (c.request-answered.ensures.1 b c.requires.1) (sym c.expected.ensures ∙ c.in-None.is)
