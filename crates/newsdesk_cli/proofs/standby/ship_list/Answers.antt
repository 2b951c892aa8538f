use Rattle.std.proofs.Common.{refl}
use Rattle.newsdesk_cli.proofs.Links.{over_first, over_none}
use Rattle.newsdesk_cli.proofs.standby.ship_list.Goals as goal

pub returns-in-Some : goal.returns-in-Some
returns-in-Some g c =
    let item = c.in-Some.ensures.item in
    over_first g.D.Disk.disk g.O.Sink.sink c.args.name c.args.log c.ship_by.result.1 c.args.side c.ship_by.result.2 c.args.output.now c.ship_by.new.output c.ship_by.result.0 g.L.Link.link
    c.args.links.now.items c.in-Some.link.now c.ship_by.new.link item.3.0 (item.3.1 _) c.ship_by.ensures

pub returns-in-None : goal.returns-in-None
returns-in-None g c =
    over_none g.D.Disk.disk g.O.Sink.sink c.args.name c.args.log c.args.log c.args.side c.args.side c.args.output.now c.tell_usage.new.output c.tell_usage.result g.L.Link.link
    c.args.links.now.items c.in-None.ensures.item.3 (record { same = refl; same_side = refl; refused = c.tell_usage.ensures })
