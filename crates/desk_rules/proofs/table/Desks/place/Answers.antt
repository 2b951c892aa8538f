use Rattle.std.proofs.Common.{ap, ◌∙◌}
use Rattle.news_types.specs.Publications as published
use Rattle.desk_rules.specs.Spots.{numbered, place_at}
use Rattle.desk_rules.proofs.Found.{item_found, place_found}
use Rattle.desk_rules.proofs.table.Desks.place.Goals as goal

pub returns : goal.returns
returns c h keeps =
    let t = c.args.self.now in
    let places = t.places.list.items in
    let item = c.args.item in
    c.place_of.ensures ∙ ap (place_at places) c.seat.ensures.value ∙ place_found places (numbered t.seats.items item) (published.item h item) (item_found t h item keeps)
