use Rattle.std.proofs.Common.{ap, ◌∙◌}
use Rattle.news_types.specs.Publications as published
use Rattle.desk_rules.specs.Spots.{numbered, holder_at}
use Rattle.desk_rules.proofs.Found.{item_found, holder_found}
use Rattle.desk_rules.proofs.table.Desks.holder.Goals as goal

pub returns : goal.returns
returns c h keeps =
    let t = c.args.self.now in
    let item = c.args.item in
    c.holder_of.ensures ∙ ap holder_at c.seat.ensures.value ∙ holder_found t.places.list.items (numbered t.seats.items item) (published.item h item) (item_found t h item keeps)
