use Rattle.std.proofs.Common.{◌≡◌, List, ap, subst, sym, ◌∙◌}
use Rattle.news_types.specs.Publications as published
use Rattle.desk_rules.specs.declared.seats.Seat.{Seat}
use Rattle.desk_rules.specs.Spots.{numbered}
use Rattle.desk_rules.specs.Asked.{IsHeldAs}
use Rattle.desk_rules.proofs.Found.{item_found, held_found}
use Rattle.desk_rules.proofs.table.Desks.seat.Goals as goal

pub returns-clause-held : goal.returns-clause-held
returns-clause-held c h keeps =
    let t = c.args.self.now in
    let i = c.args.item in
    let it = published.item h i in
    let is : c.seat_of.result ≡ numbered t.seats.items i = c.seat_of.ensures ∙ ap (λ (seats : List Seat). numbered seats i) c.deref.ensures.value in
    subst (λ seat. IsHeldAs seat it) (sym is) (held_found t.places.list.items (numbered t.seats.items i) it (item_found t h i keeps))
