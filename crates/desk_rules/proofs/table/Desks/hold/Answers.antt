use Rattle.std.proofs.Common.{refl}
use Rattle.desk_rules.specs.declared.seats.Seat.{Seat}
use Rattle.desk_rules.specs.Spots.{Spot}
use Rattle.desk_rules.proofs.Spots.{seats_changed}
use Rattle.desk_rules.proofs.table.Desks.hold.Goals as goal

pub returns : goal.returns
returns c f keeps =
    let t = c.args.self.now in
    let holder = c.args.holder in
    record {
      users = keeps.users;
      user_count = keeps.user_count;
      desks = keeps.desks;
      desk_count = keeps.desk_count;
      stages = keeps.stages;
      placed = keeps.placed;
      members = keeps.members;
      seats = rw c.hold.ensures
          (seats_changed t.places.list.items (λ (s : Seat). record s { holder = holder }) (λ (s : Spot). record s { holder = holder }) (λ seat spot is. record { place = is.place; holder = refl })
          c.args.item t.seats.items f.spots keeps.seats);
      others = λ other none. let rest = keeps.others other none in record { none_added = rest.none_added; two = rest.two };
    }
