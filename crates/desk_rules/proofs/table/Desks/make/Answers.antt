use Rattle.std.proofs.Common.{refl}
use Rattle.desk_rules.proofs.Spots.{seats_end}
use Rattle.desk_rules.proofs.Added.{number_there}
use Rattle.desk_rules.proofs.table.Desks.make.Goals as goal

pub returns : goal.returns
returns c f keeps there =
    let t = c.args.self.now in
    let places = t.places.list.items in
    record {
      users = keeps.users;
      user_count = keeps.user_count;
      desks = keeps.desks;
      desk_count = keeps.desk_count;
      stages = keeps.stages;
      placed = keeps.placed;
      members = keeps.members;
      seats =
          let at = number_there t f keeps c.args.place there in
          rw (c.push_reserved.ensures.items, c.number-place.ensures)
          (seats_end places t.seats.items f.spots _ _ keeps.seats (record { place = at; holder = refl }));
      others = λ other none. let rest = keeps.others other none in record { none_added = rest.none_added; two = rest.two };
    }
