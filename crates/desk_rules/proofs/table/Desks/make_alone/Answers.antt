use Rattle.std.proofs.Common.{refl}
use Rattle.desk_rules.proofs.Spots.{seats_end}
use Rattle.desk_rules.proofs.table.Desks.make_alone.Goals as goal

pub returns : goal.returns
returns c f keeps =
    let t = c.args.self.now in
    record {
      users = keeps.users;
      user_count = keeps.user_count;
      desks = keeps.desks;
      desk_count = keeps.desk_count;
      stages = keeps.stages;
      placed = keeps.placed;
      members = keeps.members;
      seats = rw c.push_reserved.ensures.items (seats_end t.places.list.items t.seats.items f.spots _ _ keeps.seats (record { place = refl; holder = refl }));
      others = λ other none. let rest = keeps.others other none in record { none_added = rest.none_added; two = rest.two };
    }
