use Rattle.std.proofs.Common.{◌≡◌, Some, sym, subst}
use Rattle.std.specs.HashMap.{get}
use Rattle.desk_rules.specs.declared.seats.Seat.{Seat}
use Rattle.desk_rules.specs.Keys.{same_on}
use Rattle.desk_rules.specs.Spots.{Spot, IsPlace}
use Rattle.desk_rules.specs.Places.{key_of}
use Rattle.desk_rules.proofs.Spots.{seats_changed}
use Rattle.desk_rules.proofs.Added.{number_there}
use Rattle.desk_rules.proofs.table.Desks.put.Goals as goal

pub returns-in-Some : goal.returns-in-Some
returns-in-Some c f keeps there =
    let t = c.args.self.now in
    let places = t.places.list.items in
    let number = c.in-Some.number in
    let place = c.args.place in
    let number_is : get same_on t.places.numbers (key_of place) ≡ Some number = sym c.in-Some.ensures in
    let at : IsPlace places (Some number) (Some place) = subst (λ n. IsPlace places n (Some place)) number_is (number_there t f keeps place there) in
    record {
      users = keeps.users;
      user_count = keeps.user_count;
      desks = keeps.desks;
      desk_count = keeps.desk_count;
      stages = keeps.stages;
      placed = keeps.placed;
      members = keeps.members;
      seats = rw c.put.ensures
          (seats_changed places (λ (s : Seat). record s { place = Some number }) (λ (s : Spot). record s { place = Some place }) (λ seat spot is. record { place = at; holder = is.holder })
          c.args.item t.seats.items f.spots keeps.seats);
      others = λ other none. let rest = keeps.others other none in record { none_added = rest.none_added; two = rest.two };
    }
