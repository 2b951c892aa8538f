use Rattle.std.proofs.Common.{◌&&◌, [], ◌∷◌, ◌++◌, cond, is_some, Some, vec_len, ap, ◌∙◌}
use Rattle.std.specs.HashMap.{get}
use Rattle.news_types.specs.Names.{same}
use Rattle.news_types.specs.Desks.{working}
use Rattle.desk_rules.specs.Keys.{same_on, on_desk}
use Rattle.desk_rules.specs.Steps.{at}
use Rattle.desk_rules.proofs.Spots.{seats_more}
use Rattle.desk_rules.proofs.Added.{neither, desks_counted, desk_there, stages_there}
use Rattle.desk_rules.proofs.table.Desks.add_desk.Goals as goal

pub returns : goal.returns
returns c f keeps none =
    let t = c.args.self.now in
    let desk = c.args.desk in
    let places = t.places.list.items in
    let m = vec_len c.add.new.self.list in
    let n = vec_len t.places.list in
    record {
      users = keeps.users;
      user_count = keeps.user_count;
      desks = λ name. c.put_count.ensures.desks name ∙ desk_there t f keeps desk none name;
      desk_count = desks_counted t f keeps desk none _ c.put_count.ensures.len;
      stages = λ other stage.
          let key = on_desk other stage in
          let before = get same_on t.places.numbers key in
          ap is_some (
          c.add-2.ensures.numbers key
          ∙ ap (λ w. cond (same desk other && same w stage) (Some m) (get same_on c.add.new.self.numbers key)) c.working.ensures
          ∙ ap (λ o. cond (same desk other && same working stage) (Some m) o) (c.add.ensures.numbers key ∙ ap (λ i. cond (same desk other && same i stage) (Some n) before) c.incoming.ensures)
          )
          ∙ stages_there t f keeps desk none other stage m n;
      placed = c.add-2.ensures.placed (c.add.ensures.placed keeps.placed);
      members = keeps.members;
      seats =
          let one = seats_more places (at desk c.incoming.result ∷ []) t.seats.items f.spots keeps.seats in
          let two = seats_more (places ++ at desk c.incoming.result ∷ []) (at desk c.working.result ∷ []) t.seats.items f.spots one in
          rw (c.add-2.ensures.list, c.add.ensures.list) two;
      others = λ other isnt.
          let rest = keeps.others other (neither _ _ isnt).1 in
          record { none_added = rest.none_added; two = rest.two };
    }
