use Rattle.std.proofs.Common.{◌+◌, cond, [], ◌∷◌, is_some, Some, vec_len, ap, ◌∙◌, add-zero}
use Rattle.std.specs.HashMap.{get}
use Rattle.news_types.specs.Names.{same}
use Rattle.desk_rules.specs.Keys.{on_desk}
use Rattle.desk_rules.proofs.Spots.{seats_more}
use Rattle.desk_rules.proofs.Added.{desks_same, count_there, stage_there, other_desk}
use Rattle.desk_rules.proofs.table.Desks.add_stage.Goals as goal

pub returns : goal.returns
returns c f keeps fits =
    let t = c.args.self.now in
    let place = c.args.place in
    let there = fits.0 in
    record {
      users = keeps.users;
      user_count = keeps.user_count;
      desks = λ name.
          c.put_count.ensures.desks name
          ∙ ap (λ k. cond (same place.desk name) (Some (k + 1)) (get same t.desks name)) c.stage_count-count.ensures
          ∙ count_there t f keeps place there name;
      desk_count = desks_same t f keeps place there _ c.put_count.ensures.len;
      stages = λ other stage. ap is_some (c.add.ensures.numbers (on_desk other stage)) ∙ stage_there t f keeps place there other stage (vec_len t.places.list);
      placed = c.add.ensures.placed keeps.placed;
      members = keeps.members;
      seats = rw c.add.ensures.list (seats_more t.places.list.items (place ∷ []) t.seats.items f.spots keeps.seats);
      others = λ other none.
          let rest = keeps.others other none in
          let differs = other_desk t f keeps place there other none in
          record { none_added = λ stage. rw differs (rest.none_added stage); two = rw (differs, add-zero) rest.two };
    }
