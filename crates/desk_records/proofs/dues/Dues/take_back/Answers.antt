use Rattle.std.proofs.Common.{◌≡◌, [], ◌∷◌, ℕ, length, cond, List, true, refl, ap, subst, ◌∙◌, arith, length-append}
use Rattle.std.specs.Option.{option_map}
use Rattle.news_types.specs.Products.{subscribers}
use Rattle.news_types.specs.Due.{taken_back}
use Rattle.news_types.specs.Publications.{pubs, standing}
use Rattle.news_types.proofs.Numbering.{CountsDown, pubs_count_down}
use Rattle.desk_records.specs.declared.rows.Row.{Row}
use Rattle.desk_records.specs.Slots.{told, told_at, killed, is_among}
use Rattle.desk_records.proofs.Steps.{places_moved, tells_moved, tells_more, tells_back, slots_new, rows_new}
use Rattle.desk_records.proofs.dues.Dues.take_back.Goals as goal

pub returns : goal.returns
returns c h g due keeps has does =
    let t = c.args.self.now in
    let p = does.p in
    let m = c.args.moment in
    let names = subscribers h in
    let left = taken_back m p.item (standing h) in
    let row : Row = record { stands = true; slots = c.args.slots } in
    let between = c.take_back_all.new.rows.items in
    let after = c.push_reserved.new.self.items in
    let count : length between ≡ length (pubs h) = omega (arith, c.take_back_all.ensures.len, c.take_back_all.new.rows.ok.0, t.rows.ok.0, keeps.count) in
    record {
      places = places_moved t.places names (subscribers g) does.subscribers keeps.places;
      count = ap length c.push_reserved.ensures.items ∙ length-append between (row ∷ []) ∙ omega (arith, count, ap length does.pubs);
      rows = tells_moved (told_at after) names _ (p ∷ pubs h) _ (p ∷ left) _ does.subscribers does.pubs does.standing
          (tells_more (told_at between) (told_at after) names (pubs h) left p (told row)
          (tells_back (told_at t.rows.items) (told_at between) names h m p.item keeps.rows
          (λ n. c.take_back_all.ensures.told n ∙ ap (λ (ns : List ℕ). cond (is_among n ns) (option_map (killed m) (told_at t.rows.items n)) (told_at t.rows.items n)) does.of_item))
          (record {
            stands = refl;
            slots = slots_new g p left names c.args.slots.items due does.standing does.subscribers does.releases has.fills;
            width = omega (arith, has.len);
          })
          (rows_new between after row p (pubs h) count (subst CountsDown does.pubs (pubs_count_down g)) c.push_reserved.ensures.items));
    }
