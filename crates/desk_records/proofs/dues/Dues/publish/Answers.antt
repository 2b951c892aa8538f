use Rattle.std.proofs.Common.{[], ◌∷◌, length, true, refl, ap, subst, ◌∙◌, arith, length-append}
use Rattle.news_types.specs.Products.{subscribers}
use Rattle.news_types.specs.Publications.{pubs, standing}
use Rattle.news_types.proofs.Numbering.{CountsDown, pubs_count_down}
use Rattle.desk_records.specs.declared.rows.Row.{Row}
use Rattle.desk_records.specs.Slots.{told, told_at}
use Rattle.desk_records.proofs.Steps.{places_moved, tells_moved, tells_more, slots_new, rows_new}
use Rattle.desk_records.proofs.dues.Dues.publish.Goals as goal

pub returns : goal.returns
returns c h g due keeps has does =
    let t = c.args.self.now in
    let p = does.p in
    let names = subscribers h in
    let row : Row = record { stands = true; slots = c.args.slots } in
    let after = c.push_reserved.new.self.items in
    record {
      places = places_moved t.places names (subscribers g) does.subscribers keeps.places;
      count = ap length c.push_reserved.ensures.items ∙ length-append t.rows.items (row ∷ []) ∙ omega (arith, keeps.count, ap length does.pubs);
      rows = tells_moved (told_at after) names _ (p ∷ pubs h) _ (p ∷ standing h) _ does.subscribers does.pubs does.standing
          (tells_more (told_at t.rows.items) (told_at after) names (pubs h) (standing h) p (told row) keeps.rows
          (record {
            stands = refl;
            slots = slots_new g p (standing h) names c.args.slots.items due does.standing does.subscribers does.releases has.fills;
            width = omega (arith, has.len);
          })
          (rows_new t.rows.items after row p (pubs h) keeps.count (subst CountsDown does.pubs (pubs_count_down g)) c.push_reserved.ensures.items));
    }
