use Rattle.std.proofs.Common.{◌≡◌, ◌+◌, ◌∷◌, ℕ, length, cond, Option, None, sym, refl, ap, ◌∙◌, arith}
use Rattle.std.specs.Prelude.{is_some}
use Rattle.std.specs.HashMap.{get, hash_map_len}
use Rattle.news_types.specs.Names.{same}
use Rattle.news_types.specs.Products.{subscribers}
use Rattle.news_types.specs.Publications.{pubs, standing}
use Rattle.desk_records.specs.Slots.{told_at}
use Rattle.desk_records.proofs.Places.{place_none}
use Rattle.desk_records.proofs.Steps.{places_moved, tells_moved, tells_wider}
use Rattle.desk_records.proofs.dues.Dues.add.Goals as goal

pub returns : goal.returns
returns c h g keeps does =
    let t = c.args.self.now in
    let name = c.args.name in
    let names = subscribers h in
    let new : get same t.places name ≡ None = keeps.places.found name ∙ place_none name names does.is_new in
    record {
      places = places_moved c.put.new.places (name ∷ names) (subscribers g) does.subscribers (record {
        found = λ s. c.put.ensures.places s ∙ rw (keeps.places.count, keeps.places.found s) refl;
        count = c.put.ensures.len ∙ ap (λ (o : Option ℕ). hash_map_len t.places + cond (is_some o) 0 1) new ∙ omega (arith, keeps.places.count);
      });
      count = keeps.count ∙ ap length (sym does.pubs);
      rows = tells_moved (told_at t.rows.items) (name ∷ names) _ (pubs h) _ (standing h) _ does.subscribers does.pubs does.standing
          (tells_wider (told_at t.rows.items) names (pubs h) (standing h) name does.is_new keeps.rows);
    }
