use Rattle.std.proofs.Common.{ℕ, length, cond, List, ap, ◌∙◌, arith}
use Rattle.std.specs.Option.{option_map}
use Rattle.news_types.specs.Products.{subscribers}
use Rattle.news_types.specs.Due as due
use Rattle.news_types.specs.Publications.{pubs, standing}
use Rattle.desk_records.specs.Slots.{told_at, withdrawn, is_among}
use Rattle.desk_records.proofs.Steps.{places_moved, tells_moved, tells_gone}
use Rattle.desk_records.proofs.dues.Dues.withdraw.Goals as goal

pub returns : goal.returns
returns c h g keeps does =
    let t = c.args.self.now in
    let names = subscribers h in
    let after = c.withdraw_all.new.rows.items in
    record {
      places = places_moved t.places names (subscribers g) does.subscribers keeps.places;
      count = omega (arith, c.withdraw_all.ensures.len, c.withdraw_all.new.rows.ok.0, t.rows.ok.0, keeps.count, ap length does.pubs);
      rows = tells_moved (told_at after) names _ (pubs h) _ (due.withdrawn does.item (standing h)) _ does.subscribers does.pubs does.standing
          (tells_gone (told_at t.rows.items) (told_at after) names h does.item keeps.rows does.firsts
          (λ n. c.withdraw_all.ensures.told n ∙ ap (λ (ns : List ℕ). cond (is_among n ns) (option_map withdrawn (told_at t.rows.items n)) (told_at t.rows.items n)) does.of_item));
    }
