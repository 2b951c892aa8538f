use Rattle.std.proofs.Common.{◌≡◌, ◌∷◌, cond, Some, refl, sym, ap, subst, ◌∙◌}
use Rattle.std.specs.Prelude.{nat_eq}
use Rattle.std.specs.Option.{option_map}
use Rattle.std.specs.HashMap.{get}
use Rattle.publications.specs.Keeps.{Tells, first_of, soonest_of, newest_of}
use Rattle.publications.specs.Steps.{left_by}
use Rattle.publications.proofs.Firsts.{first_more, due_more}
use Rattle.publications.proofs.table.Publications.publish.Goals as goal

pub returns : goal.returns
returns c ps st after_ps after_st keeps does =
    let t = c.args.self.now in
    let p = does.p in
    let taken = does.taken in
    let item : c.args.row.item ≡ p.item = ap (λ r. r.item) does.shows in
    rw (does.all, does.stands) (record {
      rows = c.push_reserved.ensures.items ∙ rw (keeps.rows, does.shows) refl;
      firsts = λ i.
          ap (option_map first_of) (c.put.ensures i ∙ ap (λ n. cond (nat_eq n i) (Some c.args.of) (get nat_eq t.firsts i)) item)
          ∙ first_more p taken st i c.args.of (get nat_eq t.firsts i) does.first (keeps.firsts i);
      numbers = λ i. c.add_number.ensures i ∙ rw (item, does.is_number, keeps.numbers i) refl;
      dues = λ i.
          subst (λ o. Tells (soonest_of o) (newest_of o) (p ∷ left_by taken p.item st) i)
          (sym (c.put.ensures i ∙ ap (λ n. cond (nat_eq n i) (Some c.args.of) (get nat_eq t.firsts i)) item))
          (due_more p taken st i c.args.of (get nat_eq t.firsts i) does.due (keeps.dues i));
    })
