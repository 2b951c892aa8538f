use Rattle.std.proofs.Common.{sym, ap, subst, ◌∙◌}
use Rattle.std.specs.Prelude.{nat_eq}
use Rattle.std.specs.Option.{option_map}
use Rattle.std.specs.HashMap.{get}
use Rattle.news_types.specs.Due.{withdrawn}
use Rattle.publications.specs.Keeps.{Tells, first_of, soonest_of, newest_of}
use Rattle.publications.proofs.Firsts.{first_less, due_less}
use Rattle.publications.proofs.table.Publications.withdraw.Goals as goal

pub returns : goal.returns
returns c ps st after_ps after_st keeps does =
    let t = c.args.self.now in
    let item = c.args.item in
    rw (does.all, does.stands) (record {
      rows = keeps.rows;
      numbers = keeps.numbers;
      firsts = λ i. ap (option_map first_of) (c.take.ensures i) ∙ first_less item i st (get nat_eq t.firsts i) (keeps.firsts i);
      dues = λ i. subst (λ o. Tells (soonest_of o) (newest_of o) (withdrawn item st) i) (sym (c.take.ensures i)) (due_less item i st (get nat_eq t.firsts i) does.none (keeps.dues i));
    })
