use Rattle.std.proofs.Common.{◌≡◌, ℕ, Option, Some, ◌∷◌, sym, ap, ◌∙◌, subst}
use Rattle.std.specs.Prelude.{nat_eq}
use Rattle.std.specs.Option.{option_map}
use Rattle.std.specs.HashMap.{get}
use Rattle.news_types.specs.Due.{taken_back}
use Rattle.publications.specs.declared.table.Published.{Published}
use Rattle.publications.specs.declared.table.OfItem.{OfItem}
use Rattle.publications.specs.Keeps.{Tells, first_of, soonest_of, newest_of}
use Rattle.publications.proofs.Following.{takes_back, step_leads}
use Rattle.publications.proofs.table.Publications.prepare_taking_back.Goals as goal

pub returns-clause-change : goal.returns-clause-change
returns-clause-change c ps st p keeps row_is number_is does =
    let t = c.args.self.now in
    let old : OfItem = c.in-Some.before.now in
    let item : c.args.row.item ≡ p.item = ap (λ (r : Published). r.item) row_is in
    let found : Some old ≡ get nat_eq t.firsts p.item = c.in-Some.ensures.value ∙ ap (λ (i : ℕ). get nat_eq t.firsts i) item in
    let is = c.in_ok-of.ensures in
    step_leads c.prepare_numbered.result _ ps st (p ∷ ps) (p ∷ taken_back p.release p.item st) c.prepare_numbered.ensures.change
    (takes_back c.args.number c.args.row c.in_ok-of.of old p c.args.due.now ps st number_is row_is does is.0 is.1 is.2
    (ap (option_map first_of) found ∙ keeps.firsts p.item)
    (subst (λ (o : Option OfItem). Tells (soonest_of o) (newest_of o) st p.item) (sym found) (keeps.dues p.item)))
