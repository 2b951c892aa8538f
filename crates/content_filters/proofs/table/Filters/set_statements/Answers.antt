use Rattle.std.proofs.Common.{◌≡◌, ◌<◌, is_some, vec_len, None, Some, refl, sym, ap, ◌∙◌, arith}
use Rattle.std.proofs.lemmas.Bool.{false≢true}
use Rattle.std.proofs.lemmas.List.{length-map}
use Rattle.news_types.specs.Filters.{Filter, changed}
use Rattle.content_filters.specs.declared.table.KeptFilter.{KeptFilter}
use Rattle.content_filters.specs.Kept.{age}
use Rattle.content_filters.proofs.Ages.{aged, age_below}
use Rattle.content_filters.proofs.Facts.{filters_counted}
use Rattle.content_filters.proofs.Changed.{age_map, apart_map, block_map, changed_name, changed_blocks, set_kept}
use Rattle.content_filters.proofs.table.Filters.set_statements.Goals as goal

pub returns-in-Some : goal.returns-in-Some
returns-in-Some c found count fs keeps there =
    let t = c.args.self.now in
    let name = c.args.filter.now in
    let place = c.in-Some.place in
    let restated : Filter → Filter = λ f. record f { statements = c.args.statements } in
    let g : Filter → Filter = changed name restated in
    let names : (f : Filter) → (g f).name ≡ f.name = changed_name name restated (λ _. refl) in
    let at : age fs name ≡ Some place = sym (keeps.ages name) ∙ sym c.in-Some.ensures in
    let d : KeptFilter = record { name = name; statements = c.args.statements } in
    let within : place < vec_len t.filters = omega (arith, age_below fs name place at, filters_counted t found count fs keeps) in
    let blocks = keeps.blocking in
    record {
      each = keeps.each;
      inside = keeps.inside;
      conditions = keeps.conditions;
      filters = c.replace_statements.ensures d within ∙ rw keeps.filters (set_kept name c.args.statements fs place d keeps.apart at);
      ages = λ other. keeps.ages other ∙ sym (age_map g names fs other);
      apart = apart_map g names fs keeps.apart;
      few = rw (length-map fs g) keeps.few;
      blocking = record { each = λ other. blocks.each other ∙ sym (block_map g names (changed_blocks name restated (λ _. refl)) fs other); order = blocks.order };
    }

pub returns-in_default : goal.returns-in_default
returns-in_default c found count fs keeps there =
    let none : age fs c.args.filter.now ≡ None = sym (keeps.ages c.args.filter.now) ∙ sym c.place_of.ensures ∙ c.in_default.is in
    absurd (false≢true (sym (ap is_some none) ∙ aged fs c.args.filter.now ∙ there))
