use Rattle.std.proofs.Common.{ℕ, List, codes, map, take, not, sym, ap, subst, ◌∙◌}
use Rattle.std.specs.Prelude.{nat_lt}
use Rattle.std.specs.List.{filter}
use Rattle.std.specs.List.Sorted.{IsNonDecreasing}
use Rattle.serde_json.specs.Data.{Items, array, put}
use Rattle.news_types.specs.Publications.{item}
use Rattle.told_objects.specs.Members.{answering, written}
use Rattle.told_objects.specs.Seen.{seen}
use Rattle.desk_questions.specs.declared.answer.DeskTold.TheVariants as told
use Rattle.desk_questions.specs.Publications.{publication_row, publications_bytes, row_by_number}
use Rattle.desk_questions.proofs.Listed.{same_objects}
use Rattle.desk_questions.proofs.Numbers.{numbers_rise, page_rows}
use Rattle.desk_questions.proofs.Told.{found, missing}
use Rattle.desk_questions.proofs.published.tell_publications.Goals as goal

pub returns : goal.returns
returns c = λ h stands.
    let i = c.args.item in
    let after = c.args.after in
    let keeps = c.stories-stories.ensures.keeps h stands in
    let all = c.numbers.ensures h keeps in
    let rises : IsNonDecreasing c.numbers.result.now = subst IsNonDecreasing (sym all) (numbers_rise h i) in
    let rows = c.in_ok-rows.ensures h stands
    ∙ ap (map (row_by_number h)) (c.page-numbers.ensures rises ∙ ap (λ (l : List ℕ). take 100 (filter (nat_lt after) l)) all)
    ∙ page_rows h i after in
    let bytes = c.in_ok-publications_object.ensures
    ∙ ap (λ (d : Items). written (put (codes "rows") (array d) (answering "publications"))) (same_objects seen (publication_row h) _ _ rows) in
    ap told.Found bytes
    ∙ found (item h i) c.version.result (publications_bytes h i after) (c.version.ensures h keeps) (c.is_none.ensures ∙ ap not c.if-is_none.false)

pub returns-then-is_none : goal.returns-then-is_none
returns-then-is_none c = λ h stands.
    missing (item h c.args.item) c.version.result (publications_bytes h c.args.item c.args.after) (c.version.ensures h (c.stories-stories.ensures.keeps h stands))
    (c.is_none.ensures ∙ ap not c.if-is_none.true)
