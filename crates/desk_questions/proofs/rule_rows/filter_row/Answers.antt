use Rattle.std.proofs.Common.{◌≡◌, Some, map, sym, ap, ◌∙◌}
use Rattle.std.specs.Prelude.{option_map}
use Rattle.std.specs.Option.{option_copied}
use Rattle.news_types.specs.Filters.{filters}
use Rattle.desk_views.specs.Things.{filter_age, is_block}
use Rattle.content_filters.specs.Kept.{filter_named, kept_of}
use Rattle.told_objects.specs.Seen.{seen}
use Rattle.desk_questions.specs.Rows.{filter_members, statement_row}
use Rattle.desk_questions.proofs.Listed.{same_objects}
use Rattle.desk_questions.proofs.Filtered.{its_age, told_as}
use Rattle.desk_questions.proofs.rule_rows.filter_row.Goals as goal

pub returns : goal.returns
returns c = λ h keeps.
    let name = c.args.name.now in
    let kept = c.in-Some.kept.now in
    let is : Some kept ≡ option_map kept_of (filter_named name (filters h)) = sym (ap option_copied c.in-Some.is) ∙ c.filter.ensures h keeps in
    let aged = c.unwrap_or-age.ensures ∙ its_age name (filters h) kept c.filter_age.result (filter_age h name) is (c.filter_age.ensures h keeps) in
    let blocks = c.is_block-blocks.ensures h keeps in
    let statements = same_objects seen statement_row c.in_ok-rows.rows.items kept.statements (c.in_ok-rows.ensures ∙ ap (map statement_row) c.statements.ensures) in
    c.in_ok-row.ensures
    ∙ (λ k. filter_members name (aged k) (blocks k) (statements k))
    ∙ told_as name (filter_age h name) (is_block h name) kept (filter_named name (filters h)) is
