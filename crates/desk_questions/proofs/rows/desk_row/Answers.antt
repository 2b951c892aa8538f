use Rattle.std.proofs.Common.{◌≡◌, Bool, true, sym, ap, ◌∙◌}
use Rattle.news_types.specs.Desks.{is_desk}
use Rattle.desk_views.specs.Things.{members, stages}
use Rattle.desk_questions.specs.Rows.{desk_members, desk_row}
use Rattle.desk_questions.proofs.rows.desk_row.Goals as goal

pub returns : goal.returns
returns c = λ h keeps.
    let desk = c.args.name.now in
    let there : is_desk h desk ≡ true = sym (c.is_desk.ensures h keeps) ∙ c.if-not-is_desk.false in
    let its_members = c.as_slice.ensures ∙ c.in_ok-members.ensures h keeps in
    let its_stages = c.stages.ensures h keeps there in
    c.in_ok-row.ensures
    ∙ (λ k. desk_members desk (its_members k) (its_stages k))
    ∙ sym (ap (λ (b : Bool). desk_row desk b (members h desk) (stages h desk)) there)
