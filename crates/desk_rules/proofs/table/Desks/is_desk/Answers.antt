use Rattle.std.proofs.Common.{◌≡◌, ℕ, Bool, true, false, cond, Some, None, is_some, refl, ap, ◌∙◌}
use Rattle.news_types.specs.Desks.{is_desk, stage_count}
use Rattle.desk_rules.proofs.table.Desks.is_desk.Goals as goal

there : (b : Bool) (n : ℕ) → is_some (cond b (Some n) None) ≡ b
there true n = refl
there false n = refl

pub returns : goal.returns
returns c h keeps =
    let desk = c.args.desk.now in
    c.has_desk.ensures ∙ ap is_some (keeps.desks desk) ∙ there (is_desk h desk) (stage_count h desk)
