use Rattle.std.proofs.Common.{List, [], ◌∷◌, ◌++◌, sym, ap, ◌∙◌, arith}
use Rattle.news_types.specs.Names.{Bytes}
use Rattle.news_types.specs.Desks.{is_member}
use Rattle.rule_tables.proofs.Telling.{items_of, kept_one, passed_one}
use Rattle.rule_tables.proofs.rules.Rules.members.Goals as goal
use Rattle.rule_tables.proofs.rules.Rules.members.Goals.{then-is_member+in_ok-push, else-is_member}

pub loop-user-preserved : goal.loop-user-preserved
loop-user-preserved c h keeps =
    let test = is_member h c.args.desk.now in
    let users = c.names-users.result.now in
    let place = c.loop-user.user-index in
    let user = c.user-item.result in
    let said = c.is_member.ensures h keeps.desks in
    elim c.if-is_member.branch [
      | then-is_member+in_ok-push w ↦ ap items_of w.names-is ∙ w.in_ok-push.ensures.items ∙ ap (λ (ns : List Bytes). ns ++ user ∷ []) (c.loop-user.invariant h keeps) ∙ kept_one test users place user (omega arith) c.user-item.is (sym w.if-is_member.true ∙ said)
      | else-is_member w ↦ ap items_of w.names-is ∙ c.loop-user.invariant h keeps ∙ passed_one test users place user (omega arith) c.user-item.is (sym w.if-is_member.false ∙ said)
    ]
