use Rattle.std.proofs.Common.{◌∙◌, ℕ, [], refl, sym}
use Rattle.std.proofs.lemmas.Result.{IfOk-weaker}
use Rattle.news_types.specs.Names.{Bytes}
use Rattle.package_rules.proofs.Walking.{members_there, members_none}
use Rattle.package_rules.proofs.walk.members_of.Goals as goal

pub returns-in-Publication : goal.returns-in-Publication
returns-in-Publication g c =
    let frames = λ (s : Bytes) (k : ℕ). [] in
    IfOk-weaker c.named_members.result _ _
    (λ members is b stands. is ∙ members_there b.list c.args.number c.in-Publication.publication frames (sym c.in-Publication.is ∙ c.in_ok-answer.ensures.plain refl b frames stands)) c.named_members.ensures

pub returns : goal.returns
returns g c b stands =
    let frames = λ (s : Bytes) (k : ℕ). [] in
    c.of.ensures ∙ c.new.ensures.items ∙ members_none b.list c.args.number c.in_ok-answer.answer frames c.in_default.not-Publication (c.in_ok-answer.ensures.plain refl b frames stands)
