use Rattle.std.proofs.Common.{◌∙◌, List, ap, sym}
use Rattle.std.proofs.lemmas.List.{drop_all}
use Rattle.package_members.specs.declared.member.Member.{Member}
use Rattle.told_objects.specs.Seen.{seen}
use Rattle.package_rules.specs.Associations.{associated}
use Rattle.package_rules.proofs.association.association_object.Goals as goal

pub returns : goal.returns
returns c =
    let none = drop_all c.loop-member.member-index c.args.members.now c.loop-member-test.false in
    ap (λ (ms : List Member). associated c.args.store ms (seen c.loop-member.told)) (sym none) ∙ c.loop-member.invariant
