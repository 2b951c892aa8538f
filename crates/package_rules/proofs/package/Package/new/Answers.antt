use Rattle.std.proofs.Common.{◌∙◌}
use Rattle.package_rules.proofs.Texts.{composed_fits}
use Rattle.package_rules.proofs.package.Package.new.Goals as goal

pub invariant_of-result : goal.invariant_of-result
invariant_of-result c =
    composed_fits c.args.story c.composite_story.result c.args.members.now c.of-members.result _ c.requires c.in_ok-body.ensures c.composite_story.ensures
    (c.of-members.ensures ∙ c.in_ok-from_slice.ensures.items)
