use Rattle.package_rules.proofs.Texts.{written}
use Rattle.package_rules.proofs.text.package_text.Goals as goal

pub returns : goal.returns
returns c = written c.args.members.now c.loop-member.member-index _ c.of.result c.requires c.loop-member-test.false c.loop-member.invariant c.of.ensures
