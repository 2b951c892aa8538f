use Rattle.std.proofs.Common.{◌≡◌, drop}
use Rattle.serde_json.specs.Data.{no_members}
use Rattle.told_objects.specs.Seen.{seen}
use Rattle.package_rules.specs.Associations.{associated}
use Rattle.package_rules.proofs.association.association_object.Given as goal

abbrev pub invariant-loop-member : goal.invariant-loop-member
invariant-loop-member l = associated l.store (drop l.member-index l.members) (seen l.told) ≡ associated l.store l.members no_members
