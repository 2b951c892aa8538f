use Rattle.std.proofs.Common.{◌∙◌}
use Rattle.agency_wires.proofs.Places.{any_is}
use Rattle.memchr.specs.Find.{is_byte}
use Rattle.agency_wires.proofs.bytes.has.Goals as goal

pub returns : goal.returns
returns c = c.is_some.ensures ∙ any_is (is_byte c.args.wanted) c.args.bytes.now c.memchr.result c.memchr.ensures
