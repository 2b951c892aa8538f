use Rattle.agency_wires.proofs.Places.{first_is}
use Rattle.memchr.specs.Find.{is_byte}
use Rattle.agency_wires.proofs.bytes.place_of.Goals as goal

pub returns-clause-place : goal.returns-clause-place
returns-clause-place c = first_is (is_byte c.args.stop) c.args.bytes.now c.memchr.result c.memchr.ensures
