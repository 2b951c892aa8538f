use Rattle.std.specs.Prelude.{vec_len}
use Rattle.server_roles.proofs.parts.+part.Given as goal

abbrev pub decreases-part : goal.decreases-part
decreases-part g l = vec_len l.jobs
