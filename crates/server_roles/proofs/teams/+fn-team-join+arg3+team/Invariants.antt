use Rattle.std.proofs.Common.{◌+◌, ◌*◌}
use Rattle.std.specs.Prelude.{vec_len}
use Rattle.server_roles.proofs.teams.+fn-team-join+arg3+team.Given as goal

abbrev pub decreases-join+arg3 : goal.decreases-join+arg3
decreases-join+arg3 g l = vec_len l.jobs * 2 + 1

abbrev pub decreases-team : goal.decreases-team
decreases-team g l = vec_len l.jobs * 2
