use Rattle.std.specs.Prelude.{vec_len}
use Rattle.newsdesk_server.proofs.deal.+deal.Given as goal

abbrev pub decreases-deal : goal.decreases-deal
decreases-deal g l = vec_len l.links
