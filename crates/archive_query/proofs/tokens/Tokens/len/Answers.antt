use Rattle.std.proofs.Common.{◌∙◌, length, sym, ap}
use Rattle.std.specs.Option.{option_copied}
use Rattle.archive_query.specs.Tokens.{joined}
use Rattle.archive_query.proofs.Cutting.{joined_left}
use Rattle.archive_query.proofs.tokens.Tokens.len.Goals as goal

pub returns-in-Some : goal.returns-in-Some
returns-in-Some c = ap length (sym (ap joined (sym c.self.view_is) ∙ joined_left (option_copied c.self.inside.rest) c.in-Some.rest.now (ap option_copied c.in-Some.is)))
