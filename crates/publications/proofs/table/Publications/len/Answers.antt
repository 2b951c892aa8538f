use Rattle.std.proofs.Common.{length, ap, arith}
use Rattle.publications.proofs.Rows.{shown_counted}
use Rattle.publications.proofs.table.Publications.len.Goals as goal

pub returns : goal.returns
returns c ps st keeps = omega (arith, c.len.ensures, c.args.self.now.rows.ok.0, ap length keeps.rows, shown_counted ps)
