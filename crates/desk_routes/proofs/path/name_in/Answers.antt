use Rattle.std.proofs.Common.{sym}
use Rattle.desk_routes.proofs.NameText.{no_text}
use Rattle.desk_routes.proofs.path.name_in.Goals as goal

pub returns-in-Err : goal.returns-in-Err
returns-in-Err c = sym (no_text c.args.text.now c.in-Err.ensures.cases.0)
