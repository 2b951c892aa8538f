use Rattle.std.proofs.Common.{sym}
use Rattle.http_wire.proofs.NameText.{no_text}
use Rattle.http_wire.proofs.fields.name_in.Goals as goal

pub returns-in-Err : goal.returns-in-Err
returns-in-Err c = sym (no_text c.args.value.now c.in-Err.ensures.cases.0)
