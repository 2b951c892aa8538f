use Rattle.std.proofs.Common.{sym, ◌∙◌}
use Rattle.http_wire.proofs.Targets.{target_true, true_target}
use Rattle.http_wire.proofs.target.ends_in_target.Goals as goal

pub returns : goal.returns
returns c = (λ yes. target_true c.args.bytes.now (sym c.scans_target.ensures ∙ yes), λ h. c.scans_target.ensures ∙ true_target c.args.bytes.now h)
