use Rattle.std.proofs.Common.{◌+◌, ◌-◌, ◌++◌, ◌∙◌, ap, arith, length, take, drop, map}
use Rattle.std.proofs.lemmas.List.{take_rest}
use Rattle.agency_wires.specs.Characters.{windows_1252, cleaned}
use Rattle.agency_wires.specs.Cleaning.{kept_before}
use Rattle.agency_wires.proofs.Cleaning.{step_windows}
use Rattle.agency_wires.proofs.characters.cleaned_windows_1252.Goals as goal

pub loop-i-preserved : goal.loop-i-preserved
loop-i-preserved c =
    let bytes = c.args.bytes.now in
    let i = c.loop-i.i in
    let kept = c.loop-i.kept.items in
    let rest = take (length bytes - (i + 1)) (drop (i + 1) bytes) in
    step_windows bytes rest kept c.put_kept.new.kept.items (cleaned (map windows_1252 bytes)) i (omega arith) (take_rest bytes (i + 1))
    (c.in_ok-put_kept.ensures ∙ ap (λ z. kept ++ kept_before z rest) c.windows_1252.ensures) c.loop-i.invariant
