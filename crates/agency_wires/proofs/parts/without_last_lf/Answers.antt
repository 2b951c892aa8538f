use Rattle.std.proofs.Common.{◌<◌, ◌-◌, arith, sym, ◌∙◌, length}
use Rattle.std.proofs.lemmas.List.{get_or_read}
use Rattle.text7901.proofs.Parts.{last_lf_dropped, last_lf_none}
use Rattle.agency_wires.proofs.parts.without_last_lf.Goals as goal

pub returns-then-last-eq10 : goal.returns-then-last-eq10
returns-then-last-eq10 c =
    let told = c.args.told.now in
    let lt : length told - 1 < length told = omega arith in
    last_lf_dropped told (omega arith) (sym (get_or_read told (length told - 1) c.last-item.result lt c.last-item.is 0) ∙ c.if-last-eq10.true)

pub returns-else-last-eq10 : goal.returns-else-last-eq10
returns-else-last-eq10 c =
    let told = c.args.told.now in
    let lt : length told - 1 < length told = omega arith in
    last_lf_none told (omega arith) (λ e. c.if-last-eq10.false (get_or_read told (length told - 1) c.last-item.result lt c.last-item.is 0 ∙ e))
