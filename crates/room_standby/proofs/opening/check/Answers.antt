use Rattle.std.proofs.Common.{◌∙◌, sym, refl}
use Rattle.byte_formats.specs.Faults.{IsFaultAt}
use Rattle.entry_codec.specs.Spelling.{entry_bytes}
use Rattle.entry_codec.specs.Formed.{IsEntry}
use Rattle.room_standby.proofs.opening.check.Goals as goal

pub returns-in-Ok : goal.returns-in-Ok
returns-in-Ok c =
    let found = c.in-Ok.ensures.found in
    (found.0, found.1, sym c.as_slice.ensures ∙ found.2)

pub returns-in-Err-At : goal.returns-in-Err-At
returns-in-Err-At c =
    let wrong : IsFaultAt entry_bytes IsEntry c.as_slice.result.now c.in-Err-At.field-0-0 = rw c.in-Err-At.field-0-is at c.in-Err-At.ensures.fault c.in-Err-At.field-0-0 refl in
    (λ e. wrong.none e.0 e.1 (sym e.2 ∙ sym c.as_slice.ensures), refl, refl)
