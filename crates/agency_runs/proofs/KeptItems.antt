-- What is kept of an input says what items it is.
use Rattle.std.proofs.Common.{◌≡◌, ⊎_elim, ℕ, ◌<◌, ◌≤◌, List, [], ◌∷◌, length, take, Err, sym, ◌∙◌, ap, arith}
use Rattle.std.proofs.lemmas.Bool.{cases_lt, lt-ltb}
use Rattle.std.proofs.lemmas.List.{take_all, length-take}
use Rattle.wire_run.specs.Reading.{ENOUGH}
use Rattle.agency_items.specs.declared.fault.ItemFault.TheVariants.{NotJson}
use Rattle.agency_items.specs.Items.{items}

too_long : (bytes : List ℕ) → 4194304 < length bytes → items bytes ≡ Err NotJson ∷ []
too_long bytes lt = rw (lt-ltb 4194304 (length bytes) lt)

pub kept_items : (bytes : List ℕ) → items (take ENOUGH bytes) ≡ items bytes
kept_items bytes = ⊎_elim
    (λ (lt : 4194304 < length bytes). too_long (take ENOUGH bytes) (omega (arith, lt, length-take ENOUGH bytes)) ∙ sym (too_long bytes lt))
    (λ (le : length bytes ≤ 4194304). ap items (take_all ENOUGH bytes (omega (arith, le))))
    (cases_lt 4194304 (length bytes))
