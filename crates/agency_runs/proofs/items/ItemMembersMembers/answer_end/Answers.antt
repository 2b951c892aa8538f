use Rattle.std.proofs.Common.{refl, ◌∙◌, ap}
use Rattle.line_run.proofs.Along.{along_did}
use Rattle.agency_items.specs.Items.{items}
use Rattle.agency_runs.proofs.KeptItems.{kept_items}
use Rattle.agency_runs.proofs.items.ItemMembersMembers.answer_end.Goals as goal

pub returns-clause-did : goal.returns-clause-did
returns-clause-did g c = λ shelf read is. (
  items read,
  refl,
  λ h stands. along_did _ _ _ _ _ _ _ _ _ h (items c.as_slice.result.now) _ _ (ap items (c.as_slice.ensures.value ∙ is) ∙ kept_items read) stands.0 (c.answer_bytes.ensures.did shelf.shelf h stands.1),
)
