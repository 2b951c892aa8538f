use Rattle.std.proofs.Common.{◌∷◌, [], Result, refl, ◌∙◌, ap}
use Rattle.news_types.specs.declared.story.Incoming.{Incoming}
use Rattle.ninjs_text.specs.declared.fault.NinjsFault.{NinjsFault}
use Rattle.line_run.proofs.Along.{along_did}
use Rattle.wire_run.specs.Members.{one_item}
use Rattle.wire_run.proofs.Items.{kept_item}
use Rattle.wire_run.proofs.item.ItemMembersMembers.answer_end.Goals as goal

pub returns-clause-did : goal.returns-clause-did
returns-clause-did g c = λ shelf read is. (
  one_item read,
  refl,
  λ h stands. along_did _ _ _ _ _ _ _ _ _ h (one_item c.as_slice.result.now) _ _
      (ap one_item (c.as_slice.ensures.value ∙ is) ∙ ap (λ (r : Result Incoming NinjsFault). r ∷ []) (kept_item read))
      stands.0 (c.answer_bytes.ensures.did shelf.shelf h stands.1),
)
