use Rattle.std.proofs.Common.{◌≡◌, drop, false}
use Rattle.serde_json.specs.View.{items_view}
use Rattle.serde_json.specs.Written.{items_have_float}
use Rattle.told_objects.specs.Members.{strings}
use Rattle.told_objects.proofs.Listed.{items_then}
use Rattle.told_objects.proofs.told.strings.Given as goal

abbrev pub invariant-loop-text : goal.invariant-loop-text
invariant-loop-text g l = record {
  rows : items_then (items_view l.list.items) (strings g.T.Spelled.text_of (drop l.text-index l.texts)) ≡ strings g.T.Spelled.text_of l.texts;
  plain : items_have_float (items_view l.list.items) ≡ false;
}
