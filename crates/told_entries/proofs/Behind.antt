-- Items of a list, one more at their end.
use Rattle.std.specs.Prelude.{◌≡◌, List, [], ◌∷◌, ◌++◌, Bool, true, false, ◌||◌}
use Rattle.std.proofs.Common.{refl, ap, ◌∙◌}
use Rattle.serde_json.specs.Data.{Data, Items, no_items, item}
use Rattle.serde_json.specs.View.{view, items_view}
use Rattle.serde_json.specs.Written.{has_float, items_have_float}
use Rattle.serde_json.specs.declared.value.Value.{Value}
use Rattle.told_entries.specs.Seen.{items_then}

pub pushed : (xs : List Value) (v : Value) → items_view (xs ++ v ∷ []) ≡ items_then (items_view xs) (item (view v) no_items)
pushed [] v = refl
pushed (x ∷ xs) v = ap (item (view x)) (pushed xs v)

pub then_none : (ds : Items) → items_then ds no_items ≡ ds
then_none no_items = refl
then_none (item d ds) = ap (item d) (then_none ds)

pub then_then : (xs ys zs : Items) → items_then (items_then xs ys) zs ≡ items_then xs (items_then ys zs)
then_then no_items ys zs = refl
then_then (item d ds) ys zs = ap (item d) (then_then ds ys zs)

-- one more at the end of some items, and then others
pub more_then : (before : Items) (d : Data) (after rest : Items) → after ≡ items_then before (item d no_items) → items_then after rest ≡ items_then before (item d rest)
more_then before d after rest e = ap (λ items. items_then items rest) e ∙ then_then before (item d no_items) rest

or_parts : (a b : Bool) → (a || b) ≡ false → (a ≡ false) × (b ≡ false)
or_parts true b h = (h, cc)
or_parts false b h = (refl, h)

pub plain_pushed : (xs : List Value) (v : Value) → items_have_float (items_view xs) ≡ false → has_float (view v) ≡ false → items_have_float (items_view (xs ++ v ∷ [])) ≡ false
plain_pushed [] v none plain = rw plain refl
plain_pushed (x ∷ xs) v none plain =
    let parts = or_parts (has_float (view x)) (items_have_float (items_view xs)) none in
    rw parts.0 (plain_pushed xs v parts.1 plain)
