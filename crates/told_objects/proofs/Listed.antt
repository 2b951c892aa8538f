-- Items of an array, one more at their end.
use Rattle.std.specs.Prelude.{◌≡◌, List, [], ◌∷◌, ◌++◌, Bool, true, false, ◌||◌}
use Rattle.std.proofs.Common.{refl, ap}
use Rattle.serde_json.specs.Data.{Items, no_items, item, object, Members}
use Rattle.serde_json.specs.View.{view, items_view}
use Rattle.serde_json.specs.Written.{has_float, items_have_float}
use Rattle.serde_json.specs.declared.value.Value.{Value}
use Rattle.told_objects.specs.Members.{objects}

-- some items and then others
abbrev pub items_then : Items → Items → Items
items_then no_items rest = rest
items_then (item d ds) rest = item d (items_then ds rest)

pub then_pushed : (xs : List Value) (v : Value) (rest : Items) → items_then (items_view (xs ++ v ∷ [])) rest ≡ items_then (items_view xs) (item (view v) rest)
then_pushed [] v rest = refl
then_pushed (x ∷ xs) v rest = ap (item (view x)) (then_pushed xs v rest)

pub then_none : (ds : Items) → items_then ds no_items ≡ ds
then_none no_items = refl
then_none (item d ds) = ap (item d) (then_none ds)

or_parts : (a b : Bool) → (a || b) ≡ false → (a ≡ false) × (b ≡ false)
or_parts true b h = (h, cc)
or_parts false b h = (refl, h)

pub plain_pushed : (xs : List Value) (v : Value) → items_have_float (items_view xs) ≡ false → has_float (view v) ≡ false → items_have_float (items_view (xs ++ v ∷ [])) ≡ false
plain_pushed [] v none plain = rw plain refl
plain_pushed (x ∷ xs) v none plain =
    let parts = or_parts (has_float (view x)) (items_have_float (items_view xs)) none in
    rw parts.0 (plain_pushed xs v parts.1 plain)

-- an object more at the end
pub objects_more : {A : Type 0} (f : A → Members) (xs : List A) (x : A) → objects f (xs ++ x ∷ []) ≡ items_then (objects f xs) (item (object (f x)) no_items)
objects_more f [] x = refl
objects_more f (y ∷ xs) x = ap (item (object (f y))) (objects_more f xs x)
