-- What is told, seen as JSON.
use Rattle.std.specs.Prelude.{Bool, List, ℕ, if◌then◌else◌}
use Rattle.serde_json.specs.Data as json
use Rattle.serde_json.specs.Data.{Items, no_items, item, Members}
use Rattle.serde_json.specs.View.{items_view, members_view}
use Rattle.told_entries.specs.declared.object.Told.{Told}
use Rattle.told_entries.specs.declared.object.Listed.{Listed}

abbrev pub seen : Told → Members
seen told = members_view told.members.entries

abbrev pub seen_items : Listed → Items
seen_items list = items_view list.values.items

-- some items and then others
abbrev pub items_then : Items → Items → Items
items_then no_items rest = rest
items_then (item d ds) rest = item d (items_then ds rest)

-- one text more, where it is there
unfoldable pub text_if : Bool → List ℕ → Items → Items
text_if there text items = if there then items_then items (item (json.string text) no_items) else items
