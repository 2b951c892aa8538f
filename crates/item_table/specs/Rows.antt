-- Rows of items.
use Rattle.std.specs.Prelude.{ℕ, zero, suc, ◌-◌, ◌==◌, List, [], ◌∷◌, Option, Some, None, slice_get, unwrap_or, if◌then◌else◌}
use Rattle.news_types.specs.declared.words.State.{State}
use Rattle.news_types.specs.declared.story.Story.{Story}
use Rattle.news_types.specs.Items.{Item, created_of}
use Rattle.item_table.specs.declared.row.Row.{Row}
use Rattle.item_table.specs.declared.row.Setting.{Setting}

-- the row of that number, from 1
abbrev pub row_at : List Row → ℕ → Option Row
row_at rows i = if i == 0 then None else slice_get rows (i - 1)

-- the row at a place, from 0, changed
abbrev pub changed_at : ℕ → (Row → Row) → List Row → List Row
changed_at i change [] = []
changed_at zero change (x ∷ xs) = change x ∷ xs
changed_at (suc i) change (x ∷ xs) = x ∷ changed_at i change xs

-- the row of that number, from 1, changed
abbrev pub changed : ℕ → (Row → Row) → List Row → List Row
changed i change xs = if i == 0 then xs else changed_at (i - 1) change xs

-- what a row is set to: its story and its making stay where none is given
abbrev pub set_to : Setting → Row → Row
set_to to r = record { state = to.state; version = to.version; story = unwrap_or to.story r.story; created = unwrap_or to.created r.created }

-- what is kept of an item
abbrev pub row_of : Item → Row
row_of it = record { state = it.state; version = it.version; story = it.story; created = created_of it.origin }

abbrev pub new_row : State → Story → ℕ → Row
new_row state story created = record { state = state; version = 1; story = story; created = created }
