-- The words of a set, put into a list one after another.
use Rattle.std.specs.Prelude.{◌≡◌, ℕ, ◌/◌, ◌%◌, ◌==◌, List, [], ◌∷◌, Bool, true, false, if◌then◌else◌}
use Rattle.std.proofs.Common.{refl, sym, ◌∙◌}
use Rattle.serde_json.specs.Data as json
use Rattle.serde_json.specs.Data.{Items, no_items, item}
use Rattle.news_types.specs.Names.{Bytes}
use Rattle.desk_lines.specs.Words.{privilege_bits, day_bits}
use Rattle.told_entries.specs.Members.{strings, bit_words}
use Rattle.told_entries.specs.Seen.{items_then, text_if}
use Rattle.told_entries.proofs.Behind.{then_none, then_then}

-- one word more, by a test that was made
pub put_one : (text : Bytes) {there is : Bool} {before after items : Items} → after ≡ text_if there text before → there ≡ is → before ≡ items → after ≡ text_if is text items
put_one text e f g = e ∙ (λ i. text_if (f i) text (g i))

-- the words of a table, put behind these items
abbrev pub put_words : List (Bytes × ℕ) → ℕ → Items → Items
put_words [] set items = items
put_words (row ∷ rows) set items = put_words rows set (text_if (set / row.1 % 2 == 1) row.0 items)

one : (there : Bool) (text : Bytes) (words : List Bytes) (items : Items) → items_then (text_if there text items) (strings words) ≡ items_then items (strings (if there then text ∷ words else words))
unfolding text_if
one true text words items = then_then items (item (json.string text) no_items) (strings words)
one false text words items = refl

all : (rows : List (Bytes × ℕ)) (set : ℕ) (items : Items) → put_words rows set items ≡ items_then items (strings (bit_words rows set))
all [] set items = sym (then_none items)
all (row ∷ rows) set items = all rows set (text_if (set / row.1 % 2 == 1) row.0 items) ∙ one (set / row.1 % 2 == 1) row.0 (bit_words rows set) items

pub privileges_listed : (set : ℕ) → put_words privilege_bits set no_items ≡ strings (bit_words privilege_bits set)
privileges_listed set = all privilege_bits set no_items

pub days_listed : (set : ℕ) → put_words day_bits set no_items ≡ strings (bit_words day_bits set)
days_listed set = all day_bits set no_items
