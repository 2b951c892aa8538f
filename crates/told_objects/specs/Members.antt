-- The members of a JSON object, put in one after another: they stand in byte order of their keys.
use Rattle.std.specs.Prelude.{ℕ, Bool, List, [], ◌∷◌, codes}
use Prim.Native.String.{String}
use Rattle.serde_json.specs.Data as json
use Rattle.serde_json.specs.Data.{Items, no_items, item, Members, no_members, put}
use Rattle.serde_json.specs.Written.{compact_text}

-- these members, and one more
infixl 6 ◌with◌
abbrev pub ◌with◌ : Members → (Members → Members) → Members
(members with more) = more members

abbrev pub text : String → List ℕ → Members → Members
text key bytes members = put (codes key) (json.string bytes) members

abbrev pub number : String → ℕ → Members → Members
number key n members = put (codes key) (json.number (json.unsigned n)) members

abbrev pub flag : String → Bool → Members → Members
flag key b members = put (codes key) (json.boolean b) members

abbrev pub null : String → Members → Members
null key members = put (codes key) json.null members

abbrev pub inner : String → Members → Members → Members
inner key inside members = put (codes key) (json.object inside) members

abbrev pub strings : {A : Type 0} → (A → List ℕ) → List A → Items
strings text_of [] = no_items
strings text_of (x ∷ xs) = item (json.string (text_of x)) (strings text_of xs)

abbrev pub texts : String → List (List ℕ) → Members → Members
texts key them members = put (codes key) (json.array (strings (λ text. text) them)) members

abbrev pub objects : {A : Type 0} → (A → Members) → List A → Items
objects members_of [] = no_items
objects members_of (x ∷ xs) = item (json.object (members_of x)) (objects members_of xs)

abbrev pub list : {A : Type 0} → String → (A → Members) → List A → Members → Members
list key members_of xs members = put (codes key) (json.array (objects members_of xs)) members

abbrev pub answering : String → Members
answering word = no_members with text "answer" (codes word)

-- compact, with keys in byte order
abbrev pub written : Members → List ℕ
written members = compact_text (json.object members)
