-- Members of a JSON object that are lists of texts, that may be null, or that are left out where they are 0.
use Rattle.std.specs.Prelude.{ℕ, ◌/◌, ◌%◌, List, [], ◌∷◌, codes, ◌==◌, if◌then◌else◌, Option, Some, None}
use Prim.Native.String.{String}
use Rattle.serde_json.specs.Data as json
use Rattle.serde_json.specs.Data.{Data, Items, no_items, item, Members, put}
use Rattle.news_types.specs.Names.{Bytes}

-- ---- lists of texts

abbrev pub strings : List Bytes → Items
strings [] = no_items
strings (t ∷ texts) = item (json.string t) (strings texts)

abbrev pub texts : String → List Bytes → Members → Members
texts key list members = put (codes key) (json.array (strings list)) members

-- the words of a table whose bits are in the set
abbrev pub bit_words : List (Bytes × ℕ) → ℕ → List Bytes
bit_words [] set = []
bit_words (row ∷ rows) set = if set / row.1 % 2 == 1 then row.0 ∷ bit_words rows set else bit_words rows set

-- ---- what may be null

abbrev pub text_or_null : Option Bytes → Data
text_or_null None = json.null
text_or_null (Some t) = json.string t

abbrev pub given_text : String → Option Bytes → Members → Members
given_text key given members = put (codes key) (text_or_null given) members

abbrev pub number_or_null : Option ℕ → Data
number_or_null None = json.null
number_or_null (Some n) = json.number (json.unsigned n)

abbrev pub given_number : String → Option ℕ → Members → Members
given_number key given members = put (codes key) (number_or_null given) members

abbrev pub inner_or_null : {A : Type 0} → (A → Members) → Option A → Data
inner_or_null members_of None = json.null
inner_or_null members_of (Some a) = json.object (members_of a)

abbrev pub given_inner : {A : Type 0} → String → (A → Members) → Option A → Members → Members
given_inner key members_of given members = put (codes key) (inner_or_null members_of given) members

-- ---- numbers that are left out where they are 0

unfoldable pub number_unless_zero : List ℕ → ℕ → Members → Members
number_unless_zero key n members = if n == 0 then members else put key (json.number (json.unsigned n)) members

abbrev pub unless_zero : String → ℕ → Members → Members
unless_zero key n members = number_unless_zero (codes key) n members
