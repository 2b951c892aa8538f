-- What a segment tells of an act behind its tag.
use Rattle.std.specs.Prelude.{◌≡◌, ℕ, ◌+◌, ◌≤◌, List, [], ◌++◌, length, Bool, true, false, Option, Some, None}
use Rattle.news_types.specs.Names.{Bytes}
use Rattle.news_types.specs.declared.entry.Act.{Act}
use Rattle.news_types.specs.declared.entry.Entry.{Entry}
use Rattle.byte_formats.specs.Spelling.{u16}
use Rattle.byte_formats.specs.Parts.{boxed_bytes}
use Rattle.byte_formats.specs.Varint.{varint_bytes}
use Rattle.entry_codec.specs.Spelling.{act, without_tag}
use Rattle.entry_segments.specs.Segment.{with_name, with_names_of, place, packed_fields, packed}
use Rattle.news_types.specs.Names.{AreInOrder}
use Rattle.entry_segments.specs.Packing.{names_size, has_room}
use Rattle.entry_segments.specs.declared.told.Told.{Told}
use Rattle.entry_segments.specs.declared.told.Told.TheVariants as told
use Rattle.entry_segments.specs.declared.front.Front.{Front}

-- how many bytes it takes
abbrev pub told_size : Told → ℕ
told_size told.Nothing = 0
told_size (told.Counted name number) = 2 + length (varint_bytes number)
told_size (told.Boxed len) = 4 + len

-- these bytes, where the act has those behind its tag
abbrev pub told_bytes : Told → List Bytes → List ℕ → List ℕ
told_bytes told.Nothing names rest = []
told_bytes (told.Counted name number) names rest = u16 (place name names) ++ varint_bytes number
told_bytes (told.Boxed len) names rest = boxed_bytes rest

-- the names with the one that it tells
abbrev pub told_names : Told → List Bytes → List Bytes
told_names told.Nothing names = names
told_names (told.Counted name number) names = with_name name names
told_names (told.Boxed len) names = names

-- this is told of the act
pub record Tells (told : Told) (a : Act) : Type 0 where
  pub fields : (names : List Bytes) → packed_fields names a ≡ told_bytes told names (without_tag (act a))
  pub names : (names : List Bytes) → with_names_of a names ≡ told_names told names
  pub size : length (packed_fields [] a) ≡ told_size told

-- ---- a front of entries that goes into one segment

-- one more name, where these then have room beside so many other bytes: the names' size
abbrev pub Admits : ℕ → List Bytes → List Bytes → List Bytes → Option ℕ → Type 0
Admits size more old new None = (has_room size more ≡ false) × (new ≡ old)
Admits size more old new (Some named) = (has_room size more ≡ true) × (new ≡ more) × (named ≡ names_size more)

-- its counts are those of its names, and it has room
pub record IsFront (f : Front) : Type 0 where
  pub up : AreInOrder f.names.items
  pub few : length f.names.items ≤ 65535
  pub named : f.named ≡ names_size f.names.items
  pub small : f.size + f.named ≤ 2097152

abbrev pub size_with : Front → Entry → ℕ
size_with f e = f.size + length (packed [] f.moment e)

abbrev pub names_with : Front → Entry → List Bytes
names_with f e = with_names_of e.act f.names.items

-- with the entry
pub record IsWith (old new : Front) (e : Entry) : Type 0 where
  pub room : has_room (size_with old e) (names_with old e) ≡ true
  pub taken : new.taken ≡ old.taken + 1
  pub size : new.size ≡ size_with old e
  pub names : new.names.items ≡ names_with old e
  pub moment : new.moment ≡ e.moment

-- Where there is room for the entry it goes in, and else the front has those that it had.
abbrev pub GoesIn : Front → Front → Entry → Bool → Type 0
GoesIn old new e true = IsWith old new e
GoesIn old new e false = (has_room (size_with old e) (names_with old e) ≡ false) × (new.taken ≡ old.taken) × (new.names.items ≡ old.names.items)
