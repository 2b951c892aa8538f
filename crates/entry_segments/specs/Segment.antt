-- Segments: entries packed into bytes. All numbers of more than one byte are big-endian.
use Rattle.std.specs.Prelude.{ℕ, suc, ◌<◌, ◌≤◌, ◌+◌, ◌-◌, ◌^◌, List, [], ◌∷◌, length, All, if◌then◌else◌}
use Rattle.std.specs.declared.cmp.Ordering.{Ordering}
use Rattle.std.specs.declared.cmp.Ordering.TheVariants.{Less, Equal, Greater}
use Rattle.std.specs.Ordering.{nat_cmp}
use Rattle.std.specs.Cmp.Lexicographic.{slice_cmp}
use Rattle.news_types.specs.Names.{Bytes, same}
use Rattle.news_types.specs.declared.entry.Act.{Act}
use Rattle.news_types.specs.declared.entry.Act.TheVariants.{Advance, Attempt, Receipt, Halt}
use Rattle.news_types.specs.declared.entry.Entry.{Entry}
use Rattle.byte_formats.specs.Spelling.{◌&◌, byte, u16, u32, u64, name, list}
use Rattle.entry_codec.specs.Spelling.{act, act_tag, without_tag}
use Rattle.entry_codec.specs.Formed.{IsEntry}
use Rattle.byte_formats.specs.Varint.{varint_bytes}

-- ---- the names of attempts and receipts

-- the name at its place in byte order, where it is not yet there
abbrev pub placed : Ordering → Bytes → Bytes → List Bytes → List Bytes → List Bytes
placed Less n m ms rest = m ∷ rest
placed Equal n m ms rest = m ∷ ms
placed Greater n m ms rest = n ∷ m ∷ ms

abbrev pub with_name : Bytes → List Bytes → List Bytes
with_name n [] = n ∷ []
with_name n (m ∷ ms) = placed (slice_cmp nat_cmp m n) n m ms (with_name n ms)

abbrev pub with_names_of : Act → List Bytes → List Bytes
with_names_of (Attempt subscriber k) names = with_name subscriber names
with_names_of (Receipt subscriber n) names = with_name subscriber names
with_names_of _ names = names

abbrev pub names_from : List Bytes → List Entry → List Bytes
names_from names [] = names
names_from names (e ∷ es) = names_from (with_names_of e.act names) es

-- each name once, in byte order
abbrev pub names_of : List Entry → List Bytes
names_of es = names_from [] es

-- how many names stand before this one
abbrev pub place : Bytes → List Bytes → ℕ
place n [] = 0
place n (m ∷ ms) = if same n m then 0 else suc (place n ms)

-- ---- entries

-- An act of a segment behind its tag: of attempts and receipts the name's place and the number, of an advance and a halt nothing, of all others the length and the bytes behind their tag.
abbrev pub packed_fields : List Bytes → Act → List ℕ
packed_fields names Advance = []
packed_fields names (Attempt subscriber k) = u16 (place subscriber names) & varint_bytes k
packed_fields names (Receipt subscriber n) = u16 (place subscriber names) & varint_bytes n
packed_fields names Halt = []
packed_fields names a = u32 (length (without_tag (act a))) & without_tag (act a)

-- one entry behind an entry of this moment
abbrev pub packed : List Bytes → ℕ → Entry → List ℕ
packed names before e = varint_bytes (e.moment - before) & byte (act_tag e.act) & packed_fields names e.act

abbrev pub all_packed : List Bytes → ℕ → List Entry → List ℕ
all_packed names before [] = []
all_packed names before (e ∷ es) = packed names before e & all_packed names e.moment es

-- the entries behind the first so many of the list
abbrev pub segment : ℕ → List Entry → List ℕ
segment base es = u64 base & u32 (length es) & list name (names_of es) & all_packed (names_of es) 0 es

-- ---- what has a segment

abbrev pub InTime : ℕ → List Entry → Type 0
InTime before [] = Unit {0}
InTime before (e ∷ es) = (before ≤ e.moment) × InTime e.moment es

-- These entries behind so many have a segment.
pub record IsSegment (base : ℕ) (es : List Entry) : Type 0 where
  -- at least one, and the last one's number has six bytes
  pub some : 0 < length es
  pub few : length es < 2 ^ 32
  pub below : base + length es < 2 ^ 48
  -- moments do not fall
  pub in_time : InTime 0 es
  pub each : All IsEntry es
  -- the count of names has two bytes
  pub names : length (names_of es) < 65536
