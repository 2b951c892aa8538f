-- What a package holds, as lines and as an object.
use Rattle.std.specs.Prelude.{ℕ, List, [], ◌∷◌, ◌++◌, decimal}
use Rattle.std.specs.List.{flat_map}
use Rattle.serde_json.specs.Data.{Members, no_members}
use Rattle.told_objects.specs.Members.{◌with◌, text, number, inner, list, answering, written}
use Rattle.news_types.specs.Names.{Bytes}
use Rattle.news_types.specs.History.{History}
use Rattle.byte_formats.specs.Spelling.{◌&◌, byte}
use Rattle.package_rules.specs.declared.lines.Line.{Line}
use Rattle.package_rules.specs.Opening.{contents, members_in}
use Rattle.package_rules.specs.Associations.{associated, association_bytes}

-- ---- as lines

-- depth and role, each with a space behind it
abbrev pub place_text : Line → Bytes
place_text l = decimal l.depth & byte 32 & l.role & byte 32

-- item and publication, with a space between them, and a line feed
abbrev pub numbers_text : Line → Bytes
numbers_text l = decimal l.item & byte 32 & decimal l.publication & byte 10

-- depth, role, item and publication, with a space between two, and a line feed
abbrev pub line_text : Line → Bytes
line_text l = place_text l ++ numbers_text l

-- of a publication: a line for each member, and its associations as a line
abbrev pub contents_report : History → Bytes → ℕ → Bytes
contents_report h store n = flat_map line_text (contents h n) ++ (association_bytes store (members_in h n) ++ 10 ∷ [])

-- ---- as an object, with keys in byte order

abbrev pub line_row : Line → Members
line_row l = no_members with number "depth" l.depth with number "item" l.item with number "publication" l.publication with text "role" l.role

abbrev pub told_contents : Members → List Line → Bytes
told_contents associations rows = written (answering "contents" with inner "associations" associations with list "rows" line_row rows)

-- of a publication: its associations, and a row for each member
abbrev pub contents_object : History → Bytes → ℕ → Bytes
contents_object h store n = told_contents (associated store (members_in h n) no_members) (contents h n)

-- nobody has every member, of a list of so many entries
abbrev pub no_readers_text : ℕ → Bytes
no_readers_text front = written (answering "no-readers" with number "front" front)
