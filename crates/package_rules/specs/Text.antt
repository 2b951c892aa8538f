-- The text of a package.
use Rattle.std.specs.Prelude.{◌≡◌, ◌≤◌, ℕ, zero, suc, List, [], ◌∷◌, ◌++◌, codes, decimal, IsTrue, Option, Some, None, option_and_then, Result, Ok, Err, if◌then◌else◌}
use Rattle.std.specs.List.{flat_map}
use Rattle.news_types.specs.Names.{Bytes}
use Rattle.news_types.specs.Members.{Each}
use Rattle.byte_formats.specs.Format.{Format, pair, made}
use Rattle.byte_formats.specs.Until.{word, numeral, literal_at}
use Rattle.byte_formats.specs.Lawful.{IsBytes}
use Rattle.byte_formats.specs.Spelling.{◌&◌, byte, IsName}
use Rattle.package_members.specs.declared.member.Member.{Member}
use Rattle.package_members.specs.Members.{make_package}

-- ---- how it is written

-- a role, a space, the item in decimal, and a line feed
abbrev pub member_line : Member → Bytes
member_line m = m.role & byte 32 & decimal m.item & byte 10

-- the word PACKAGE and a line feed
abbrev pub head_line : Bytes
head_line = codes "PACKAGE" ++ 10 ∷ []

-- the head, and a line for each member
abbrev pub package_text : List Member → Bytes
package_text members = head_line ++ flat_map member_line members

-- what may stand in a line: the role is a name, and the item has 32 bits
pub record IsMember (m : Member) : Type 0 where
  pub role : IsName m.role
  pub first : 1 ≤ m.item
  pub last : m.item ≤ 4294967295

-- the bytes are the text of these members, of which a package can be made
pub record IsTextOf (members : List Member) (bytes : Bytes) : Type 0 where
  pub each : Each IsMember members
  pub make : IsTrue (make_package members)
  pub text : bytes ≡ package_text members

-- ---- how it is read

abbrev pub member_fields : Format (Bytes × ℕ)
member_fields = pair word (numeral 10 1 4294967295)

abbrev pub member_from : Bytes × ℕ → Member
member_from x = record { role = x.0; item = x.1 }

unfoldable pub member_at : Bytes → Result (Member × Bytes) ℕ
member_at = (made member_fields member_from member_line).read

abbrev pub member : Format Member
member = record { spell = member_line; read = member_at }

-- what was read and what stands behind it; nothing at a fault
abbrev pub behind : {A B : Type 0} → Result (A × Bytes) ℕ → (A → Bytes → Option B) → Option B
behind (Ok x) next = next x.0 x.1
behind (Err left) next = None

abbrev pub put_first : Member → Option (List Member) → Option (List Member)
put_first m None = None
put_first m (Some members) = Some (m ∷ members)

-- the members of the lines up to the end, at most so many
unfoldable pub members_at : Bytes → ℕ → Option (List Member)
members_at [] n = Some []
members_at (b ∷ bytes) zero = None
members_at (b ∷ bytes) (suc n) = behind (member_at (b ∷ bytes)) (λ m rest. put_first m (members_at rest n))

abbrev pub lines_of : Bytes → Option (List Member)
lines_of bytes = behind (literal_at head_line bytes) (λ u rest. members_at rest 64)

abbrev pub only_package : List Member → Option (List Member)
only_package members = if make_package members then Some members else None

-- the members of the text of a package
abbrev pub package_of : Bytes → Option (List Member)
package_of bytes = option_and_then only_package (lines_of bytes)

-- ---- its law

-- the text of a package is read as its members, and all else as none
pub record PackagesAreReadAgain : Type 0 where
  pub again : (members : List Member) (bytes : Bytes) → IsTextOf members bytes → package_of bytes ≡ Some members
  pub others : (bytes : Bytes) → IsBytes bytes → ((members : List Member) → IsTextOf members bytes → ⊥) → package_of bytes ≡ None
