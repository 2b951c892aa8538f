-- The members of a package.
use Rattle.std.specs.Prelude.{Bool, true, not, ◌&&◌, ◌==◌, nat_lt, nat_le, List, [], ◌∷◌, length}
use Rattle.std.specs.List.{list_all}
use Rattle.news_types.specs.Names.{same}
use Rattle.package_members.specs.declared.member.Member.{Member}

-- neither the role nor the item of the other
abbrev pub is_apart_from : Member → Member → Bool
is_apart_from m other = not (same m.role other.role) && not (m.item == other.item)

-- no role and no item stands there twice
abbrev pub are_apart : List Member → Bool
are_apart [] = true
are_apart (m ∷ members) = list_all (is_apart_from m) members && are_apart members

-- each is of an item
abbrev pub are_items : List Member → Bool
are_items members = list_all (λ (m : Member). nat_lt 0 m.item) members

-- 1 to 64 members, each of an item, no role and no item twice
abbrev pub make_package : List Member → Bool
make_package members = nat_lt 0 (length members) && nat_le (length members) 64 && are_items members && are_apart members
