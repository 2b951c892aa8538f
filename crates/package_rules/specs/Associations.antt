-- The associations of a package, as ninjs has them.
use Rattle.std.specs.Prelude.{List, [], ◌∷◌}
use Rattle.serde_json.specs.Data.{object, Members, no_members, put}
use Rattle.told_objects.specs.Members.{◌with◌, text, written}
use Rattle.news_types.specs.Names.{Bytes}
use Rattle.feed_frames.specs.Writer.{item_uri}
use Rattle.package_members.specs.declared.member.Member.{Member}

-- an object with the item's URI in its store
abbrev pub association : Bytes → Member → Members
association store m = no_members with text "uri" (item_uri store m.item)

-- each member's, put in at its role one after another: they stand in byte order of their roles
abbrev pub associated : Bytes → List Member → Members → Members
associated store [] found = found
associated store (m ∷ members) found = associated store members (put m.role (object (association store m)) found)

-- compact, with keys in byte order
abbrev pub association_bytes : Bytes → List Member → Bytes
association_bytes store members = written (associated store members no_members)
