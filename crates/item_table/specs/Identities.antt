-- What providers call items.
use Rattle.std.specs.Prelude.{Bool, ◌&&◌}
use Rattle.news_types.specs.Names.{Bytes, same}
use Rattle.item_table.specs.declared.identity.Identity.{Identity}

-- the same provider, and the same text
abbrev pub same_identity : Identity → Identity → Bool
same_identity a b = same a.provider b.provider && same a.text b.text

abbrev pub identity_of : Bytes → Bytes → Identity
identity_of provider text = record { provider = provider; text = text }
