-- How publications are written for the subscribers of a store.
use Rattle.std.specs.Prelude.{ℕ, [], ◌++◌, take, codes, decimal, Some, None}
use Rattle.sha1.specs.Sha1.{sha1}
use Rattle.uuid.specs.declared.Variant.TheVariants.{RFC4122}
use Rattle.uuid.specs.declared.Version.TheVariants.{Sha1}
use Rattle.uuid.specs.Parts.{with_variant, with_version}
use Rattle.uuid.specs.Text.{urn_text, lower}
use Rattle.news_types.specs.declared.words.Format.TheVariants.{Ninjs, Text7901}
use Rattle.news_types.specs.Names.{Bytes}
use Rattle.news_types.specs.Frames.{Writer}
use Rattle.ninjs_text.specs.Writing.{item_bytes}
use Rattle.text7901.specs.Written.{written}

-- the name of an item in its store
abbrev pub item_name : ℕ → Bytes
item_name item = codes "item:" ++ decimal item

-- the identifier of an item: the version 5 UUID of its name, where the store's sixteen bytes are the namespace
abbrev pub item_identifier : Bytes → ℕ → Bytes
item_identifier store item = with_version (with_variant (take 16 (sha1 (store ++ item_name item))) RFC4122) Sha1

-- its URI: `urn:uuid:` and the identifier in lower case with hyphens
abbrev pub item_uri : Bytes → ℕ → Bytes
item_uri store item = urn_text lower (item_identifier store item)

-- in ninjs a publication is one item with its own URI, in 7901 one message; a subscriber that is not there is written nothing
abbrev pub the_writer : Bytes → Writer
the_writer store None p = []
the_writer store (Some Ninjs) p = item_bytes p (item_uri store p.item)
the_writer store (Some Text7901) p = written p
