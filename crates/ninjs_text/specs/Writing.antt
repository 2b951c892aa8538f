-- The bytes of a publication as a ninjs item: compact JSON, keys in byte order.
use Rattle.std.specs.Prelude.{ℕ, Bool, List, length, codes, decimal, ◌==◌, if◌then◌else◌}
use Rattle.serde_json.specs.Data.{unsigned, number, string, object, Members, no_members, put}
use Rattle.serde_json.specs.Written.{compact_text}
use Rattle.news_types.specs.declared.query.Publication.{Publication}
use Rattle.news_types.specs.Names.{Bytes}
use Rattle.news_types.specs.Conditions.{media_word}
use Rattle.release_rules.specs.Writer.{moment_text}
use Rattle.ninjs_text.specs.Words.{status_word}

-- a member goes to its place in byte order of the keys
abbrev pub put_text : List ℕ → Bytes → Members → Members
put_text key bytes ms = put key (string bytes) ms

-- a text that is left out where it is empty
abbrev pub put_filled : List ℕ → Bytes → Members → Members
put_filled key bytes ms = if length bytes == 0 then ms else put_text key bytes ms

-- an urgency that is left out where there is none
abbrev pub put_urgency : ℕ → Members → Members
put_urgency level ms = if level == 0 then ms else put (codes "urgency") (number (unsigned level)) ms

-- a version, as a text
abbrev pub put_version : ℕ → Members → Members
put_version version ms = put_text (codes "version") (decimal version) ms

abbrev pub body_key : Bool → List ℕ
body_key html = if html then codes "body_html" else codes "body_text"

-- the texts of a publication, and its status
abbrev pub put_texts : Publication → Members → Members
put_texts publication ms =
    put_filled (codes "slugline") publication.story.slugline
    (put_text (codes "pubstatus") (status_word publication.kind)
    (put_filled (codes "language") publication.story.language
    (put_filled (codes "headline") publication.story.headline
    (put_filled (codes "copyrightholder") publication.story.copyright
    (put_filled (codes "byline") publication.story.byline
    (put_text (body_key publication.story.html) publication.story.body ms))))))

-- what else it says
abbrev pub put_marks : Publication → Bytes → Members → Members
put_marks publication uri ms =
    put_text (codes "versioncreated") (moment_text publication.release)
    (put_version publication.version
    (put_text (codes "uri") uri
    (put_urgency publication.story.urgency
    (put_text (codes "type") (media_word publication.story.kind) ms))))

abbrev pub members : Publication → Bytes → Members
members publication uri = put_marks publication uri (put_texts publication no_members)

abbrev pub item_bytes : Publication → Bytes → List ℕ
item_bytes publication uri = compact_text (object (members publication uri))
