-- What a package is.
use Rattle.std.specs.Prelude.{false, List, IsTrue, Option, Some, None, if◌then◌else◌}
use Rattle.news_types.specs.declared.story.Story.{Story}
use Rattle.news_types.specs.declared.words.Media.TheVariants as media
use Rattle.news_types.specs.Names.{Bytes}
use Rattle.news_types.specs.Fits.{FitsStory}
use Rattle.package_members.specs.declared.member.Member.{Member}
use Rattle.package_members.specs.Members.{make_package}
use Rattle.package_rules.specs.Text.{package_text}

-- a story about some members
pub record Composed : Type 0 where
  pub story : Story
  pub members : List Member

-- a package can be made of these, and the story is within the limits
pub record IsComposed (c : Composed) : Type 0 where
  pub make : IsTrue (make_package c.members)
  pub fits : FitsStory c.story

-- a composite story with this body
abbrev pub with_body : Story → Bytes → Story
with_body story body = record story { kind = media.Composite; body = body; html = false }

-- the story of a package: its body is the package's text
abbrev pub composite : Story → List Member → Story
composite story members = with_body story (package_text members)

-- the package of this story and these members, if one can be made of them
abbrev pub composed : Story → List Member → Option Composed
composed story members = if make_package members then Some (record { story = composite story members; members = members }) else None
