-- To whom a package goes: the subscribers who have every member.
use Rattle.std.specs.Prelude.{Bool, List, filter}
use Rattle.std.specs.List.{list_all}
use Rattle.news_types.specs.Names.{Bytes}
use Rattle.news_types.specs.History.{History}
use Rattle.news_types.specs.Products.{subscribers}
use Rattle.news_types.specs.Feeds.{Dispatch, feed}
use Rattle.news_types.specs.Answers.{in_order}
use Rattle.story_tables.specs.Holding.{has_item}
use Rattle.package_members.specs.declared.member.Member.{Member}

-- the feed has the member: a publication of its item, the last of which is no kill or recall
abbrev pub has_member : List Dispatch → Member → Bool
has_member ds m = has_item ds m.item

-- the feed of the subscriber has every member
abbrev pub has_all : History → List Member → Bytes → Bool
has_all h members s = list_all (has_member (feed h s)) members

-- the subscribers whose feed has every member, in byte order
abbrev pub readers : History → List Member → List Bytes
readers h members = filter (has_all h members) (in_order (subscribers h))
