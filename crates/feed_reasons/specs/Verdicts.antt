-- Why a story is permitted to a subscriber, or what keeps it away: the first cause in the order in which permission is asked.
use Rattle.std.specs.Prelude.{Bool, true, false, not, ◌&&◌, List, map, if◌then◌else◌, Option, Some, None, option_map}
use Rattle.std.specs.List.{find}
use Rattle.news_types.specs.declared.story.Story.{Story}
use Rattle.news_types.specs.Names.{Bytes, is_in}
use Rattle.news_types.specs.History.{History}
use Rattle.news_types.specs.Filters.{Filter, filters, matches}
use Rattle.news_types.specs.Products.{Product, product, Subscriber, subscriber, product_permits, is_target}
use Rattle.feed_reasons.specs.declared.verdict.Refusal.{Refusal}
use Rattle.feed_reasons.specs.declared.verdict.Verdict.{Verdict}
use Rattle.feed_reasons.specs.declared.verdict.Verdict.TheVariants.{NoSubscriber, Inactive, NotTarget, Blocked, Permitted, Refused}

-- ---- products

abbrev pub filter_of : Option Product → Option Bytes
filter_of None = None
filter_of (Some p) = p.filter

abbrev pub matches_any : History → Story → Option Bytes → Bool
matches_any h story None = false
matches_any h story (Some name) = matches h name story

-- a product that does not permit the story, with its filter, and whether that matches
abbrev pub refusal : History → Story → Bytes → Refusal
refusal h story name = record { product = name; filter = filter_of (product h name); matches = matches_any h story (filter_of (product h name)) }

-- of each of these products
abbrev pub refusals : History → Story → List Bytes → List Refusal
refusals h story names = map (refusal h story) names

-- the product of that name permits the story
abbrev pub passes : History → Story → Bytes → Bool
passes h story name = product_permits h story (product h name)

-- ---- blocks

-- a global block that is not switched off and matches
abbrev pub stops : History → Story → List Bytes → Filter → Bool
stops h story off f = f.blocks && not (is_in f.name off) && matches h f.name story

-- the name of the newest of them
abbrev pub block : History → Story → List Bytes → Option Bytes
block h story off = option_map (λ (f : Filter). f.name) (find (stops h story off) (filters h))

-- ---- the verdict

abbrev pub by_products : History → Story → List Bytes → Option Bytes → Verdict
by_products h story names (Some name) = Permitted name
by_products h story names None = Refused (refusals h story names)

abbrev pub by_blocks : History → Story → List Bytes → Option Bytes → Verdict
by_blocks h story names (Some name) = Blocked name
by_blocks h story names None = by_products h story names (find (passes h story) names)

abbrev pub by_subscriber : History → Story → List Bytes → Bytes → Option Subscriber → Verdict
by_subscriber h story targets s None = NoSubscriber
by_subscriber h story targets s (Some it) =
    if it.active then (if is_target s targets then by_blocks h story it.products (block h story it.off) else NotTarget) else Inactive

-- on a story with these targets, for the subscriber
abbrev pub verdict : History → Story → List Bytes → Bytes → Verdict
verdict h story targets s = by_subscriber h story targets s (subscriber h s)

abbrev pub says_permitted : Verdict → Bool
says_permitted (Permitted name) = true
says_permitted _ = false
