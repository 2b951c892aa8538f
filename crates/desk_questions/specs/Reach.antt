-- What is told of those whom a publication would reach.
use Rattle.std.specs.Prelude.{ℕ, List, [], codes, Option, Some, None}
use Rattle.serde_json.specs.Data.{Members, no_members}
use Rattle.news_types.specs.Names.{Bytes}
use Rattle.news_types.specs.History.{History}
use Rattle.news_types.specs.Items.{Item}
use Rattle.feed_reasons.specs.declared.verdict.Refusal.{Refusal}
use Rattle.feed_reasons.specs.declared.verdict.Verdict.{Verdict}
use Rattle.feed_reasons.specs.declared.verdict.Verdict.TheVariants.{NoSubscriber, Inactive, NotTarget, Blocked, Permitted, Refused}
use Rattle.told_objects.specs.Members.{◌with◌, text, flag, null, list, answering, written}
use Rattle.desk_views.specs.Reach.{Reached, reach}
use Rattle.desk_questions.specs.declared.reached.ReachLine.{ReachLine}
use Rattle.desk_questions.specs.declared.reached.RefusalLine.{RefusalLine}

-- ---- a product that does not permit the story

-- its filter, null where it has none
unfoldable pub filtered : Option Bytes → Members → Members
filtered None members = members with null "filter"
filtered (Some name) members = members with text "filter" name

abbrev pub refusal_in : RefusalLine → Refusal
refusal_in line = record { product = line.product; filter = line.filter; matches = line.matches }

abbrev pub refusal_row : Refusal → Members
refusal_row r = no_members with filtered r.filter with flag "matches" r.matches with text "product" r.product

-- ---- a subscriber

abbrev pub reason_word : Verdict → Bytes
reason_word NoSubscriber = codes "no_subscriber"
reason_word Inactive = codes "inactive"
reason_word NotTarget = codes "not_target"
reason_word (Blocked filter) = codes "blocked"
reason_word (Permitted product) = codes "permitted"
reason_word (Refused products) = codes "refused"

-- what the verdict names: the block, the product that permits the story, or each that does not
unfoldable pub cause : Verdict → Members → Members
cause (Blocked filter) members = members with text "filter" filter
cause (Permitted product) members = members with text "product" product
cause (Refused products) members = members with list "products" refusal_row products
cause _ members = members

-- what a verdict says, and what it names
abbrev pub verdict_row : Verdict → Members
verdict_row v = no_members with text "reason" (reason_word v) with cause v

abbrev pub reached_in : ReachLine → Reached
reached_in line = record { subscriber = line.subscriber; verdict = line.verdict; had = line.had }

abbrev pub reach_row : Reached → Members
reach_row r =
    no_members with flag "had" r.had with text "reason" (reason_word r.verdict) with text "subscriber" r.subscriber with cause r.verdict

-- ---- all of them

abbrev pub reach_bytes : List Reached → Bytes
reach_bytes rows = written (answering "reach" with list "rows" reach_row rows)

-- each subscriber, for the item as it is, if it is there
abbrev pub reach_object : History → ℕ → List Bytes → Option Item → Bytes
reach_object h i targets None = []
reach_object h i targets (Some it) = reach_bytes (reach h i it.story targets)
