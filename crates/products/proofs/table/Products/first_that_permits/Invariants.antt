use Rattle.std.proofs.Common.{◌≡◌, drop}
use Rattle.std.specs.List.{find}
use Rattle.news_types.specs.History.{History}
use Rattle.news_types.specs.declared.story.Story.{Story}
use Rattle.feed_reasons.specs.Verdicts.{passes}
use Rattle.products.specs.Keeps.{KeepsFacts}
use Rattle.products.specs.Asked.{Judges}
use Rattle.products.proofs.table.Products.first_that_permits.Given as goal

abbrev pub invariant-loop-name : goal.invariant-loop-name
invariant-loop-name l = (h : History) (story : Story) → KeepsFacts l.fn.self h → Judges l.fn.verdicts l.fn.filters h story
    → find (passes h story) (drop l.name-index l.products) ≡ find (passes h story) l.products
