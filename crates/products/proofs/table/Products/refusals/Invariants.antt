use Rattle.std.proofs.Common.{◌≡◌, map, take}
use Rattle.news_types.specs.History.{History}
use Rattle.news_types.specs.declared.story.Story.{Story}
use Rattle.feed_reasons.specs.Verdicts.{refusal}
use Rattle.products.specs.Keeps.{KeepsFacts}
use Rattle.products.specs.Asked.{Judges}
use Rattle.products.proofs.table.Products.refusals.Given as goal

abbrev pub invariant-loop-name : goal.invariant-loop-name
invariant-loop-name l = (h : History) (story : Story) → KeepsFacts l.fn.self h → Judges l.fn.verdicts l.fn.filters h story → l.refusals.items ≡ map (refusal h story) (take l.name-index l.products)
