use Rattle.std.proofs.Common.{◌≡◌, drop}
use Rattle.std.specs.List.{list_any}
use Rattle.news_types.specs.History.{History}
use Rattle.news_types.specs.Products as facts
use Rattle.news_types.specs.declared.story.Story.{Story}
use Rattle.products.specs.Keeps.{KeepsFacts}
use Rattle.products.specs.Asked.{Judges}
use Rattle.products.proofs.table.Products.any_permits.Given as goal

abbrev pub invariant-loop-name : goal.invariant-loop-name
invariant-loop-name l = (h : History) (story : Story) → KeepsFacts l.fn.self h → Judges l.fn.verdicts l.fn.filters h story
    → list_any (λ name. facts.product_permits h story (facts.product h name)) (drop l.name-index l.products) ≡ list_any (λ name. facts.product_permits h story (facts.product h name)) l.products
