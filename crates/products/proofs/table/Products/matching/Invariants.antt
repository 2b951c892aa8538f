use Rattle.std.proofs.Common.{◌≡◌, take}
use Rattle.std.specs.Prelude.{filter}
use Rattle.news_types.specs.History.{History}
use Rattle.news_types.specs.Filters.{matches}
use Rattle.news_types.specs.declared.story.Story.{Story}
use Rattle.products.specs.Asked.{Judges}
use Rattle.products.proofs.table.Products.matching.Given as goal

abbrev pub invariant-loop-name : goal.invariant-loop-name
invariant-loop-name l = (h : History) (story : Story) → Judges l.fn.verdicts l.fn.filters h story → l.matching.items ≡ filter (λ name. matches h name story) (take l.name-index l.names)
