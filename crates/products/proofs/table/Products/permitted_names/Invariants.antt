use Rattle.std.proofs.Common.{◌≡◌, ◌||◌, take}
use Rattle.std.specs.Prelude.{filter}
use Rattle.news_types.specs.Names.{is_in}
use Rattle.news_types.specs.History.{History}
use Rattle.news_types.specs.Products as facts
use Rattle.products.specs.Asked.{Keep}
use Rattle.products.proofs.table.Products.permitted_names.Given as goal

abbrev pub invariant-loop-name : goal.invariant-loop-name
invariant-loop-name l = (h : History) → Keep l.fn.self l.fn.filters h → l.names.items ≡ filter (λ s. facts.permitted h l.fn.story l.fn.targets s || is_in s l.fn.earlier) (take l.name-index l.self.names.items)
