use Rattle.std.proofs.Common.{◌≡◌, take}
use Rattle.std.specs.Prelude.{filter}
use Rattle.news_types.specs.Names.{is_in}
use Rattle.products.proofs.table.Products.earlier_names.Given as goal

abbrev pub invariant-loop-name : goal.invariant-loop-name
invariant-loop-name l = l.names.items ≡ filter (λ s. is_in s l.earlier) (take l.name-index l.self.names.items)
