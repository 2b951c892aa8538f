use Rattle.products.proofs.Changed.{if_ok_map}
use Rattle.products.proofs.Blocking.{are_blocking}
use Rattle.products.proofs.table.Products.blocking.Goals as goal

pub returns : goal.returns
returns c =
    if_ok_map c.matching.result _ _
    (λ names made h story judges. are_blocking h story c.blocks-2.result.now names.items (c.blocks-2.ensures h judges.rules) (made h story judges))
    c.matching.ensures
