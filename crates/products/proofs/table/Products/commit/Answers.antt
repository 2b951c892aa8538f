use Rattle.news_types.specs.Products.{product, product_count, subscriber, subscribers}
use Rattle.products.proofs.Changed.{requested}
use Rattle.products.proofs.table.Products.commit.Goals as goal

pub returns : goal.returns
returns c h e caller number command keeps is act =
    requested _ h e caller number command act (c.apply.ensures command (product h) (product_count h) (subscriber h) (subscribers h) keeps is.step)
