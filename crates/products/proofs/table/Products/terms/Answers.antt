use Rattle.std.proofs.Common.{ap, ◌∙◌}
use Rattle.std.specs.Option.{option_map}
use Rattle.products.specs.Keeps.{subscriber_of}
use Rattle.products.proofs.table.Products.terms.Goals as goal

pub returns : goal.returns
returns c h keeps = ap (option_map subscriber_of) c.get.ensures.value ∙ keeps.subscribers c.args.name.now
