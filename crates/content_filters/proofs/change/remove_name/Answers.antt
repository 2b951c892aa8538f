use Rattle.std.proofs.Common.{not, rules}
use Rattle.std.proofs.lemmas.Fn.{filter_same}
use Rattle.news_types.specs.Names.{same}
use Rattle.content_filters.proofs.change.remove_name.Goals as goal

pub returns : goal.returns
returns c = filter_same _ (λ other. not (same other c.args.name.now)) _ (λ x b q said. (search rules, search rules)) _ _ c.retain.ensures.filtered
