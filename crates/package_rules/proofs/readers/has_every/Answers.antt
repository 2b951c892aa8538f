use Rattle.std.proofs.Common.{rules}
use Rattle.std.proofs.lemmas.Iterator.{YieldsList-from_slice}
use Rattle.std.proofs.lemmas.Iterator.Search.{all_from_yields_List}
use Rattle.news_types.specs.Feeds.{feed}
use Rattle.package_rules.specs.Readers.{has_member}
use Rattle.package_rules.proofs.readers.has_every.Goals as goal

pub returns : goal.returns
returns g c b stands =
    all_from_yields_List (has_member (feed b.list c.args.subscriber.now)) _ _ c.all.result c.all.ensures.ran (YieldsList-from_slice c.args.members.now c.iter.ensures.rest) (λ x r q k. search rules)
