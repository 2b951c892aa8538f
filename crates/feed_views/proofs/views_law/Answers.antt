use Rattle.feed_views.proofs.Viewing.{views}
use Rattle.feed_views.proofs.views_law.Goals as goal

pub returns : goal.returns
returns c = views
