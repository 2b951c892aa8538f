use Rattle.std.proofs.Common.{◌∙◌}
use Rattle.newsroom.proofs.Telling.{told_item}
use Rattle.newsroom.proofs.newsroom.Newsroom.ask_item.Goals as goal

pub returns : goal.returns
returns c h frame stands =
    c.item_told.ensures
    ∙ told_item h c.args.item c.args.self.now.moment c.place-place.result c.holder-holder.result c.in_ok-row.row stands.at (c.place-place.ensures h stands.rules) (c.holder-holder.ensures h stands.rules) (c.in_ok-row.ensures h stands.stories)
