use Rattle.server_metrics.proofs.room.item_count.Goals as goal

pub item_count-requires : goal.item_count-requires
item_count-requires g c = c.stories.ensures.place (c.newsroom.ensures.stands c.requires)

pub returns : goal.returns
returns g c = λ b stands. c.item_count.ensures b.list (c.stories.ensures.keeps b.list (c.newsroom.ensures.stands_for b stands))
