use Rattle.story_tables.proofs.stories.Stories.prepare_feeds.Goals as goal

pub returns-in_err-reserve_subscriber-in-AddSubscriber-clause-stays : goal.returns-in_err-reserve_subscriber-in-AddSubscriber-clause-stays
returns-in_err-reserve_subscriber-in-AddSubscriber-clause-stays c h keeps = record { items = keeps.items; publications = keeps.publications; queue = c.reserve_subscriber.ensures.keeps _ keeps.queue }

pub returns-in_ok-reserve_subscriber-in-AddSubscriber-clause-stays : goal.returns-in_ok-reserve_subscriber-in-AddSubscriber-clause-stays
returns-in_ok-reserve_subscriber-in-AddSubscriber-clause-stays c h keeps = record { items = keeps.items; publications = keeps.publications; queue = c.reserve_subscriber.ensures.keeps _ keeps.queue }
