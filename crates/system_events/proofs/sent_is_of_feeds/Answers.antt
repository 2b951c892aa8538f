use Rattle.system_events.proofs.Systems as systems
use Rattle.system_events.proofs.sent_is_of_feeds.Goals as goal

pub returns : goal.returns
returns c = systems.sent_is_of_feeds
