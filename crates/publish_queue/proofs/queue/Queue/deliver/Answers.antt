use Rattle.std.proofs.Common.{◌≡◌, ◌<◌, true, length, sym, ◌∙◌, arith}
use Rattle.news_types.specs.Names.{is_in}
use Rattle.publish_queue.proofs.ByName.{present}
use Rattle.publish_queue.proofs.Many.{found_at}
use Rattle.publish_queue.proofs.AllFeeds.{feeds_delivered, untouched_then, another, subscribed_still}
use Rattle.publish_queue.proofs.queue.Queue.deliver.Goals as goal

pub returns-clause-keeps : goal.returns-clause-keeps
returns-clause-keeps c known to keeps at =
    let fs = c.args.self.now.feeds in
    let within : c.args.at < length fs.names.items = omega (arith, c.requires, fs.paired, fs.names.ok.0) in
    let found = found_at fs c.args.at to (within, at) in
    let there : is_in to known.names ≡ true = sym (keeps.subscribed to) ∙ present to fs.names.items c.args.at to within (at to) in
    record {
      at = keeps.at;
      subscribed = subscribed_still _ _ known.names c.deliver.ensures.names keeps.subscribed;
      feeds = feeds_delivered known fs.names.items fs.feeds.items c.deliver.new.self.feeds.items c.args.at to c.args.delivery found c.deliver.ensures.sets keeps.feeds;
      others = λ s none. untouched_then known to s c.args.delivery (another to s known.names there none) (keeps.others s none);
      waits = keeps.waits;
      next = keeps.next;
      fair = keeps.fair;
      ordered = c.deliver.ensures.ordered keeps.ordered;
    }
