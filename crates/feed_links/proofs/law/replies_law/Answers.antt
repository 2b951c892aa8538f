use Rattle.feed_links.proofs.Receipts.{receipt_is_line}
use Rattle.feed_links.proofs.law.replies_law.Goals as goal

pub returns : goal.returns
returns c = receipt_is_line
