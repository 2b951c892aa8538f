use Rattle.feed_receiver.proofs.ReceiptLines.{read_again}
use Rattle.feed_receiver.proofs.law.receipts_law.Goals as goal

pub returns : goal.returns
returns c = read_again
