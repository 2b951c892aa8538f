use Rattle.std.proofs.Common.{arith}
use Rattle.feed_receiver.proofs.Numbered.{few_records}
use Rattle.feed_receiver.proofs.receiver.Receiver.open.Goals as goal

pub overflow_cast-result : goal.overflow_cast-result
overflow_cast-result g c = omega (arith, few_records c.args.name c.args.records.now c.in_default.ensures)
