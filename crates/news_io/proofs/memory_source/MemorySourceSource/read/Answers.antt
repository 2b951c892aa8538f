use Rattle.std.proofs.Common.{drop, arith}
use Rattle.std.proofs.lemmas.Grind.{common_steps}
use Rattle.news_io.proofs.Pieces.{given}
use Rattle.news_io.proofs.memory_source.MemorySourceSource.read.Goals as goal

pub returns-clause-bytes : goal.returns-clause-bytes
returns-clause-bytes c = λ tells. given c.args.self.now.at c.min-count.result c.args.self.now.bytes.items c.copy_from_slice.new.self (drop c.min-count.result c.args.into.now)
    (grind (arith, common_steps)) (grind (arith, common_steps))
