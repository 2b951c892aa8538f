use Rattle.std.proofs.Common.{◌≤◌, length, drop, sym, ◌∙◌, arith}
use Rattle.std.proofs.lemmas.List.{take_all, take-append-drop}
use Rattle.news_io.proofs.memory_sink.MemorySinkSink.flush.Goals as goal

pub returns-clause-kept : goal.returns-clause-kept
returns-clause-kept c =
    let all : length c.args.self.now.bytes.items ≤ c.len-self.result = omega arith in
    λ tells. (drop c.args.self.now.mark c.args.self.now.bytes.items, take_all _ _ all ∙ sym (take-append-drop c.args.self.now.mark c.args.self.now.bytes.items))
