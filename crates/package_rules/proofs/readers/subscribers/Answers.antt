use Rattle.std.proofs.Common.{◌∙◌, ℕ, [], refl, sym}
use Rattle.news_types.specs.Names.{Bytes}
use Rattle.news_types.specs.Products.{subscribers}
use Rattle.news_types.specs.Answers.{in_order, queue_rows}
use Rattle.package_rules.proofs.Finding.{queue_only, names_are}
use Rattle.package_rules.proofs.readers.subscribers.Goals as goal

pub ask-requires : goal.ask-requires
ask-requires g c = record { stands = c.requires }

pub unreachable-requires : goal.unreachable-requires
unreachable-requires g c =
    let b = c.requires.0 in
    let frames = λ (s : Bytes) (k : ℕ). [] in
    c.in_default.not-Queue (queue_rows b.list (in_order (subscribers b.list))) (c.in_ok-answer.ensures.plain refl b frames c.requires.1)

pub returns : goal.returns
returns g c b stands =
    let frames = λ (s : Bytes) (k : ℕ). [] in
    names_are b.list c.in-Queue.rows (queue_only b.list c.in-Queue.rows frames (sym c.in-Queue.is ∙ c.in_ok-answer.ensures.plain refl b frames stands))
