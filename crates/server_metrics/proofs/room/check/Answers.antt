use Rattle.std.proofs.Common.{◌∙◌, ℕ, [], length, refl, sym}
use Rattle.news_types.specs.Names.{Bytes}
use Rattle.news_types.specs.History.{moment}
use Rattle.news_types.specs.Publications.{pubs}
use Rattle.server_metrics.proofs.Answered.{check_only}
use Rattle.server_metrics.proofs.room.check.Goals as goal

pub unreachable-requires : goal.unreachable-requires
unreachable-requires g c =
    let b = c.requires.0 in
    let frames = λ (s : Bytes) (k : ℕ). [] in
    c.in_default.not-Check (length b.list) (moment b.list) (length (pubs b.list)) (c.in_ok-answer.ensures.plain refl b frames c.requires.1)

pub returns : goal.returns
returns g c = λ b stands.
    let frames = λ (s : Bytes) (k : ℕ). [] in
    let found = c.in-Check in
    check_only b.list found.entries found.moment found.publications frames (sym found.is ∙ c.in_ok-answer.ensures.plain refl b frames stands)
