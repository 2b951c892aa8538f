use Rattle.std.proofs.Common.{ap, ◌∙◌, take}
use Rattle.news_journal.proofs.Parts.{part_is}
use Rattle.news_journal.proofs.window.Window.part.Goals as goal

pub returns-clause-bytes : goal.returns-clause-bytes
returns-clause-bytes c = λ file shows covers.
    let same = c.deref.ensures.value in
    part_is file c.deref.result.now _ _ _ _ shows.few (ap (take c.args.self.now.count) same ∙ shows.same) covers.behind covers.far _ _ c.min-start.ensures c.min.ensures
