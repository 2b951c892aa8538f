use Rattle.std.proofs.lemmas.Result.{err_from_is_err_and}
use Rattle.news_journal.proofs.Time.{lifted, same_head}
use Rattle.news_journal.proofs.keeping.JournalKeeper.append.Goals as goal

-- the record could not be kept
pub returns-in_err-add-clause-doubts : goal.returns-in_err-add-clause-doubts
returns-in_err-add-clause-doubts g c = λ logs.
    let e = err_from_is_err_and c.from_residual.result c.from_residual.ensures.1 in
    rw (e.1, e.2) (c.in_err-add.ensures.doubts logs)

pub returns-in_err-add-clause-crash : goal.returns-in_err-add-clause-crash
returns-in_err-add-clause-crash g c = λ logs.
    same_head g.D.Disk.disk _ _ _ _ _ _ _ c.add.ensures.head (lifted g.D.Disk.disk _ _ _ _ _ _ _ (c.add.ensures.crash logs) (λ f leaves. leaves))

-- the record is kept
pub returns-clause-crash : goal.returns-clause-crash
returns-clause-crash g c = λ logs.
    same_head g.D.Disk.disk _ _ _ _ _ _ _ c.add.ensures.head (lifted g.D.Disk.disk _ _ _ _ _ _ _ (c.add.ensures.crash logs) (λ f leaves. leaves))
