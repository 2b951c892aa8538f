use Rattle.std.proofs.Common.{inl, inr, ⊎_elim, ap, sym, ◌∙◌, subst, List, ℕ, Some}
use Rattle.std.proofs.lemmas.Result.{err_from_is_err_and}
use Rattle.news_io.specs.Keeper.{Leaves, BeforeOrAfter}
use Rattle.news_journal.specs.Log.{opened}
use Rattle.news_journal.specs.Stands.{Logs, Doubts, list_of}
use Rattle.news_journal.specs.Law.{list_is}
use Rattle.news_journal.proofs.Steps.{on_err}
use Rattle.news_journal.proofs.Time.{elapses_weaker, both_calls}
use Rattle.news_journal.proofs.log.Journal.add.Goals as goal

-- the gate could not be closed
pub returns-in_err-quiet-clause-told : goal.returns-in_err-quiet-clause-told
returns-in_err-quiet-clause-told g c = λ logs.
    let after = c.quiet.ensures.logs _ logs in
    subst (Logs g.D.Disk.disk c.quiet.new.self) (sym (list_is _ c.quiet.new.self _ after)) after

pub returns-in_err-quiet-clause-same : goal.returns-in_err-quiet-clause-same
returns-in_err-quiet-clause-same g c = λ logs. on_err _ _ (list_is _ c.quiet.new.self _ (c.quiet.ensures.logs _ logs))

pub returns-in_err-quiet-clause-doubts : goal.returns-in_err-quiet-clause-doubts
returns-in_err-quiet-clause-doubts g c = λ logs.
    let same = list_is _ c.quiet.new.self _ (c.quiet.ensures.logs _ logs) in
    let e = err_from_is_err_and c.from_residual.result c.from_residual.ensures.1 in
    rw e.1 (λ x doubt. inl (c.quiet.ensures.doubts _ logs x (subst (λ (l : List (List ℕ)). Doubts g.D.Disk.disk c.quiet.new.self l x) same doubt)))

pub returns-in_err-quiet-clause-crash : goal.returns-in_err-quiet-clause-crash
returns-in_err-quiet-clause-crash g c = λ logs. elapses_weaker _ _ _ _ _ _ (c.quiet.ensures.crash _ logs) (λ f leaves. inl leaves)

-- the record could not be kept
pub returns-in_err-write_record-clause-told : goal.returns-in_err-write_record-clause-told
returns-in_err-write_record-clause-told g c = λ logs.
    let after = c.in_err-write_record.ensures.logs_err _ (c.quiet.ensures.logs _ logs) in
    subst (Logs g.D.Disk.disk c.write_record.new.self) (sym (list_is _ c.write_record.new.self _ after)) after

pub returns-in_err-write_record-clause-same : goal.returns-in_err-write_record-clause-same
returns-in_err-write_record-clause-same g c = λ logs. on_err _ _ (list_is _ c.write_record.new.self _ (c.in_err-write_record.ensures.logs_err _ (c.quiet.ensures.logs _ logs)))

pub returns-in_err-write_record-clause-doubts : goal.returns-in_err-write_record-clause-doubts
returns-in_err-write_record-clause-doubts g c = λ logs.
    let mid = c.quiet.ensures.logs _ logs in
    let same = list_is _ c.write_record.new.self _ (c.in_err-write_record.ensures.logs_err _ mid) in
    let e = err_from_is_err_and c.from_residual-in_err-write_record.result c.from_residual-in_err-write_record.ensures.1 in
    rw e.1 (λ x doubt. inr (c.in_err-write_record.ensures.doubts _ mid x (subst (λ (l : List (List ℕ)). Doubts g.D.Disk.disk c.write_record.new.self l x) same doubt)))

pub returns-in_err-write_record-clause-crash : goal.returns-in_err-write_record-clause-crash
returns-in_err-write_record-clause-crash g c = λ logs.
    let mid = c.quiet.ensures.logs _ logs in
    let same = list_is _ c.write_record.new.self _ (c.in_err-write_record.ensures.logs_err _ mid) in
    both_calls _ _ _ _ _ _ _ _
    (BeforeOrAfter (list_of g.D.Disk.disk c.args.self.now) (Doubts g.D.Disk.disk c.args.self.now (list_of g.D.Disk.disk c.args.self.now)) (list_of g.D.Disk.disk c.write_record.new.self) (Doubts g.D.Disk.disk c.write_record.new.self (list_of g.D.Disk.disk c.write_record.new.self)))
    (elapses_weaker _ _ _ _ _ _ (c.quiet.ensures.crash _ logs) (λ f leaves. inl leaves)) c.quiet.ensures.head
    (elapses_weaker _ _ _ _ _ _ (c.in_err-write_record.ensures.crash_err _ mid) (λ f leaves. inr (subst (λ (l : List (List ℕ)). Leaves l (Doubts g.D.Disk.disk c.write_record.new.self l) (opened c.quiet.new.self.head f)) (sym same) leaves)))

-- the record is kept
pub returns-clause-told : goal.returns-clause-told
returns-clause-told g c = λ logs.
    let after = c.in_ok-write_record.ensures.logs _ (c.quiet.ensures.logs _ logs) in
    subst (Logs g.D.Disk.disk c.write_record.new.self) (sym (list_is _ c.write_record.new.self _ after)) after

pub returns-clause-kept : goal.returns-clause-kept
returns-clause-kept g c = λ logs. list_is _ c.write_record.new.self _ (c.in_ok-write_record.ensures.logs _ (c.quiet.ensures.logs _ logs))

pub returns-clause-crash : goal.returns-clause-crash
returns-clause-crash g c = λ logs.
    let mid = c.quiet.ensures.logs _ logs in
    let same = list_is _ c.write_record.new.self _ (c.in_ok-write_record.ensures.logs _ mid) in
    both_calls _ _ _ _ _ _ _ _
    (BeforeOrAfter (list_of g.D.Disk.disk c.args.self.now) (Doubts g.D.Disk.disk c.args.self.now (list_of g.D.Disk.disk c.args.self.now)) (list_of g.D.Disk.disk c.write_record.new.self) (Doubts g.D.Disk.disk c.write_record.new.self (list_of g.D.Disk.disk c.write_record.new.self)))
    (elapses_weaker _ _ _ _ _ _ (c.quiet.ensures.crash _ logs) (λ f leaves. inl leaves)) c.quiet.ensures.head
    (elapses_weaker _ _ _ _ _ _ (c.in_ok-write_record.ensures.crash _ mid) (λ f either. ⊎_elim (λ before. inl (inl before)) (λ after. inr (inl (after ∙ ap (λ (l : List (List ℕ)). Some l) (sym same)))) either))
