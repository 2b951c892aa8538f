use Rattle.std.proofs.Common.{◌∙◌, ap, sym}
use Rattle.news_journal.specs.declared.log.Journal.{Journal}
use Rattle.news_pair.specs.Steps.Stays.{as_they_are}
use Rattle.news_pair.proofs.Chains.{side_stays}
use Rattle.news_pair.proofs.Filled.{gate_kept, gate_made}
use Rattle.news_pair.proofs.pair.Pair.sided.Goals as goal

pub returns-then-self-ne0-clause-crash : goal.returns-then-self-ne0-clause-crash
returns-then-self-ne0-clause-crash g c = λ h pairs shut. as_they_are

pub returns-then-self-ne0-clause-end : goal.returns-then-self-ne0-clause-end
returns-then-self-ne0-clause-end g c = gate_kept c.args.self.end c.if-self-ne0.true

pub returns-in-Ok-clause-end : goal.returns-in-Ok-clause-end
returns-in-Ok-clause-end g c = c.in-Ok.ensures.end ∙ sym (gate_made c.args.self.end c.if-self-ne0.false)

pub returns-in-Ok-clause-crash : goal.returns-in-Ok-clause-crash
returns-in-Ok-clause-crash g c = λ h pairs shut.
    side_stays g.D.Disk.disk c.args.self.store h _ _ _ _ (ap (λ (j : Journal _). j.disk) c.in-Ok.ensures.log) (c.in-Ok.ensures.crash h pairs shut)

pub returns-in-Err-clause-crash_err : goal.returns-in-Err-clause-crash_err
returns-in-Err-clause-crash_err g c = λ h pairs shut.
    side_stays g.D.Disk.disk c.args.self.store h _ _ _ _ c.in-Err.ensures.log_err (c.in-Err.ensures.crash_err h pairs shut)
