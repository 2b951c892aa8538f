use Rattle.std.proofs.Common.{inl, inr, ⊎_elim, sym, subst, arith}
use Rattle.news_journal.specs.Stands.{Doubts}
use Rattle.news_journal.proofs.Steps.{gate_ajar, gate_shut, gate_opens, ajar_long, same_doubt}
use Rattle.news_journal.proofs.Time.{elapses_weaker}
use Rattle.news_journal.proofs.log.Journal.quiet.Goals as goal

pub returns-in_err-write_through-clause-logs : goal.returns-in_err-write_through-clause-logs
returns-in_err-write_through-clause-logs g c = λ ps logs.
    let a = logs.ajar c.if-self.true in
    let still = gate_ajar _ _ _ _ _ _ logs.gate a.0 a.1.behind_gate c.write_through.ensures.torn (c.write_through.ensures.crash logs.told) in
    record {
      told = c.write_through.ensures.told logs.told;
      fit = logs.fit;
      gate = logs.gate;
      small = logs.small;
      shut = λ no. absurd (cc (no, c.if-self.true));
      ajar = λ is. (a.0, record { is_ajar = is; behind_gate = still });
    }

pub returns-in_err-write_through-clause-doubts : goal.returns-in_err-write_through-clause-doubts
returns-in_err-write_through-clause-doubts g c = λ ps logs x doubt.
    let a = logs.ajar c.if-self.true in
    let still = gate_ajar _ _ _ _ _ _ logs.gate a.0 a.1.behind_gate c.write_through.ensures.torn (c.write_through.ensures.crash logs.told) in
    subst (Doubts g.D.Disk.disk c.args.self.now ps) (sym (same_doubt _ x a.0 _ _ doubt.behind_gate still)) a.1

pub returns-in_err-write_through-clause-crash : goal.returns-in_err-write_through-clause-crash
returns-in_err-write_through-clause-crash g c = λ ps logs.
    let a = logs.ajar c.if-self.true in
    elapses_weaker _ _ _ _ _ _ (c.write_through.ensures.time logs.told)
    (λ f step. ⊎_elim (λ same. inl same) (λ more. inr (a.0, a.1, more)) (gate_opens _ ps a.0 _ _ _ logs.gate logs.fit a.1.behind_gate f step))

pub returns-in_ok-write_through-clause-logs : goal.returns-in_ok-write_through-clause-logs
returns-in_ok-write_through-clause-logs g c = λ ps logs.
    let a = logs.ajar c.if-self.true in
    let long = ajar_long _ _ _ _ a.1.behind_gate in
    let holds = c.in_ok-write_through.ensures.written logs.told (omega (arith, logs.gate, long)) in
    let only = c.in_ok-write_through.ensures.durable logs.told in
    record {
      told = c.write_through.ensures.told logs.told;
      fit = logs.fit;
      gate = logs.gate;
      small = logs.small;
      shut = λ is. gate_shut _ _ _ _ _ _ logs.gate a.0 a.1.behind_gate holds only;
      ajar = λ no. absurd (cc no);
    }

pub returns-in_ok-write_through-clause-crash : goal.returns-in_ok-write_through-clause-crash
returns-in_ok-write_through-clause-crash g c = λ ps logs.
    let a = logs.ajar c.if-self.true in
    elapses_weaker _ _ _ _ _ _ (c.write_through.ensures.time logs.told)
    (λ f step. ⊎_elim (λ same. inl same) (λ more. inr (a.0, a.1, more)) (gate_opens _ ps a.0 _ _ _ logs.gate logs.fit a.1.behind_gate f step))
