use Rattle.std.proofs.lemmas.Result.{err_from_is_err_and}
use Rattle.std.proofs.Common.{◌≡◌, inl, inr, ⊎_elim, refl, ap, subst, ◌∙◌, arith, ◌+◌, List, ℕ, length}
use Rattle.news_io.specs.Disk.{Holds}
use Rattle.news_io.specs.Keeper.{payload_of}
use Rattle.news_journal.specs.Read.{AllFit-push, length-pushed}
use Rattle.news_journal.proofs.Steps.{stage_shut, staged, stage_opens, gate_ajar, gate_open, gate_opens, ajar_long, shut_long, same_doubt, on_err, length-framed}
use Rattle.news_journal.proofs.Time.{elapses_weaker, elapses_then}
use Rattle.news_journal.proofs.log.Journal.write_record.Goals as goal

-- the record could not be written behind the gate
pub returns-in_err-write_through-clause-logs_err : goal.returns-in_err-write_through-clause-logs_err
returns-in_err-write_through-clause-logs_err g c = λ ps logs.
    let e = err_from_is_err_and c.from_residual.result c.from_residual.ensures.1 in
    rw e.1 (record {
      told = c.write_through.ensures.told logs.told;
      fit = logs.fit;
      gate = logs.gate;
      small = logs.small;
      shut = λ is. stage_shut _ _ _ _ _ _ logs.gate _ (logs.shut c.requires.shut) c.write_through.ensures.torn (c.write_through.ensures.crash logs.told);
      ajar = λ no. absurd (cc (no, c.requires.shut));
    })

pub returns-in_err-write_through-clause-crash_err : goal.returns-in_err-write_through-clause-crash_err
returns-in_err-write_through-clause-crash_err g c = λ ps logs.
    on_err _ _ (elapses_weaker _ _ _ _ _ _ (c.write_through.ensures.time logs.told)
    (λ f step. inl (stage_opens _ ps _ _ _ _ logs.gate logs.small logs.fit (logs.shut c.requires.shut) f step)))

-- the gate could not be opened
pub returns-in_err-write_through-2-clause-logs_err : goal.returns-in_err-write_through-2-clause-logs_err
returns-in_err-write_through-2-clause-logs_err g c = λ ps logs.
    let shut = logs.shut c.requires.shut in
    let long = shut_long _ _ _ shut in
    let p = payload_of c.args.framed.now in
    let sizes : length c.args.framed.now ≡ 5 + length p = ap length c.requires.framed.is ∙ length-framed p in
    let holds = subst (λ (f : List ℕ). Holds (g.D.Disk.disk.seen c.args.self.now.disk) (c.args.self.now.gate + 1) f (g.D.Disk.disk.seen c.write_through.new.disk)) c.requires.framed.is (c.in_ok-write_through.ensures.written logs.told (omega (arith, logs.gate, long))) in
    let behind_gate = staged _ _ _ _ _ _ logs.gate p c.requires.framed.fits (omega (arith, logs.gate, sizes, c.requires.room)) shut holds (c.in_ok-write_through.ensures.durable logs.told) in
    let still = gate_ajar _ _ _ _ _ _ logs.gate p behind_gate c.write_through-2.ensures.torn (c.write_through-2.ensures.crash (c.write_through.ensures.told logs.told)) in
    let e = err_from_is_err_and c.from_residual-in_err-write_through-2.result c.from_residual-in_err-write_through-2.ensures.1 in
    rw e.1 (record {
      told = c.write_through-2.ensures.told (c.write_through.ensures.told logs.told);
      fit = logs.fit;
      gate = logs.gate;
      small = logs.small;
      shut = λ no. absurd (cc no);
      ajar = λ is. (p, record { is_ajar = is; behind_gate = still });
    })

pub returns-in_err-write_through-2-clause-doubts : goal.returns-in_err-write_through-2-clause-doubts
returns-in_err-write_through-2-clause-doubts g c = λ ps logs.
    let shut = logs.shut c.requires.shut in
    let long = shut_long _ _ _ shut in
    let p = payload_of c.args.framed.now in
    let sizes : length c.args.framed.now ≡ 5 + length p = ap length c.requires.framed.is ∙ length-framed p in
    let holds = subst (λ (f : List ℕ). Holds (g.D.Disk.disk.seen c.args.self.now.disk) (c.args.self.now.gate + 1) f (g.D.Disk.disk.seen c.write_through.new.disk)) c.requires.framed.is (c.in_ok-write_through.ensures.written logs.told (omega (arith, logs.gate, long))) in
    let behind_gate = staged _ _ _ _ _ _ logs.gate p c.requires.framed.fits (omega (arith, logs.gate, sizes, c.requires.room)) shut holds (c.in_ok-write_through.ensures.durable logs.told) in
    let still = gate_ajar _ _ _ _ _ _ logs.gate p behind_gate c.write_through-2.ensures.torn (c.write_through-2.ensures.crash (c.write_through.ensures.told logs.told)) in
    let e = err_from_is_err_and c.from_residual-in_err-write_through-2.result c.from_residual-in_err-write_through-2.ensures.1 in
    rw e.1 (λ x doubt. same_doubt _ x p _ _ doubt.behind_gate still)

pub returns-in_err-write_through-2-clause-crash_err : goal.returns-in_err-write_through-2-clause-crash_err
returns-in_err-write_through-2-clause-crash_err g c = λ ps logs.
    let shut = logs.shut c.requires.shut in
    let long = shut_long _ _ _ shut in
    let p = payload_of c.args.framed.now in
    let sizes : length c.args.framed.now ≡ 5 + length p = ap length c.requires.framed.is ∙ length-framed p in
    let holds = subst (λ (f : List ℕ). Holds (g.D.Disk.disk.seen c.args.self.now.disk) (c.args.self.now.gate + 1) f (g.D.Disk.disk.seen c.write_through.new.disk)) c.requires.framed.is (c.in_ok-write_through.ensures.written logs.told (omega (arith, logs.gate, long))) in
    let behind_gate = staged _ _ _ _ _ _ logs.gate p c.requires.framed.fits (omega (arith, logs.gate, sizes, c.requires.room)) shut holds (c.in_ok-write_through.ensures.durable logs.told) in
    let still = gate_ajar _ _ _ _ _ _ logs.gate p behind_gate c.write_through-2.ensures.torn (c.write_through-2.ensures.crash (c.write_through.ensures.told logs.told)) in
    on_err _ _ (elapses_then _ _ _ _ _ _ _
    (elapses_weaker _ _ _ _ _ _ (c.write_through.ensures.time logs.told)
    (λ f step. inl (stage_opens _ ps _ _ _ _ logs.gate logs.small logs.fit shut f step)))
    (elapses_weaker _ _ _ _ _ _ (c.write_through-2.ensures.time (c.write_through.ensures.told logs.told))
    (λ f step. ⊎_elim (λ same. inl same) (λ more. inr (p, record { is_ajar = refl; behind_gate = still }, more)) (gate_opens _ ps p _ _ _ logs.gate logs.fit behind_gate f step))))

-- the record is kept
pub returns-clause-logs : goal.returns-clause-logs
returns-clause-logs g c = λ ps logs.
    let shut = logs.shut c.requires.shut in
    let long = shut_long _ _ _ shut in
    let p = payload_of c.args.framed.now in
    let sizes : length c.args.framed.now ≡ 5 + length p = ap length c.requires.framed.is ∙ length-framed p in
    let holds = subst (λ (f : List ℕ). Holds (g.D.Disk.disk.seen c.args.self.now.disk) (c.args.self.now.gate + 1) f (g.D.Disk.disk.seen c.write_through.new.disk)) c.requires.framed.is (c.in_ok-write_through.ensures.written logs.told (omega (arith, logs.gate, long))) in
    let behind_gate = staged _ _ _ _ _ _ logs.gate p c.requires.framed.fits (omega (arith, logs.gate, sizes, c.requires.room)) shut holds (c.in_ok-write_through.ensures.durable logs.told) in
    let told = c.write_through.ensures.told logs.told in
    let long_now = ajar_long _ _ _ _ behind_gate in
    let opens = c.in_ok-write_through-2.ensures.written told (omega (arith, logs.gate, long_now)) in
    record {
      told = c.write_through-2.ensures.told told;
      fit = AllFit-push ps p logs.fit c.requires.framed.fits;
      gate = omega (arith, logs.gate, sizes, length-pushed c.args.self.now.head ps p);
      small = omega (arith, c.requires.room);
      shut = λ is. gate_open c.args.self.now.head ps p _ _ _ _ _ logs.gate behind_gate opens (c.in_ok-write_through-2.ensures.durable told);
      ajar = λ no. absurd (cc no);
    }

pub returns-clause-crash : goal.returns-clause-crash
returns-clause-crash g c = λ ps logs.
    let shut = logs.shut c.requires.shut in
    let long = shut_long _ _ _ shut in
    let p = payload_of c.args.framed.now in
    let sizes : length c.args.framed.now ≡ 5 + length p = ap length c.requires.framed.is ∙ length-framed p in
    let holds = subst (λ (f : List ℕ). Holds (g.D.Disk.disk.seen c.args.self.now.disk) (c.args.self.now.gate + 1) f (g.D.Disk.disk.seen c.write_through.new.disk)) c.requires.framed.is (c.in_ok-write_through.ensures.written logs.told (omega (arith, logs.gate, long))) in
    let behind_gate = staged _ _ _ _ _ _ logs.gate p c.requires.framed.fits (omega (arith, logs.gate, sizes, c.requires.room)) shut holds (c.in_ok-write_through.ensures.durable logs.told) in
    elapses_then _ _ _ _ _ _ _
    (elapses_weaker _ _ _ _ _ _ (c.write_through.ensures.time logs.told)
    (λ f step. inl (stage_opens _ ps _ _ _ _ logs.gate logs.small logs.fit shut f step)))
    (elapses_weaker _ _ _ _ _ _ (c.write_through-2.ensures.time (c.write_through.ensures.told logs.told))
    (λ f step. gate_opens _ ps p _ _ _ logs.gate logs.fit behind_gate f step))
