use Rattle.std.proofs.Common.{sym, arith}
use Rattle.byte_formats.specs.Fields.{utf8_step, due}
use Rattle.byte_formats.proofs.Scans.{goes_on, too_short, refuses, is_done}
use Rattle.byte_formats.proofs.Texts.{text_judged}
use Rattle.byte_formats.proofs.Laws.{bytes_from}
use Rattle.byte_formats.proofs.faults.utf8_fault.Goals as goal

pub returns-then-i-bytes-clause-judges : goal.returns-then-i-bytes-clause-judges
returns-then-i-bytes-clause-judges c = too_short utf8_step _ (due 0 128 191) _ c.loop-i.i c.loop-i.due c.loop-i-test.true c.if-i-bytes.true c.loop-i.invariant

pub returns-in-None-clause-judges : goal.returns-in-None-clause-judges
returns-in-None-clause-judges c = refuses utf8_step _ (due 0 128 191) _ c.loop-i.i c.loop-i.due c.loop-i-test.true (omega arith) (sym c.in-None.ensures) c.loop-i.invariant

pub loop-i-preserved : goal.loop-i-preserved
loop-i-preserved c = goes_on utf8_step _ (due 0 128 191) _ c.loop-i.i c.loop-i.due c.in-Some.next c.loop-i-test.true (omega arith) (sym c.in-Some.ensures) c.loop-i.invariant

pub returns-clause-judges : goal.returns-clause-judges
returns-clause-judges c = is_done utf8_step _ (due 0 128 191) _ c.loop-i.i c.loop-i.due (omega arith) c.loop-i.invariant

pub returns-clause-utf8 : goal.returns-clause-utf8
returns-clause-utf8 c = λ e. text_judged _ _ (bytes_from c.args.bytes.now (λ i. omega (arith, c.type_inv.bytes i))) (is_done utf8_step _ (due 0 128 191) _ c.loop-i.i c.loop-i.due (omega arith) c.loop-i.invariant)
