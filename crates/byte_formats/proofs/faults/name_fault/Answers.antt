use Rattle.std.proofs.Common.{arith, true, false, Bool, Option, ◌≡◌, Some, None, cond, ap, get_or}
use Rattle.news_types.specs.Names.{is_name_byte}
use Rattle.byte_formats.specs.Fields.{name_step}
use Rattle.byte_formats.proofs.Laws.{bytes_from}
use Rattle.byte_formats.proofs.Scans.{goes_on, too_short, refuses, is_done}
use Rattle.byte_formats.proofs.Names.{name_judged}
use Rattle.byte_formats.proofs.faults.name_fault.Goals as goal

abbrev asked : Bool → Option Bool
asked b = cond b (Some true) None

pub returns-then-i-bytes-clause-judges : goal.returns-then-i-bytes-clause-judges
returns-then-i-bytes-clause-judges c = too_short name_step _ true _ c.loop-i.i true c.loop-i-test.true c.if-i-bytes.true c.loop-i.invariant

pub returns-then-not-is_name_letter-clause-judges : goal.returns-then-not-is_name_letter-clause-judges
returns-then-not-is_name_letter-clause-judges c = refuses name_step _ true _ c.loop-i.i true c.loop-i-test.true (omega arith) (let h : is_name_byte (get_or c.args.bytes.now c.loop-i.i 0) ≡ false = cc in ap asked h) c.loop-i.invariant

pub loop-i-preserved : goal.loop-i-preserved
loop-i-preserved c = goes_on name_step _ true _ c.loop-i.i true true c.loop-i-test.true (omega arith) (let h : is_name_byte (get_or c.args.bytes.now c.loop-i.i 0) ≡ true = cc in ap asked h) c.loop-i.invariant

pub returns-clause-judges : goal.returns-clause-judges
returns-clause-judges c = is_done name_step _ true _ c.loop-i.i true (omega arith) c.loop-i.invariant

pub returns-clause-form : goal.returns-clause-form
returns-clause-form c = λ e. name_judged _ _ (bytes_from c.args.bytes.now (λ i. omega (arith, c.type_inv.bytes i))) (is_done name_step _ true _ c.loop-i.i true (omega arith) c.loop-i.invariant)
