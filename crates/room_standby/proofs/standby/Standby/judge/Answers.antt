use Rattle.std.proofs.Common.{arith, sym, length, refl}
use Rattle.byte_formats.proofs.Laws.{bytes_from}
use Rattle.byte_formats.specs.Faults.{IsFaultAt}
use Rattle.entry_codec.specs.Spelling.{entry_bytes}
use Rattle.entry_codec.specs.Formed.{IsEntry}
use Rattle.room_standby.proofs.Lines.{is_record, fault_at, fault_within, is_known, is_ahead, is_next}
use Rattle.room_standby.proofs.standby.Standby.judge.Goals as goal

pub overflow_sub-result : goal.overflow_sub-result
overflow_sub-result g c = fault_within c.args.line.now c.in-Err.left (bytes_from c.args.line.now (λ i. omega (arith, c.type_inv.line i))) c.in-Err.ensures.fault

pub returns-in-Err-clause-refused : goal.returns-in-Err-clause-refused
returns-in-Err-clause-refused g c = fault_at c.args.line.now c.in-Err.left (bytes_from c.args.line.now (λ i. omega (arith, c.type_inv.line i))) c.in-Err.ensures.fault

pub returns-then-read-count-clause-refused : goal.returns-then-read-count-clause-refused
returns-then-read-count-clause-refused g c = (
  (
    record { number = c.in-Ok.read.number; payload = c.in-Ok.read.payload.now },
    (
      is_record c.args.line.now (bytes_from c.args.line.now (λ i. omega (arith, c.type_inv.line i))) (record { number = c.in-Ok.read.number; payload = c.in-Ok.read.payload.now }) c.in-Ok.ensures.record,
      is_known (length c.args.self.now.records.items) c.in-Ok.read.number (omega (arith, c.len-count.ensures, c.if-read-count.true)),
    ),
  ),
  omega (arith, c.len-count.ensures),
)

pub returns-then-read-count-2-clause-refused : goal.returns-then-read-count-2-clause-refused
returns-then-read-count-2-clause-refused g c = (
  (
    record { number = c.in-Ok.read.number; payload = c.in-Ok.read.payload.now },
    (
      is_record c.args.line.now (bytes_from c.args.line.now (λ i. omega (arith, c.type_inv.line i))) (record { number = c.in-Ok.read.number; payload = c.in-Ok.read.payload.now }) c.in-Ok.ensures.record,
      is_ahead (length c.args.self.now.records.items) c.in-Ok.read.number (omega (arith, c.len-count.ensures, c.if-read-count.false, c.if-read-count-2.true)),
    ),
  ),
  omega (arith, c.len-count.ensures),
)

pub returns-in-Ok-moment_of-clause-next : goal.returns-in-Ok-moment_of-clause-next
returns-in-Ok-moment_of-clause-next g c =
    let found = c.in-Ok-moment_of.ensures.found in (
      found.0,
      record {
        is = (
          is_record c.args.line.now (bytes_from c.args.line.now (λ i. omega (arith, c.type_inv.line i))) (record { number = c.in-Ok.read.number; payload = c.in-Ok.read.payload.now }) c.in-Ok.ensures.record,
          is_next (length c.args.self.now.records.items) c.in-Ok.read.number (omega (arith, c.len-count.ensures, c.if-read-count.false, c.if-read-count-2.false)),
        );
        entry = found.1;
        payload = found.2;
      },
    )

pub returns-in-Err-At-clause-refused : goal.returns-in-Err-At-clause-refused
returns-in-Err-At-clause-refused g c =
    let wrong : IsFaultAt entry_bytes IsEntry c.in-Ok.read.payload.now c.in-Err-At.at = rw c.in-Err-At.field-0-is at c.in-Err-At.ensures.fault c.in-Err-At.at refl in (
      record { number = c.in-Ok.read.number; payload = c.in-Ok.read.payload.now },
      (
        is_record c.args.line.now (bytes_from c.args.line.now (λ i. omega (arith, c.type_inv.line i))) (record { number = c.in-Ok.read.number; payload = c.in-Ok.read.payload.now }) c.in-Ok.ensures.record,
        is_next (length c.args.self.now.records.items) c.in-Ok.read.number (omega (arith, c.len-count.ensures, c.if-read-count.false, c.if-read-count-2.false)),
      ),
      rw (sym c.in-Err-At.at-is) at wrong,
    )

pub returns-in-Err-Memory-clause-refused : goal.returns-in-Err-Memory-clause-refused
returns-in-Err-Memory-clause-refused g c = (
  record { number = c.in-Ok.read.number; payload = c.in-Ok.read.payload.now },
  (
    is_record c.args.line.now (bytes_from c.args.line.now (λ i. omega (arith, c.type_inv.line i))) (record { number = c.in-Ok.read.number; payload = c.in-Ok.read.payload.now }) c.in-Ok.ensures.record,
    is_next (length c.args.self.now.records.items) c.in-Ok.read.number (omega (arith, c.len-count.ensures, c.if-read-count.false, c.if-read-count-2.false)),
  ),
)
