use Rattle.std.proofs.Common.{arith, sym, ◌∙◌, refl}
use Rattle.news_types.proofs.Members.{same_is}
use Rattle.byte_formats.proofs.Laws.{bytes_from}
use Rattle.feed_receiver.proofs.Numbered as numbered
use Rattle.feed_receiver.proofs.Reactions.{of_another, of_known, of_ahead}
use Rattle.feed_receiver.proofs.receiver.Receiver.judge.Goals as goal

pub overflow_sub-result : goal.overflow_sub-result
overflow_sub-result g c = numbered.fault_within c.args.frame.now c.in-Err.left (bytes_from c.args.frame.now (λ i. omega (arith, c.type_inv.frame i))) c.in-Err.ensures.fault

pub returns-in-Err-clause-refused : goal.returns-in-Err-clause-refused
returns-in-Err-clause-refused g c = numbered.fault_at c.args.frame.now c.in-Err.left (bytes_from c.args.frame.now (λ i. omega (arith, c.type_inv.frame i))) c.in-Err.ensures.fault

pub returns-then-ne-clause-refused : goal.returns-then-ne-clause-refused
returns-then-ne-clause-refused g c = (
  _,
  numbered.is_frame c.args.frame.now (bytes_from c.args.frame.now (λ i. omega (arith, c.type_inv.frame i))) _ c.in-Ok.ensures.frame,
  of_another c.args.self.now.name c.args.self.now.count (record { to = c.in-Ok.read.to; k = c.in-Ok.read.k; payload = c.in-Ok.read.payload.now }) (numbered.not_same c.in-Ok.read.to c.args.self.now.name (numbered.not_true _ (sym c.ne.ensures ∙ c.if-ne.true))),
)

pub returns-then-read-count-clause-refused : goal.returns-then-read-count-clause-refused
returns-then-read-count-clause-refused g c = (
  _,
  numbered.is_frame c.args.frame.now (bytes_from c.args.frame.now (λ i. omega (arith, c.type_inv.frame i))) _ c.in-Ok.ensures.frame,
  of_known c.args.self.now.name c.args.self.now.count (record { to = c.in-Ok.read.to; k = c.in-Ok.read.k; payload = c.in-Ok.read.payload.now }) (same_is c.in-Ok.read.to c.args.self.now.name (numbered.not_false _ (sym c.ne.ensures ∙ c.if-ne.false))) c.if-read-count.true,
  refl,
)

pub returns-then-read-count-2-clause-refused : goal.returns-then-read-count-2-clause-refused
returns-then-read-count-2-clause-refused g c = (
  _,
  numbered.is_frame c.args.frame.now (bytes_from c.args.frame.now (λ i. omega (arith, c.type_inv.frame i))) _ c.in-Ok.ensures.frame,
  of_ahead c.args.self.now.name c.args.self.now.count (record { to = c.in-Ok.read.to; k = c.in-Ok.read.k; payload = c.in-Ok.read.payload.now }) (same_is c.in-Ok.read.to c.args.self.now.name (numbered.not_false _ (sym c.ne.ensures ∙ c.if-ne.false))) (omega arith),
  refl,
)

pub returns-else-read-count-2-clause-next : goal.returns-else-read-count-2-clause-next
returns-else-read-count-2-clause-next g c = (
  numbered.is_number c.args.frame.now (bytes_from c.args.frame.now (λ i. omega (arith, c.type_inv.frame i))) _ c.in-Ok.ensures.frame c.args.self.now.name c.in-Ok.read.k
      (same_is c.in-Ok.read.to c.args.self.now.name (numbered.not_false _ (sym c.ne.ensures ∙ c.if-ne.false))) refl,
  omega arith,
)
