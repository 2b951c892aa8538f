use Rattle.std.proofs.Common.{arith, length}
use Rattle.byte_formats.proofs.Laws.{bytes_from}
use Rattle.room_standby.proofs.Crashing.{gains_none}
use Rattle.room_standby.proofs.Taking.{uses_as_read, adds_as_read, doubts_as_read, refused, tried, refused_adds}
use Rattle.room_standby.proofs.Coming.{comes}
use Rattle.room_standby.proofs.standby.Standby.take.Goals as goal

pub returns-in-Ok-clause-step : goal.returns-in-Ok-clause-step
returns-in-Ok-clause-step g c = λ b h.
    tried g.K.Keeper.keeper c.args.self.now b h c.args.line.now c.keep.new.self (record { number = c.in-Ok.next.number; payload = c.in-Ok.next.payload.now }) c.in-Ok.ensures.next.0 c.in-Ok.ensures.next.1
    c.keep.ensures.told c.keep.result c.keep.ensures.tried c.keep.ensures.adds c.keep.ensures.unasked c.keep.ensures.uses c.keep.ensures.list c.keep.ensures.doubts

pub returns-in-Ok-clause-comes : goal.returns-in-Ok-clause-comes
returns-in-Ok-clause-comes g c = λ b h s sent.
    let st = returns-in-Ok-clause-step g c b h in
    comes c.args.line.now (bytes_from c.args.line.now (λ i. omega (arith, c.type_inv.line i))) s sent g.K.Keeper.keeper c.keep.new.self b st.0 st.1 st.2 c.args.self.now h c.keep.ensures.crash
    c.keep.result st.3

pub returns-in-Ok-clause-uses : goal.returns-in-Ok-clause-uses
returns-in-Ok-clause-uses g c = λ r read.
    uses_as_read c.args.line.now (record { number = c.in-Ok.next.number; payload = c.in-Ok.next.payload.now }) r c.in-Ok.ensures.next.1.is.0 read _ _ c.keep.result c.keep.ensures.uses

pub returns-in-Ok-clause-doubts : goal.returns-in-Ok-clause-doubts
returns-in-Ok-clause-doubts g c = λ tells r read.
    doubts_as_read c.args.line.now (record { number = c.in-Ok.next.number; payload = c.in-Ok.next.payload.now }) r c.in-Ok.ensures.next.1.is.0 read _ _ c.keep.result (c.keep.ensures.doubts tells)

pub returns-in-Err-clause-step : goal.returns-in-Err-clause-step
returns-in-Err-clause-step g c = λ b h. refused g.K.Keeper.keeper c.args.self.now b h c.args.line.now c.in-Err.answer c.in-Err.ensures.refused

pub returns-in-Err-clause-comes : goal.returns-in-Err-clause-comes
returns-in-Err-clause-comes g c = λ b h s sent.
    let st = returns-in-Err-clause-step g c b h in
    comes c.args.line.now (bytes_from c.args.line.now (λ i. omega (arith, c.type_inv.line i))) s sent g.K.Keeper.keeper c.args.self.now b st.0 st.1 st.2 c.args.self.now h
    (λ told. gains_none g.K.Keeper.keeper c.args.self.now.keeper) c.in-Err.answer st.3

pub returns-in-Ok-clause-adds : goal.returns-in-Ok-clause-adds
returns-in-Ok-clause-adds g c = λ r read.
    adds_as_read c.args.line.now (record { number = c.in-Ok.next.number; payload = c.in-Ok.next.payload.now }) r c.in-Ok.ensures.next.1.is.0 read _ _ _ c.keep.result c.keep.ensures.adds

pub returns-in-Err-clause-adds : goal.returns-in-Err-clause-adds
returns-in-Err-clause-adds g c = λ r read.
    refused_adds c.args.self.now.records.items (g.K.Keeper.keeper.used c.args.self.now.keeper) r.payload (length c.args.self.now.records.items) c.args.line.now c.in-Err.answer c.in-Err.ensures.refused
