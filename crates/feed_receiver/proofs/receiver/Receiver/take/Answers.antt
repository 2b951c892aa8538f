use Rattle.std.proofs.Common.{arith, sym, ap, ◌∙◌, ◌≡◌, ◌+◌, ◌++◌, [], ◌∷◌, refl, subst, ◌≤◌, length}
use Rattle.news_types.specs.Names.{Bytes}
use Rattle.news_io.specs.Keeper.{IsFramed, payload_of}
use Rattle.news_io.proofs.Framing.{is_framed, payload_of-framed}
use Rattle.feed_receiver.specs.Feed.{AreNumber}
use Rattle.feed_receiver.proofs.Numbered.{number_length}
use Rattle.feed_receiver.proofs.Receiving.{holds_more, holds_same, fault_doubts, full_doubts}
use Rattle.feed_receiver.proofs.Reactions.{kept_step, failed_step, full_step, starved_step, refused_here, number_here, holds_on}
use Rattle.feed_receiver.proofs.receiver.Receiver.take.Goals as goal

pub record_of-requires : goal.record_of-requires
record_of-requires g c = omega (arith, number_length _ _ _ c.in-Ok.ensures.next.0)

pub append-requires-clause-framed : goal.append-requires-clause-framed
append-requires-clause-framed g c =
    let fits : length c.args.frame.now ≤ 4194304 = omega (arith, number_length _ _ _ c.in-Ok.ensures.next.0) in
    subst IsFramed (sym (c.as_slice.ensures.value ∙ c.in-Ok-record_of.ensures)) (is_framed c.args.frame.now fits)

pub returns-in-Ok-append-clause-step : goal.returns-in-Ok-append-clause-step
returns-in-Ok-append-clause-step g c =
    let n = c.in-Ok.ensures.next.0 in
    let payload : payload_of c.as_slice.result.now ≡ c.args.frame.now = ap payload_of (c.as_slice.ensures.value ∙ c.in-Ok-record_of.ensures) ∙ payload_of-framed c.args.frame.now in (
      n.frame ∷ [],
      λ b h. (
        holds_more g.K.Keeper.keeper c.args.self.now (record { alloc = c.args.self.now.alloc; keeper = c.append.new.self; name = c.args.self.now.name; count = c.in-Ok.k }) b h c.args.frame.now refl
            c.in-Ok-append.ensures.told n c.in-Ok.ensures.next.1
            (λ told. c.in-Ok-append.ensures.kept told ∙ ap (λ (x : Bytes). g.K.Keeper.keeper.list c.args.self.now.keeper ++ x ∷ []) payload)
            c.in-Ok-append.ensures.doubts,
        kept_step b.name b.frames c.args.frame.now n.frame (number_here g.K.Keeper.keeper c.args.self.now b h c.args.frame.now c.in-Ok.k n.frame c.in-Ok.ensures.next.1 n.numbered) n.is c.in-Ok.k
            (omega (arith, c.in-Ok.ensures.next.1, h.count)),
      ),
    )

pub returns-in-Err-Fault-clause-doubts : goal.returns-in-Err-Fault-clause-doubts
returns-in-Err-Fault-clause-doubts g c =
    let payload : payload_of c.as_slice.result.now ≡ c.args.frame.now = ap payload_of (c.as_slice.ensures.value ∙ c.in-Ok-record_of.ensures) ∙ payload_of-framed c.args.frame.now in
    λ told. fault_doubts (g.K.Keeper.keeper.doubts c.args.self.now.keeper) (g.K.Keeper.keeper.doubts c.append.new.self) c.args.frame.now (payload_of c.as_slice.result.now) c.in-Err-Fault.field-0 c.in-Err-Fault.field-0-is payload (c.in-Err-Fault.ensures.doubts told)

pub returns-in-Err-Fault-clause-step : goal.returns-in-Err-Fault-clause-step
returns-in-Err-Fault-clause-step g c =
    let n = subst (λ k. AreNumber c.args.self.now.name k c.args.frame.now) c.in-Ok.ensures.next.1 c.in-Ok.ensures.next.0 in (
      [],
      λ b h. (
        holds_same g.K.Keeper.keeper c.args.self.now (record { alloc = c.args.self.now.alloc; keeper = c.append.new.self; name = c.args.self.now.name; count = c.args.self.now.count }) b h c.args.frame.now refl
            c.in-Err-Fault.ensures.told n refl c.in-Err-Fault.ensures.same (returns-in-Err-Fault-clause-doubts g c),
        failed_step b.name b.frames c.args.frame.now n.frame (number_here g.K.Keeper.keeper c.args.self.now b h c.args.frame.now (c.args.self.now.count + 1) n.frame refl n.numbered) n.is,
      ),
    )

pub returns-in-Err-clause-step : goal.returns-in-Err-clause-step
returns-in-Err-clause-step g c = ([], λ b h. (holds_on g.K.Keeper.keeper c.args.self.now b h c.args.frame.now, refused_here g.K.Keeper.keeper c.args.self.now b h c.args.frame.now c.in-Err.taken c.in-Err.ensures.refused))

pub returns-in_default-clause-step : goal.returns-in_default-clause-step
returns-in_default-clause-step g c =
    let n = c.in-Ok.ensures.next.0 in (
      [],
      λ b h. (
        holds_on g.K.Keeper.keeper c.args.self.now b h c.args.frame.now,
        starved_step b.name b.frames c.args.frame.now n.frame (number_here g.K.Keeper.keeper c.args.self.now b h c.args.frame.now c.in-Ok.k n.frame c.in-Ok.ensures.next.1 n.numbered) n.is,
      ),
    )

pub returns-clause-step : goal.returns-clause-step
returns-clause-step g c =
    let n = subst (λ k. AreNumber c.args.self.now.name k c.args.frame.now) c.in-Ok.ensures.next.1 c.in-Ok.ensures.next.0 in (
      [],
      λ b h. (
        holds_same g.K.Keeper.keeper c.args.self.now (record { alloc = c.args.self.now.alloc; keeper = c.append.new.self; name = c.args.self.now.name; count = c.args.self.now.count }) b h c.args.frame.now refl
            c.in-Err-Full.ensures.told n refl c.in-Err-Full.ensures.same
            (λ told. full_doubts (g.K.Keeper.keeper.doubts c.args.self.now.keeper) (g.K.Keeper.keeper.doubts c.append.new.self) c.args.frame.now (payload_of c.as_slice.result.now) c.in-Err-Full.field-0 c.in-Err-Full.size c.in-Err-Full.length c.in-Err-Full.field-0-is (c.in-Err-Full.ensures.doubts told)),
        full_step b.name b.frames c.args.frame.now n.frame (number_here g.K.Keeper.keeper c.args.self.now b h c.args.frame.now (c.args.self.now.count + 1) n.frame refl n.numbered) n.is c.in-Err-Full.size c.in-Err-Full.length,
      ),
    )
