use Rattle.std.proofs.Common.{[], refl, sym, subst}
use Rattle.news_types.specs.Names.{Bytes}
use Rattle.news_room.specs.Stands.{numbers}
use Rattle.publish_workers.specs.Receipts.{IsReceiptFor}
use Rattle.publish_workers.specs.Turns.{Replied, Receipted}
use Rattle.publish_workers.proofs.Answering.{receipt_answer}
use Rattle.publish_workers.proofs.turn.acknowledge.Goals as goal

pub bring-requires : goal.bring-requires
bring-requires g c = record { stands = c.requires.stands }

pub returns-in-Some : goal.returns-in-Some
returns-in-Some g c =
    let s = c.args.subscriber in
    let k = c.args.k in
    let n = c.in-Some.n in
    let at = c.now-now.result in
    let kept = c.bring.ensures in
    let receipt = subst (λ (bytes : Bytes). IsReceiptFor s k n bytes) c.as_slice.ensures.value c.in-Some.ensures in (
      Receipted c.args.reply n at kept.0,
      kept.1,
      refl,
      (kept.2.0, λ b is. let r = kept.2.1 b is in (r, λ there. receipt_answer (numbers g.K.Keeper.keeper c.args.room.now c.bring.new.room) b at s k n c.args.reply kept.2.0 kept.0 there receipt r.step)),
      λ told. record { tells = c.now-now.ensures.told told; gave = c.now-now.ensures.given told },
    )

pub returns-in-None : goal.returns-in-None
returns-in-None g c =
    let s = c.args.subscriber in
    let k = c.args.k in (
      Replied c.args.reply,
      refl,
      refl,
      ([], λ b is. ((refl, refl), λ there j other. c.in-None.ensures j (subst (λ (bytes : Bytes). IsReceiptFor s k j bytes) (sym c.as_slice.ensures.value) other.receipt))),
      λ told. record { tells = told; gave = λ i. refl },
    )
