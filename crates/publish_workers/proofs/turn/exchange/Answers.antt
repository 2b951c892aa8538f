use Rattle.std.proofs.Common.{[], List, IsTrue, refl, sym, subst, ◌∙◌}
use Rattle.news_types.specs.Names.{Bytes, is_in}
use Rattle.news_io.specs.Faults.{Rose}
use Rattle.publish_workers.specs.Turns.{Unsent, Unread}
use Rattle.publish_workers.proofs.Exchanging.{counts_replied, passes_unsent, passes_unread, passes_replied}
use Rattle.publish_workers.proofs.turn.exchange.Goals as goal

pub send-requires : goal.send-requires
send-requires g c = c.requires.served

pub receipt-requires : goal.receipt-requires
receipt-requires g c = subst (λ (names : List Bytes). IsTrue (is_in c.args.subscriber names)) (sym c.send.ensures.serves) c.requires.served

pub reply_of-requires : goal.reply_of-requires
reply_of-requires g c = c.in-Ok.ensures.within

pub acknowledge-requires : goal.acknowledge-requires
acknowledge-requires g c = record { stands = c.requires.stands }

pub returns-in-Err-clause-went : goal.returns-in-Err-clause-went
returns-in-Err-clause-went g c = (
  Unsent,
  refl,
  ([], λ b is. ((refl, refl), λ there. tt)),
  λ told. passes_unsent g.L.Link.link c.args.link.now c.send.new.self (c.send.ensures.told told) (c.in-Err.ensures.lost told) (c.send.ensures.said told) (c.in-Err.ensures.still told),
  λ told. record { tells = told; gave = λ i. refl },
)

pub returns-in-Err-clause-link_faults : goal.returns-in-Err-clause-link_faults
returns-in-Err-clause-link_faults g c = c.in-Err.ensures.count.failed

pub returns-in-Err-clause-serves : goal.returns-in-Err-clause-serves
returns-in-Err-clause-serves g c = c.send.ensures.serves

pub returns-in-Ok-clause-went : goal.returns-in-Ok-clause-went
returns-in-Ok-clause-went g c =
    let a = c.acknowledge.ensures in (
      a.0,
      a.1,
      a.3,
      λ told.
          let sent = c.send.ensures.told told in
          passes_replied g.L.Link.link c.args.link.now c.send.new.self c.receipt.new.self c.args.subscriber c.args.frame.now c.reply_of.result _ a.0 a.2 c.reply_of.ensures
          (c.receipt.ensures.told sent) (c.in_default.ensures.sent told) (c.send.ensures.said told) (c.receipt.ensures.sent sent) (c.in-Ok.ensures.said sent)
          (c.in_default.ensures.step told) (c.in-Ok.ensures.step sent),
      a.4,
    )

pub returns-in-Ok-clause-link_faults : goal.returns-in-Ok-clause-link_faults
returns-in-Ok-clause-link_faults g c =
    let a = c.acknowledge.ensures in
    counts_replied c.args.subscriber c.args.k c.reply_of.result a.0 c.acknowledge.result _ _ a.2 a.1 (c.in-Ok.ensures.count.calm ∙ c.in_default.ensures.count.calm)

pub returns-in-Ok-clause-serves : goal.returns-in-Ok-clause-serves
returns-in-Ok-clause-serves g c = c.receipt.ensures.serves ∙ c.send.ensures.serves

pub returns-in-Err-receipt-clause-went : goal.returns-in-Err-receipt-clause-went
returns-in-Err-receipt-clause-went g c = (
  Unread,
  refl,
  ([], λ b is. ((refl, refl), λ there. tt)),
  λ told.
      let sent = c.send.ensures.told told in
      passes_unread g.L.Link.link c.args.link.now c.send.new.self c.receipt.new.self c.args.subscriber c.args.frame.now
      (c.receipt.ensures.told sent) (c.in_default.ensures.sent told) (c.send.ensures.said told) (c.receipt.ensures.sent sent) (c.in-Err-receipt.ensures.silent sent)
      (c.in_default.ensures.step told) (c.in-Err-receipt.ensures.still sent),
  λ told. record { tells = told; gave = λ i. refl },
)

pub returns-in-Err-receipt-clause-link_faults : goal.returns-in-Err-receipt-clause-link_faults
returns-in-Err-receipt-clause-link_faults g c = subst (λ n. Rose n (g.L.Link.link.faults c.receipt.new.self)) c.in_default.ensures.count.calm c.in-Err-receipt.ensures.count.failed

pub returns-in-Err-receipt-clause-serves : goal.returns-in-Err-receipt-clause-serves
returns-in-Err-receipt-clause-serves g c = c.receipt.ensures.serves ∙ c.send.ensures.serves
