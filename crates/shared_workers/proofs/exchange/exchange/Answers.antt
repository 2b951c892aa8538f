use Rattle.std.proofs.Common.{[], ◌∷◌, subst}
use Rattle.news_types.specs.Names.{Bytes}
use Rattle.news_io.specs.Link.{Sent, Said, Nothing}
use Rattle.publish_workers.specs.Links.{Passes}
use Rattle.std.proofs.Common.{if◌then◌else◌}
use Rattle.shared_workers.proofs.Exchanges.{reply_read, link_lost}
use Rattle.shared_workers.proofs.exchange.exchange.Goals as goal

pub returns-in-Ok-clause-came : goal.returns-in-Ok-clause-came
returns-in-Ok-clause-came g c =
    let j = c.in-Job in
    let link = g.L.Link.link in
    reply_read link c.args.link.now c.reply_to.new.link c.args.claimed j.subscriber j.k j.frame j.front j.is c.in-Ok.reply c.receipt_in.result
    (λ told. subst (λ (f : Bytes). Passes link c.args.link.now c.reply_to.new.link ((j.subscriber, f) ∷ []) ((j.subscriber, c.in-Ok.reply) ∷ []) (Sent j.subscriber f ∷ Said j.subscriber c.in-Ok.reply ∷ [])) c.as_slice.ensures (c.in-Ok.ensures.reply told))
    c.receipt_in.ensures

pub returns-in-Job-clause-came : goal.returns-in-Job-clause-came
returns-in-Job-clause-came g c =
    let j = c.in-Job in
    let link = g.L.Link.link in
    let lost = c.in-Err.ensures.lost in
    link_lost link c.args.link.now c.reply_to.new.link c.args.claimed j.subscriber j.k j.frame j.front j.is lost.0
    (λ told. subst (λ (f : Bytes). Passes link c.args.link.now c.reply_to.new.link (if lost.0 then (j.subscriber, f) ∷ [] else []) [] (if lost.0 then Sent j.subscriber f ∷ Nothing ∷ [] else Nothing ∷ [])) c.as_slice.ensures (lost.1 told))
