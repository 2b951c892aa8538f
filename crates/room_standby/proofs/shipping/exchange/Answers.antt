use Rattle.std.proofs.Common.{◌≡◌, ◌∙◌, subst, take, [], ◌∷◌}
use Rattle.news_types.specs.Names.{Bytes}
use Rattle.news_io.specs.Link.{Sent}
use Rattle.room_standby.specs.Ships.{line_behind, Passes}
use Rattle.room_standby.proofs.Exchanging.{line_is, sent_passes, said_passes, failed_passes, replied, unread}
use Rattle.room_standby.proofs.shipping.exchange.Goals as goal

pub returns-in-Ok-receipt-clause-exchanges : goal.returns-in-Ok-receipt-clause-exchanges
returns-in-Ok-receipt-clause-exchanges g c =
    let link = g.L.Link.link in
    let line : c.as_slice-2.result.now ≡ line_behind c.args.records.now c.args.kept =
    c.as_slice-2.ensures.value ∙ c.in-Ok.ensures ∙ line_is c.args.records.now c.args.kept c.index-records-kept.result c.as_slice.result.now c.requires.some c.as_slice.ensures in
    replied link c.args.link.now c.send.new.self c.receipt.new.self c.args.records.now c.args.name.now c.args.kept c.requires.some
    (λ told.
    subst (λ (l : Bytes). Passes link c.args.link.now c.send.new.self ((c.args.name.now, l) ∷ []) [] (Sent c.args.name.now l ∷ [])) line
    (sent_passes link c.args.link.now c.send.new.self c.args.name.now c.as_slice-2.result.now (c.in_default-send.ensures.told told) (c.in_default-send.ensures.sent told) (c.in_default-send.ensures.said told)
    (c.in_default-send.ensures.step told)))
    (take c.in-Ok-receipt.length c.receipt.new.into) c.count_of.result
    (λ told.
    said_passes link c.send.new.self c.receipt.new.self c.args.name.now (take c.in-Ok-receipt.length c.receipt.new.into) (c.in-Ok-receipt.ensures.told told) (c.in-Ok-receipt.ensures.sent told)
    (c.in-Ok-receipt.ensures.said told) (c.in-Ok-receipt.ensures.step told))
    c.count_of.ensures

pub returns-clause-exchanges : goal.returns-clause-exchanges
returns-clause-exchanges g c =
    let link = g.L.Link.link in
    let line : c.as_slice-2.result.now ≡ line_behind c.args.records.now c.args.kept =
    c.as_slice-2.ensures.value ∙ c.in-Ok.ensures ∙ line_is c.args.records.now c.args.kept c.index-records-kept.result c.as_slice.result.now c.requires.some c.as_slice.ensures in
    unread link c.args.link.now c.send.new.self c.receipt.new.self c.args.records.now c.args.name.now c.args.kept c.requires.some
    (λ told.
    subst (λ (l : Bytes). Passes link c.args.link.now c.send.new.self ((c.args.name.now, l) ∷ []) [] (Sent c.args.name.now l ∷ [])) line
    (sent_passes link c.args.link.now c.send.new.self c.args.name.now c.as_slice-2.result.now (c.in_default-send.ensures.told told) (c.in_default-send.ensures.sent told) (c.in_default-send.ensures.said told)
    (c.in_default-send.ensures.step told)))
    (λ told.
    failed_passes link c.send.new.self c.receipt.new.self (c.in-Err-receipt.ensures.told told) (c.in-Err-receipt.ensures.sent told) (c.in-Err-receipt.ensures.silent told) (c.in-Err-receipt.ensures.still told))
