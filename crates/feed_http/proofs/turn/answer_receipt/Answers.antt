use Rattle.feed_http.proofs.Calling.{receipt_turn}
use Rattle.feed_http.proofs.turn.answer_receipt.Goals as goal

pub receipt-requires : goal.receipt-requires
receipt-requires g c = record { stands = c.requires }

pub returns : goal.returns
returns g c =
    let r = c.receipt.ensures in
    (r.0, λ b stands. receipt_turn g.K.Keeper.keeper c.args.room.now c.receipt.new.self b r.0 c.args.subscriber c.args.n c.args.now c.receipt.result c.tell_kept.result (r.1 b stands) c.tell_kept.ensures)
