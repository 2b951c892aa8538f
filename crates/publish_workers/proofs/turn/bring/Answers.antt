use Rattle.std.proofs.Common.{ap, sym}
use Rattle.news_room.specs.declared.answers.Kept.{Kept}
use Rattle.publish_workers.specs.Turns.{word_of_receipt}
use Rattle.publish_workers.proofs.turn.bring.Goals as goal

pub receipt-requires : goal.receipt-requires
receipt-requires g c = record { stands = c.requires.stands }

pub returns-in-Done : goal.returns-in-Done
returns-in-Done g c = (c.receipt.result, ap (λ (x : Kept). word_of_receipt c.args.subscriber c.args.k c.args.reply c.args.n x) (sym c.in-Done.is), c.receipt.ensures)

pub returns-in-Denied : goal.returns-in-Denied
returns-in-Denied g c = (c.receipt.result, ap (λ (x : Kept). word_of_receipt c.args.subscriber c.args.k c.args.reply c.args.n x) (sym c.in-Denied.is), c.receipt.ensures)

pub returns-in-Fault : goal.returns-in-Fault
returns-in-Fault g c = (c.receipt.result, ap (λ (x : Kept). word_of_receipt c.args.subscriber c.args.k c.args.reply c.args.n x) (sym c.in-Fault.is), c.receipt.ensures)

pub returns-in-Full : goal.returns-in-Full
returns-in-Full g c = (c.receipt.result, ap (λ (x : Kept). word_of_receipt c.args.subscriber c.args.k c.args.reply c.args.n x) (sym c.in-Full.is), c.receipt.ensures)
