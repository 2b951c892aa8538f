use Rattle.std.proofs.Common.{sym, subst}
use Rattle.room_runs.specs.Texts.{IsReceiptText}
use Rattle.room_runs.proofs.texts.receipt_answered.Goals as goal

pub returns-in-Done : goal.returns-in-Done
returns-in-Done c = subst (λ a. IsReceiptText a c.text_of.result) (sym c.in-Done.is) (c.text_of.ensures _ c.reply_text.ensures)

pub returns-in-Denied : goal.returns-in-Denied
returns-in-Denied c = subst (λ a. IsReceiptText a c.text_of-in-Denied.result) (sym c.in-Denied.is) (c.text_of-in-Denied.ensures _ c.denial_text.ensures)
