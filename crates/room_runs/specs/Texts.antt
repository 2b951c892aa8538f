-- The texts of answers.
use Rattle.std.specs.Prelude.{◌≡◌, ℕ, true, false, Result, Ok, Err, Vec}
use Rattle.std.specs.declared.alloc.Global.{Global}
use Rattle.news_types.specs.Names.{Bytes}
use Rattle.line_run.specs.declared.answering.Stopped.{Stopped}
use Rattle.line_run.specs.declared.answering.Stopped.TheVariants as stopped
use Rattle.news_room.specs.declared.answers.Handled.{Handled}
use Rattle.news_room.specs.declared.answers.Kept.{Kept}
use Rattle.desk_answers.specs.Answers.{reply_bytes, denial_bytes}

-- the text, or want of memory for it
abbrev pub IsText : Bytes → Result (Vec ℕ Global) Stopped → Type 0
IsText bytes (Ok text) = text.items ≡ bytes
IsText bytes (Err why) = why ≡ stopped.Memory

-- what a room answered, as a text, or why there is none
abbrev pub IsAnswerText : Handled → Result (Vec ℕ Global) Stopped → Type 0
IsAnswerText (Handled.Done reply) text = IsText (reply_bytes reply false) text
IsAnswerText (Handled.Repeat reply) text = IsText (reply_bytes reply true) text
IsAnswerText (Handled.Denied denial) text = IsText (denial_bytes denial) text
IsAnswerText Handled.Fault text = text ≡ Err stopped.Fault
IsAnswerText (Handled.Full size count) text = text ≡ Err stopped.Full
IsAnswerText Handled.Memory text = text ≡ Err stopped.Memory

-- what a room answered to a receipt, as a text, or why there is none
abbrev pub IsReceiptText : Kept → Result (Vec ℕ Global) Stopped → Type 0
IsReceiptText (Kept.Done reply) text = IsText (reply_bytes reply false) text
IsReceiptText (Kept.Denied denial) text = IsText (denial_bytes denial) text
IsReceiptText Kept.Fault text = text ≡ Err stopped.Fault
IsReceiptText (Kept.Full size count) text = text ≡ Err stopped.Full
