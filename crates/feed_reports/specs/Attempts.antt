-- The report on an attempt to deliver.
use Rattle.std.specs.Prelude.{ℕ, [], ◌∷◌, codes, decimal}
use Rattle.news_types.specs.Names.{Bytes}
use Rattle.feed_reports.specs.declared.attempts.Attempted.{Attempted}
use Rattle.feed_reports.specs.declared.attempts.Attempted.TheVariants.{Delivered, LinkFault, NoReceipt}
use Rattle.feed_reports.specs.Line.{line}

abbrev pub attempt_word : Attempted → Bytes
attempt_word Delivered = codes "delivered"
attempt_word LinkFault = codes "link-fault"
attempt_word NoReceipt = codes "no-receipt"

abbrev pub attempt_line : Bytes → ℕ → Attempted → Bytes
attempt_line subscriber k came = line (subscriber ∷ decimal k ∷ attempt_word came ∷ [])
