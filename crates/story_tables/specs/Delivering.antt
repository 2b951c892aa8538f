-- The server's own acts.
use Rattle.std.specs.Prelude.{ℕ, ◌==◌, Bool, false, nat_lt, nat_le, Option, Some, None, Result, Ok, Err, if◌then◌else◌}
use Rattle.news_types.specs.declared.entry.Act.{Act}
use Rattle.news_types.specs.declared.entry.Act.TheVariants.{Advance, Halt}
use Rattle.news_types.specs.declared.query.Ready.{Ready}
use Rattle.news_types.specs.declared.query.Ready.TheVariants.{Now, Later}
use Rattle.news_types.specs.declared.denial.Denial.{Denial}
use Rattle.news_types.specs.declared.denial.Denial.TheVariants.{UnknownThing, ReceiptAhead}
use Rattle.news_types.specs.declared.words.Thing.TheVariants as thing
use Rattle.publish_queue.specs.declared.ask.FeedFacts.{FeedFacts}

-- an act that changes nothing but the moment, and where the last stop was
abbrev pub IsQuiet : Act → Type 0
IsQuiet Advance = Unit {0}
IsQuiet Halt = Unit {0}
IsQuiet _ = ⊥

-- a feed is to be pushed now, from this entry on
abbrev pub is_now : Ready → ℕ → Bool
is_now (Now name next) k = k == next
is_now (Later next) k = false

-- what a receipt is answered, where the feed so stands
abbrev pub judged : Option FeedFacts → ℕ → Result Bool Denial
judged None n = Err (UnknownThing thing.Subscriber)
judged (Some f) n = if nat_le n f.length then Ok (nat_lt f.acked n) else Err (ReceiptAhead f.length)
