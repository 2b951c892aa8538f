-- The summary that a server prints at its end.
use Rattle.std.specs.Prelude.{◌≡◌, ◌⊎◌, length}
use Rattle.news_types.specs.Names.{Bytes}
use Rattle.news_types.specs.History.{History}
use Rattle.news_types.specs.Products.{subscribers}
use Rattle.news_types.specs.Answers.{in_order, queue_rows}
use Rattle.news_io.specs.Sink.{SinkMeaning}
use Rattle.run_status.specs.Output.{Told}
use Rattle.run_status.specs.Status.{line_of}
use Rattle.run_status.specs.declared.status.Status.{Status}
use Rattle.run_status.specs.declared.status.Status.TheVariants as status
use Rattle.feed_reports.specs.Queue.{summary_report}
use Rattle.room_reports.specs.Written.{IsWhole, IsCut}
use Rattle.server_roles.specs.declared.first.Ending.{Ending}

-- how many entries the list has, and then how the feeds fare, in byte order of their subscribers
abbrev pub summary_at : History → Bytes
summary_at h = summary_report (length h) (queue_rows h (in_order (subscribers h)))

-- what the roles' end is told as, where nothing fails behind it
abbrev pub status_of : Ending → Status
status_of (Ending.Stopped place) = status.Done
status_of Ending.DoorFault = status.Input

module _ {O : Type 0} (sink : SinkMeaning O) where
  -- all of the summary was written and has passed on, and then the status was told
  pub record IsSummarized (summary : Bytes) (why : Status) (old new : O) : Type 0 where
    pub mid : O
    pub whole : IsWhole sink summary old mid
    pub line : Told sink mid new (line_of why)

  -- The summary was printed, and the status is this one; or the output failed at it; or there was no memory for it.
  abbrev pub IsPrinted : Bytes → Status → O → O → Status → Type 0
  IsPrinted summary why old new came = ((came ≡ why) × IsSummarized summary why old new)
      ⊎ (((came ≡ status.Output) × IsCut sink summary old new) ⊎ ((came ≡ status.Memory) × Told sink old new (line_of status.Memory)))
