-- The parts of a report, and of the call that writes it.
use Rattle.std.specs.Prelude.{◌≡◌, ◌<◌, ◌^◌, ℕ, [], ◌++◌, Option, Some, None, Result, Ok, Err}
use Rattle.news_types.specs.Names.{Bytes}
use Rattle.news_types.specs.History.{History}
use Rattle.news_io.specs.Sink.{SinkMeaning}
use Rattle.run_status.specs.declared.status.Status.{Status}
use Rattle.news_room.specs.declared.answers.Ticked.{Ticked}
use Rattle.room_reports.specs.declared.feed.Page.{Page}
use Rattle.room_reports.specs.Written.{AreLines, IsWhole, IsCut, IsPart}
use Rattle.room_reports.specs.Texts.{feed_report_at}

-- ---- pages of the report on a feed

-- what follows a page: the report behind so many entries, or nothing
abbrev pub rest_from : Bytes → History → Option ℕ → Bytes
rest_from s h None = []
rest_from s h (Some next) = feed_report_at s next h

-- the next page begins behind more entries, of a number of 32 bits
abbrev pub IsLater : ℕ → Option ℕ → Type 0
IsLater after None = Unit {0}
IsLater after (Some next) = (after < next) × (next < 2 ^ 32)

-- the page is the report's first lines, and the rest of it follows
pub record IsPage (s : Bytes) (after : ℕ) (h : History) (page : Page) : Type 0 where
  pub front : feed_report_at s after h ≡ page.text ++ rest_from s h page.next
  pub lines : AreLines page.text

-- ---- how a call ends

-- why a tick lets no report follow
abbrev pub released : Ticked → Result (Unit {0}) Status
released (Ticked.Kept place) = Ok tt
released Ticked.Still = Ok tt
released Ticked.Fault = Err Status.Store
released (Ticked.Full size count) = Err Status.Full

-- the status of an end
abbrev pub ended : Result (Unit {0}) Status → Status
ended (Ok u) = Status.Done
ended (Err why) = why

-- of these bytes all was written, or the first where the output failed, or the first lines for want of memory
abbrev pub Writes : {O : Type 0} → SinkMeaning O → Bytes → O → O → Result (Unit {0}) Status → Type 0
Writes sink bytes old new (Ok u) = IsWhole sink bytes old new
Writes sink bytes old new (Err Status.Output) = IsCut sink bytes old new
Writes sink bytes old new (Err Status.Memory) = IsPart sink bytes old new
Writes sink bytes old new (Err _) = ⊥
