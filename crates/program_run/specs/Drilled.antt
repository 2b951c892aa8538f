-- What `drill` prints.
use Rattle.std.specs.Prelude.{◌≡◌, ◌≤◌, ℕ, ◌+◌, true, false, List, length, Option}
use Rattle.news_types.specs.declared.entry.Act.{Act}
use Rattle.news_types.specs.declared.entry.Act.TheVariants.{Advance, Attempt, Receipt}
use Rattle.news_types.specs.declared.entry.Entry.{Entry}
use Rattle.news_types.specs.declared.query.Ready.TheVariants.{Later}
use Rattle.news_types.specs.Names.{Bytes, is_in}
use Rattle.news_types.specs.Members.{Each}
use Rattle.news_types.specs.History.{History, moment_at}
use Rattle.news_types.specs.Books.{followed_by}
use Rattle.news_types.specs.Legal.{IsLegal}
use Rattle.news_types.specs.Feeds.{feed}
use Rattle.news_types.specs.Delivery.{acked, tries, is_ready, choice}
use Rattle.news_types.specs.Products.{subscribers}
use Rattle.news_types.specs.Answers.{in_order}
use Rattle.news_io.specs.Clock.{ClockMeaning}
use Rattle.news_io.specs.Outside.{Meanings, Outside}
use Rattle.program_run.specs.Formats.{Formats}
use Rattle.room_reports.specs.Written.{IsWhole, IsCut}
use Rattle.run_status.specs.Output.{Told}
use Rattle.run_status.specs.Status.{number_of, line_of}
use Rattle.run_status.specs.declared.status.Status.{Status}
use Rattle.run_status.specs.declared.status.Status.TheVariants as status

-- ---- its list

-- a tick, an attempt or a receipt
abbrev pub Delivers : Act → Type 0
Delivers Advance = Unit {0}
Delivers (Attempt s k) = Unit {0}
Delivers (Receipt s n) = Unit {0}
Delivers act = ⊥

-- at the moment none of these feeds is ready: all without failed tries are acknowledged
pub record NoneReady (h : History) (names : List Bytes) (m : ℕ) : Type 0 where
  pub next : Option ℕ
  pub choice_is : choice h names m ≡ Later next
  pub none : (s : Bytes) → is_in s names ≡ true → is_ready h s m ≡ false
  pub done : (s : Bytes) → is_in s names ≡ true → tries h s ≡ 0 → length (feed h s) ≤ acked h s

-- in byte order
abbrev pub subscribers_of : History → List Bytes
subscribers_of h = in_order (subscribers h)

-- a drill of n stories with this seed gave this list: its requests, in order, and then ticks, attempts and receipts, until
-- none is ready and every feed is acknowledged
pub record IsDrill (f : Formats) (n seed : ℕ) (h : History) : Type 0 where
  pub delivered : List Entry
  pub list : h ≡ followed_by delivered (f.drill_list n seed)
  pub only : Each (λ (e : Entry). Delivers e.act) delivered
  pub legal : IsLegal h
  pub rests : NoneReady h (subscribers_of h) (moment_at h (1100 + n))
  pub whole : (s : Bytes) → is_in s (subscribers_of h) ≡ true → acked h s ≡ length (feed h s)

-- ---- the command

-- the clock was read so many times, and the readings behind those are still to come
pub record IsRead {C : Type 0} (clock : ClockMeaning C) (times : ℕ) (c c' : C) : Type 0 where
  pub told : clock.tells c → clock.tells c'
  pub ahead : clock.tells c → (k : ℕ) → clock.ahead c' k ≡ clock.ahead c (times + k)

-- so often as there are requests, or, where there is no report, no more often
abbrev pub IsCount : ℕ → ℕ → Status → Type 0
IsCount requests times status.Memory = times ≤ requests
IsCount requests times status.Full = times ≤ requests
IsCount requests times why = times ≡ requests

module _ {D S O C L : Type 0} (f : Formats) (m : Meanings D S O C L) (before after : Outside D S O C L)
    (number : ℕ) where
  -- the report on the list was printed, or the output failed at it; without memory, or where the log in memory is full, there
  -- is none
  abbrev pub Printed : ℕ → ℕ → O → Status → Type 0
  Printed n seed mid status.Done =
      (h : History) × IsDrill f n seed h × IsWhole m.sink (f.drill_report h) before.output mid
  Printed n seed mid status.Output =
      (h : History) × IsDrill f n seed h × IsCut m.sink (f.drill_report h) before.output mid
  Printed n seed mid status.Memory = mid ≡ before.output
  Printed n seed mid status.Full = mid ≡ before.output
  Printed n seed mid why = ⊥

  -- a newsroom in memory was drilled: neither the files nor the input nor a link were touched, and no reading of the clock
  -- was used
  pub record IsDrilled (n seed : ℕ) : Type 0 where
    pub why : Status
    pub number_is : number ≡ number_of why
    pub mid : O
    pub printed : Printed n seed mid why
    pub line : Told m.sink mid after.output (line_of why)
    pub times : ℕ
    pub count : IsCount (f.drill_requests n seed) times why
    pub read : IsRead m.clock times before.clock after.clock
    pub log : after.log ≡ before.log
    pub side : after.side ≡ before.side
    pub input : after.input ≡ before.input
    pub links : after.links ≡ before.links
