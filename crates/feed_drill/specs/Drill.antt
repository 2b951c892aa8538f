-- A drill: the list that it gives, and what becomes of its output.
use Rattle.std.specs.Prelude.{◌≡◌, ℕ, ◌+◌, true, List, [], ◌++◌}
use Rattle.news_types.specs.declared.entry.Entry.{Entry}
use Rattle.news_types.specs.Names.{Bytes, is_in}
use Rattle.news_types.specs.Members.{Each}
use Rattle.news_types.specs.History.{History, moment_at}
use Rattle.news_types.specs.Books.{followed_by}
use Rattle.news_types.specs.Legal.{IsLegal}
use Rattle.news_io.specs.Faults.{Rose}
use Rattle.news_io.specs.Sink.{SinkMeaning, AreFirst}
use Rattle.run_status.specs.declared.status.Status.{Status}
use Rattle.run_status.specs.declared.status.Status.TheVariants as status
use Rattle.feed_receiver.specs.Holds.{Received}
use Rattle.drill_plan.specs.Plan.{plan}
use Rattle.publish_workers.specs.Completeness.{Delivers, NoneReady}
use Rattle.publish_workers.specs.InMemory.{HoldsAll}
use Rattle.feed_drill.specs.Requests.{given}
use Rattle.feed_drill.specs.Report.{subscribers_of, drill_report}

-- the reading of the clock behind a drill of n stories
abbrev pub reading_of : ℕ → ℕ
reading_of n = 1100 + n

-- A drill of n stories with this seed gave this list, and these are held by the receivers of its subscribers.
pub record IsDrill (n seed : ℕ) (h : History) (held : List Received) : Type 0 where
  -- its requests, in order, and then some ticks, attempts and receipts
  pub delivered : List Entry
  pub list : h ≡ followed_by delivered (given [] (plan n seed))
  pub only : Each (λ (e : Entry). Delivers e.act) delivered
  pub legal : IsLegal h
  -- until none is ready
  pub rests : NoneReady h (subscribers_of h) (moment_at h (reading_of n))
  -- each receiver holds as many frames as its feed has entries, and all of them are acknowledged
  pub equal : (s : Bytes) → is_in s (subscribers_of h) ≡ true → HoldsAll h (subscribers_of h) held s

module _ {O : Type 0} (sink : SinkMeaning O) where
  -- all of these bytes were printed, and have passed on
  pub record Prints (old new : O) (bytes : Bytes) : Type 0 where
    pub calm : sink.faults new ≡ sink.faults old
    pub told : sink.tells old → sink.tells new
    pub taken : sink.tells old → sink.taken new ≡ sink.taken old ++ bytes
    pub passed : sink.tells old → sink.passed new ≡ sink.taken new

  -- the output failed at some of them
  pub record PrintsFirst (old new : O) (bytes : Bytes) : Type 0 where
    pub rose : Rose (sink.faults old) (sink.faults new)
    pub told : sink.tells old → sink.tells new
    pub front : Bytes
    pub first : AreFirst front bytes
    pub taken : sink.tells old → sink.taken new ≡ sink.taken old ++ front

  -- what becomes of the output, by the status: without memory, or where the room's log is full, nothing is printed
  abbrev pub Drills : ℕ → ℕ → O → O → Status → Type 0
  Drills n seed old new status.Done = (h : History) × (held : List Received) × IsDrill n seed h held × Prints old new (drill_report h held)
  Drills n seed old new status.Output = (h : History) × (held : List Received) × IsDrill n seed h held × PrintsFirst old new (drill_report h held)
  Drills n seed old new status.Memory = new ≡ old
  Drills n seed old new status.Full = new ≡ old
  Drills n seed old new _ = ⊥
