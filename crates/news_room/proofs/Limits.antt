-- How much of the log the entries of acts may use.
use Rattle.std.proofs.Common.{◌≡◌, ℕ, ◌≤◌, Bool, true, false, Option, Some, None, refl, arith}
use Rattle.std.specs.Prelude.{nat_lt, if◌then◌else◌}
use Rattle.news_types.specs.declared.entry.Act.{Act}
use Rattle.news_types.specs.declared.entry.Act.TheVariants.{Advance, Attempt, Receipt, Halt, Ingest, Request}
use Rattle.news_types.specs.declared.denial.Denial.{Denial}
use Rattle.news_types.specs.Names.{Bytes}
use Rattle.news_types.specs.History.{History, is_stop_command}
use Rattle.news_types.specs.Legal.{some_waits}
use Rattle.news_types.specs.Delivery.{acked}
use Rattle.news_types.specs.Denial.{receipt_denial}
use Rattle.news_types.specs.Calls.{entry_if}
use Rattle.news_types.specs.Outcome.{Done, no_entry, kept, kept_unless, receipt_at}
use Rattle.news_room.specs.Stands.{LIMIT, STOP_LIMIT, LAST, limit_of, limit_for}
use Rattle.news_room.specs.Steps.{entries, tick_entries}

-- none may use more than a log may have
stop_few : (b : Bool) → (if b then STOP_LIMIT else LIMIT) ≤ LAST
stop_few true = omega arith
stop_few false = omega arith

pub limit_few : (act : Act) → limit_of act ≤ LAST
limit_few Advance = omega arith
limit_few (Attempt subscriber k) = omega arith
limit_few (Receipt subscriber n) = omega arith
limit_few Halt = omega arith
limit_few (Ingest provider come) = omega arith
limit_few (Request caller number command) = stop_few (is_stop_command command)

-- what follows a tick is no stop and no halt
tick_limit_if : (b : Bool) (m : ℕ) → limit_for (entries (entry_if b m Advance)) ≡ LIMIT
tick_limit_if true m = refl
tick_limit_if false m = refl

pub tick_limit : (h : History) (m : ℕ) → limit_for (tick_entries h m) ≡ LIMIT
tick_limit h m = tick_limit_if (some_waits h m) m

-- nor is what follows a receipt
receipt_limit_if : (d : Option Denial) (b : Bool) (h : History) (s : Bytes) (n m : ℕ)
    → limit_for (entries (kept_unless d (if b then kept h m (Receipt s n) else record { answer = Done (no_entry 0); more = None })).more) ≡ LIMIT
receipt_limit_if (Some reason) b h s n m = refl
receipt_limit_if None true h s n m = refl
receipt_limit_if None false h s n m = refl

pub receipt_limit : (h : History) (s : Bytes) (n m : ℕ) → limit_for (entries (receipt_at h s n m).more) ≡ LIMIT
receipt_limit h s n m = receipt_limit_if (receipt_denial h s n) (nat_lt (acked h s) n) h s n m
