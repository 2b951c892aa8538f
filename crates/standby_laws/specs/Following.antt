-- A primary, its standby, and what lies between them.
use Rattle.std.specs.Prelude.{ℕ, Bool, true, false, List, [], ◌∷◌, length, Option, Some, None, slice_get}
use Rattle.std.specs.Option.{option_and_then}
use Rattle.news_types.specs.declared.entry.Entry.{Entry}
use Rattle.news_types.specs.History.{History}
use Rattle.news_types.specs.Legal.{IsLegal}
use Rattle.news_types.specs.Calls.{Fate, entry_at}
use Rattle.news_types.specs.Server.{Server}
use Rattle.standby_laws.specs.Standby.{SentRecord, reaction, taken, is_answered, restarted}

pub record Following : Type 0 where
  pub primary : History  -- the primary's list
  pub records : List SentRecord  -- every record line ever sent
  pub standby : Server  -- the standby's list, with its doubt
  pub kepts : List ℕ  -- the count of every KEPT ever sent

-- nothing has happened
abbrev pub opening : Following
opening = record { primary = []; records = []; standby = record { list = []; doubt = [] }; kepts = [] }

-- what may happen next. A record line is lost where it never comes; it comes again, or late, by a further event
pub data Event : Type 0 where
  -- the primary accepts an entry more, or finds one at its end as it opens
  Grows : Entry → Event
  -- the record line of this number of the primary's list is sent, at once or later
  Ships : ℕ → Event
  -- a record line that was sent reaches the standby, and what becomes of its entry where that is the next one
  RecordComes : ℕ → Fate → Event
  -- the standby stops and reopens, which finds one of its doubt or none
  Restarts : Option ℕ → Event

-- one record line more is sent, if there is one
abbrev pub ship : ℕ → Option Entry → Following → Following
ship n None w = w
ship n (Some e) w = record w { records = record { number = n; entry = e } ∷ w.records }

-- the standby says how many records it has, or does not
abbrev pub told : Bool → Following → Following
told true w = record w { kepts = length w.standby.list ∷ w.kepts }
told false w = w

abbrev pub record_comes : Following → Fate → Option SentRecord → Following
record_comes w fate None = w
record_comes w fate (Some r) =
    told (is_answered fate (reaction (length w.standby.list) r.number)) (record w { standby = taken w.standby r fate })

-- a member of a doubt, or none
abbrev pub one_of : List Entry → Option ℕ → Option Entry
one_of doubt which = option_and_then (slice_get doubt) which

abbrev pub happens : Following → Event → Following
happens w (Grows e) = record w { primary = e ∷ w.primary }
happens w (Ships n) = ship n (entry_at w.primary n) w
happens w (RecordComes which fate) = record_comes w fate (slice_get w.records which)
happens w (Restarts which) = record w { standby = restarted w.standby (one_of w.standby.doubt which) }

-- the primary accepts only what may follow its list; all else may happen at any time
abbrev pub May : Following → Event → Type 0
May w (Grows e) = IsLegal (e ∷ w.primary)
May w event = Unit {0}

-- these may happen, one after the other, each of which does what the function says
abbrev pub MayAll : (Following → Event → Following) → List Event → Following → Type 0
MayAll step [] w = Unit {0}
MayAll step (event ∷ events) w = May w event × MayAll step events (step w event)

abbrev pub run_by : (Following → Event → Following) → List Event → Following → Following
run_by step [] w = w
run_by step (event ∷ events) w = run_by step events (step w event)

-- what is behind a list of events, from the opening on
abbrev pub after : (Following → Event → Following) → List Event → Following
after step events = run_by step events opening
