-- Standbys that go wrong. Each of them breaks the law, which shows that the law forbids it.
use Rattle.std.specs.Prelude.{ℕ, ◌+◌, List, [], ◌∷◌, length, if◌then◌else◌, nat_le, Option, Some, None, slice_get}
use Rattle.news_types.specs.declared.entry.Entry.{Entry}
use Rattle.news_types.specs.Calls.{Fate}
use Rattle.standby_laws.specs.Standby.{SentRecord, Reaction, Known, Ahead, Next, reacted, taken, is_answered}
use Rattle.standby_laws.specs.Following.{Following, Event, RecordComes, Restarts, told, happens}

-- a record line reaches a standby that reacts in this way
abbrev pub comes_to : (ℕ → ℕ → Reaction) → Following → Fate → Option SentRecord → Following
comes_to react w fate None = w
comes_to react w fate (Some r) =
    let t : Reaction = react (length w.standby.list) r.number in
    told (is_answered fate t) (record w { standby = reacted w.standby r.entry fate t })

-- it takes a record out of turn
abbrev pub whatever_is_ahead : ℕ → ℕ → Reaction
whatever_is_ahead count n = if nat_le n count then Known else Next

abbrev pub skips_a_record : Following → Event → Following
skips_a_record w (RecordComes which fate) = comes_to whatever_is_ahead w fate (slice_get w.records which)
skips_a_record w event = happens w event

-- it takes a record again
abbrev pub whatever_it_is : ℕ → ℕ → Reaction
whatever_it_is count n = if nat_le n (count + 1) then Next else Ahead

abbrev pub takes_a_record_twice : Following → Event → Following
takes_a_record_twice w (RecordComes which fate) = comes_to whatever_it_is w fate (slice_get w.records which)
takes_a_record_twice w event = happens w event

-- it says KEPT of a record before that is kept
abbrev pub said_first : Following → Fate → Option SentRecord → Following
said_first w fate None = w
said_first w fate (Some r) = record w { standby = taken w.standby r fate; kepts = r.number ∷ w.kepts }

abbrev pub answers_before_it_keeps : Following → Event → Following
answers_before_it_keeps w (RecordComes which fate) = said_first w fate (slice_get w.records which)
answers_before_it_keeps w event = happens w event

-- it leaves in doubt what it kept
abbrev pub still_in_doubt : Following → Fate → Option SentRecord → Following
still_in_doubt w fate None = w
still_in_doubt w fate (Some r) =
    record w { standby = record { list = (taken w.standby r fate).list; doubt = r.entry ∷ w.standby.doubt } }

abbrev pub doubts_what_it_kept : Following → Event → Following
doubts_what_it_kept w (RecordComes which fate) = still_in_doubt w fate (slice_get w.records which)
doubts_what_it_kept w event = happens w event

-- a stop takes away the last entry, as one does that comes before what was written is safe on the disk
abbrev pub without_last : List Entry → List Entry
without_last [] = []
without_last (e ∷ h) = h

abbrev pub loses_at_a_stop : Following → Event → Following
loses_at_a_stop w (Restarts which) = record w { standby = record { list = without_last w.standby.list; doubt = [] } }
loses_at_a_stop w event = happens w event
