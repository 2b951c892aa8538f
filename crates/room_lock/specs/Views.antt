-- What a pass knows, and what each move makes of it.
use Rattle.std.specs.Prelude.{ℕ, List, [], ◌∷◌, ◌++◌, length}
use Rattle.news_types.specs.declared.entry.Entry.{Entry}
use Rattle.room_lock.specs.declared.view.Call.{Call}
use Rattle.room_lock.specs.declared.view.Meeting.{Meeting}
use Rattle.room_lock.specs.declared.view.Stage.{Stage}
use Rattle.room_lock.specs.declared.view.Stage.TheVariants.{Resting, Waiting, Turning}
use Rattle.room_lock.specs.declared.view.View.{View}
use Rattle.room_lock.specs.Calls.{merged, longer}

-- from 1 on there is a ticket, and at 2 it is served
abbrev pub rank : Stage → ℕ
rank Resting = 0
rank Waiting = 1
rank Turning = 2

abbrev pub view : List Entry → List Call → Stage → ℕ → Meeting → View
view front calls stage ticket met = record { front = front; calls = calls; stage = stage; ticket = ticket; met = met }

-- no pass was joined yet
abbrev pub unmet : Meeting
unmet = record { one = []; other = []; one_calls = []; other_calls = [] }

-- nothing was seen and nothing was done. The first pass knows this, and a pass that was joined away
abbrev pub blank : View
blank = view [] [] Resting 0 unmet

-- the view of a pass, which has one
abbrev pub view_of : List View → View
view_of [] = blank
view_of (v ∷ vs) = v

-- draw
abbrev pub waiting : View → ℕ → View
waiting v ticket = view v.front v.calls Waiting ticket v.met

-- look, where the ticket is served
abbrev pub turning : View → List Entry → View
turning v history = view history v.calls Turning v.ticket v.met

-- a call from and to these lengths, with the count of faults and the size before it and after it
abbrev pub call : ℕ → ℕ → ℕ × ℕ → ℕ × ℕ → Call
call from to before after = record { from = from; to = to; faults = before.0; used = before.1; later_faults = after.0; later_used = after.1 }

-- count: the history is this one now, and there is one call more
abbrev pub counted : View → List Entry → ℕ × ℕ → ℕ × ℕ → View
counted v history before after = view history (v.calls ++ call (length v.front) (length history) before after ∷ []) Turning v.ticket v.met

-- pass on
abbrev pub resting : View → View
resting v = view v.front v.calls Resting 0 v.met

-- split: what the new pass knows
abbrev pub newcomer : View → View
newcomer v = view v.front [] Resting 0 unmet

-- join: what the pass that is left knows
abbrev pub together : View → View → View
together v w = view (longer v.front w.front) (merged v.calls w.calls) Resting 0 (record { one = v.front; other = w.front; one_calls = v.calls; other_calls = w.calls })
