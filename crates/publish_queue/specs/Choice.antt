-- Which feed is pushed next, by the facts of a queue: it is `choice` where they are the facts of a list.
use Rattle.std.specs.Prelude.{ℕ, ◌+◌, Bool, not, ◌&&◌, nat_le, List, [], ◌∷◌, slice_get, filter_map, if◌then◌else◌, Option, Some, None, option_map}
use Rattle.news_types.specs.declared.query.Ready.{Ready}
use Rattle.news_types.specs.declared.query.Ready.TheVariants.{Now, Later}
use Rattle.news_types.specs.Names.{Bytes, is_in}
use Rattle.news_types.specs.Feeds.{feed_of, waiting_of}
use Rattle.news_types.specs.Delivery.{Candidate, candidate, earliest, is_by, pauses, first_release, or_else}
use Rattle.publish_queue.specs.declared.turns.Turn.{Turn}
use Rattle.publish_queue.specs.Keeps.{Facts, turn_of}
use Rattle.publish_queue.specs.Coming.{sooner}

abbrev pub ready_candidate_of : Facts → ℕ → Bytes → Option Candidate
ready_candidate_of known at s =
    if is_in s known.names && is_by at (turn_of known s)
    then option_map (candidate s) (turn_of known s)
    else None

abbrev pub is_paused_of : Facts → Bytes → Bool
is_paused_of known s = pauses (slice_get (feed_of known.publications known.moment s) (known.acked s)) (known.tries s)

abbrev pub later_candidate_of : Facts → Bytes → Option Candidate
later_candidate_of known s =
    if is_in s known.names && not (is_paused_of known s)
    then option_map (candidate s) (or_else (turn_of known s) (first_release (waiting_of known.publications known.moment s)))
    else None

abbrev pub moment_of_candidate : Candidate → ℕ
moment_of_candidate found = found.at

-- it goes on with the entry behind those that were acknowledged
abbrev pub now_of : Facts → Candidate → Ready
now_of known found = Now found.name (known.acked found.name + 1)

-- the ready one among those that are asked for with the least moment, then the least name, if there is one
abbrev pub ready_of : Facts → List Bytes → ℕ → Option Ready
ready_of known asked at = option_map (now_of known) (earliest (filter_map (ready_candidate_of known at) asked))

abbrev pub chosen_of : Facts → Option Candidate → List Bytes → Ready
chosen_of known (Some found) asked = now_of known found
chosen_of known None asked = Later (option_map moment_of_candidate (earliest (filter_map (later_candidate_of known) asked)))

-- the ready one among those that are asked for with the least moment, then the least name; or the least moment at which
-- one may be ready
abbrev pub choice_of : Facts → List Bytes → ℕ → Ready
choice_of known asked at = chosen_of known (earliest (filter_map (ready_candidate_of known at) asked)) asked

-- ---- in turn

-- the first turn, up to the moment, of one of these
abbrev pub first_among : List Bytes → ℕ → List Turn → Option Turn
first_among asked m [] = None
first_among asked m (t ∷ ts) = if nat_le t.moment m then (if is_in t.name asked then Some t else first_among asked m ts) else None

abbrev pub candidate_at : Turn → Candidate
candidate_at t = candidate t.name t.moment

-- the least moment of these
abbrev pub soonest : (Bytes → Option ℕ) → List Bytes → Option ℕ
soonest moment [] = None
soonest moment (s ∷ ss) = sooner (moment s) (soonest moment ss)

abbrev pub later_moment_of : Facts → Bytes → Option ℕ
later_moment_of known s = option_map moment_of_candidate (later_candidate_of known s)
