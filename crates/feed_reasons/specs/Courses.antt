-- What becomes of a publication for a subscriber.
use Rattle.std.specs.Prelude.{ℕ, ◌+◌, ◌==◌, nat_le, nat_lt, List, [], ◌∷◌, if◌then◌else◌, Option, Some, None}
use Rattle.std.specs.List.{find}
use Rattle.news_types.specs.Names.{Bytes}
use Rattle.news_types.specs.History.{History, moment}
use Rattle.news_types.specs.Due.{Pub, release_to}
use Rattle.news_types.specs.Publications.{pubs, standing}
use Rattle.news_types.specs.Feeds.{Dispatch, feed}
use Rattle.news_types.specs.Delivery.{acked}
use Rattle.feed_reasons.specs.declared.course.Course.{Course}
use Rattle.feed_reasons.specs.declared.course.Course.TheVariants.{NotDue, TakenBack, Waits, Sent}

abbrev pub numbered : ℕ → List Pub → Option Pub
numbered n ps = find (λ (p : Pub). p.number == n) ps

-- its release to the subscriber, if it is due to it
abbrev pub due_of : Bytes → Option Pub → Option ℕ
due_of s None = None
due_of s (Some p) = release_to s p.due

-- where the publication stands among dispatches of which the first is entry k
abbrev pub place_from : ℕ → ℕ → List Dispatch → ℕ
place_from n k [] = 0
place_from n k (d ∷ ds) = if d.shown.number == n then k else place_from n (k + 1) ds

-- its entry of the feed, counted from 1, or 0
abbrev pub place : History → Bytes → ℕ → ℕ
place h s n = place_from n 1 (feed h s)

abbrev pub sent_as : History → Bytes → ℕ → Course
sent_as h s k = Sent k (nat_le k (acked h s))

-- by its release among those that were made, and among those that stand
abbrev pub course_by : History → Bytes → ℕ → Option ℕ → Option ℕ → Course
course_by h s n None stands = NotDue
course_by h s n (Some release) None = TakenBack
course_by h s n (Some release) (Some time) = if nat_lt (moment h) time then Waits time else sent_as h s (place h s n)

-- of publication n
abbrev pub course : History → ℕ → Bytes → Course
course h n s = course_by h s n (due_of s (numbered n (pubs h))) (due_of s (numbered n (standing h)))
