-- What is measured of a list from the answers of its room.
use Rattle.std.proofs.Common.{◌≡◌, ℕ, Bool, true, false, cond, ◌||◌, List, [], ◌∷◌, map, length, refl, sym, ap, ◌∙◌}
use Rattle.std.specs.Prelude.{Option, Some, None, ◌==◌}
use Rattle.std.specs.Ordering.{nat_cmp, is_le}
use Rattle.std.specs.Cmp.Lexicographic.{slice_cmp}
use Rattle.news_types.specs.declared.query.FeedState.TheVariants as state
use Rattle.news_types.specs.declared.query.Query.TheVariants as query
use Rattle.news_types.specs.declared.query.Answer.TheVariants as told
use Rattle.news_types.specs.declared.query.QueueRow.{QueueRow}
use Rattle.news_types.specs.Names.{Bytes, same, is_in}
use Rattle.news_types.specs.History.{History, moment}
use Rattle.news_types.specs.Products.{subscribers}
use Rattle.news_types.specs.Feeds.{Dispatch, waiting}
use Rattle.news_types.specs.Publications.{pubs}
use Rattle.news_types.specs.Delivery.{next_entry, tries, pauses, state_by_tries}
use Rattle.news_types.specs.Answers.{put_name, in_order, query_answer, queue_rows}
use Rattle.news_types.proofs.Members.{same_self}
use Rattle.server_metrics.specs.Measured.{checked_of, feed_gauge, feed_gauges}
use Rattle.server_metrics.specs.Rows.{is_paused_state, row_gauge}

-- ---- a feed that is paused

first_state : (paused fresh : Bool) → is_paused_state (cond paused state.Paused (cond fresh state.Pending state.Retrying)) ≡ paused
first_state true fresh = refl
first_state false true = refl
first_state false false = refl

-- a feed is paused where its state says so
paused_state : (next : Option Dispatch) (waits : List Dispatch) (n : ℕ) → is_paused_state (state_by_tries next waits n) ≡ pauses next n
paused_state None [] n = refl
paused_state None (d ∷ ds) n = refl
paused_state (Some d) waits n = first_state (n == 10) (n == 0)

-- ---- names in order

or_swap : (a b c : Bool) → (a || (b || c)) ≡ (b || (a || c))
or_swap true true c = refl
or_swap true false c = refl
or_swap false b c = refl

in_put : (s t : Bytes) (names : List Bytes) → is_in s (put_name t names) ≡ (same s t || is_in s names)
in_put s t [] = refl
in_put s t (u ∷ names) =
    elim (is_le (slice_cmp nat_cmp t u)) as (λ b. is_in s (cond b (t ∷ u ∷ names) (u ∷ put_name t names)) ≡ (same s t || (same s u || is_in s names))) [
      | true ↦ refl
      | false ↦ ap (λ b. same s u || b) (in_put s t names) ∙ or_swap (same s u) (same s t) (is_in s names)
    ]

in_order_in : (s : Bytes) (names : List Bytes) → is_in s (in_order names) ≡ is_in s names
in_order_in s [] = refl
in_order_in s (t ∷ names) = in_put s t (in_order names) ∙ ap (λ b. same s t || b) (in_order_in s names)

in_head : (s : Bytes) (names : List Bytes) → is_in s (s ∷ names) ≡ true
in_head s names = rw (same_self s) refl

in_tail : (s t : Bytes) (names : List Bytes) → is_in s names ≡ true → is_in s (t ∷ names) ≡ true
in_tail s t names there = rw there (or_true (same s t))
  where
    or_true : (b : Bool) → (b || true) ≡ true
    or_true true = refl
    or_true false = refl

-- ---- rows

-- each row tells how a feed fares
rows_are : (h : History) (m : ℕ) (names : List Bytes) → ((s : Bytes) → is_in s names ≡ true → is_in s (subscribers h) ≡ true)
    → map (row_gauge h m) (queue_rows h names) ≡ map (feed_gauge h m) names
rows_are h m [] all = refl
rows_are h m (s ∷ names) all =
    rw (all s (in_head s names), paused_state (next_entry h s) (waiting h s) (tries h s))
    (ap (λ gauges. feed_gauge h m s ∷ gauges) (rows_are h m names (λ t there. all t (in_tail t s names there))))

-- the rows of the queue tell how all feeds fare
pub queue_gauges : (h : History) (m : ℕ) → map (row_gauge h m) (queue_rows h (in_order (subscribers h))) ≡ feed_gauges h m
queue_gauges h m = rows_are h m (in_order (subscribers h)) (λ s there. sym (in_order_in s (subscribers h)) ∙ there)

pub queue_only : (h : History) (rows : List QueueRow) (frames : Bytes → ℕ → Bytes) → told.Queue rows ≡ query_answer frames h query.Queue → rows ≡ queue_rows h (in_order (subscribers h))
queue_only h rows frames is = cc

-- what a check answers is measured of the list
pub check_only : (h : History) (entries last publications : ℕ) (frames : Bytes → ℕ → Bytes) → told.Check entries last publications ≡ query_answer frames h query.Check
    → record { entries = entries; moment = last; publications = publications } ≡ checked_of h
check_only h entries last publications frames is =
    let same_entries : entries ≡ length h = cc in
    let same_moment : last ≡ moment h = cc in
    let same_pubs : publications ≡ length (pubs h) = cc in
    rw (same_entries, same_moment, same_pubs) refl
