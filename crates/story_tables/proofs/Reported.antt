-- How feeds fare, told from the queue.
use Rattle.std.proofs.Common.{◌≡◌, ℕ, zero, suc, ◌+◌, ◌<◌, ◌≤◌, ◌==◌, Bool, true, false, cond, List, [], ◌∷◌, ◌++◌, append_assoc, append-nil, length, drop, get_or, Some, None, refl, sym, ap, ◌∙◌, arith}
use Rattle.std.specs.Prelude.{nat_lt}
use Rattle.std.specs.Option.{option_map}
use Rattle.std.specs.List.{slice_get}
use Rattle.std.proofs.lemmas.Bool.Decides.{nat_tests}
use Rattle.std.proofs.lemmas.List.{drop_all, at_drop_more}
use Rattle.news_types.specs.declared.query.QueueRow.{QueueRow}
use Rattle.news_types.specs.declared.query.FeedState.{FeedState}
use Rattle.news_types.specs.declared.query.FeedState.TheVariants.{Paused, Retrying, Pending, Waiting, Success}
use Rattle.news_types.specs.Names.{Bytes}
use Rattle.news_types.specs.History.{History}
use Rattle.news_types.specs.Feeds.{Dispatch, feed, waiting}
use Rattle.news_types.specs.Delivery.{state_by_tries, acked, tries}
use Rattle.news_types.specs.Answers.{queue_rows}
use Rattle.story_tables.specs.Keeps.{facts_at}
use Rattle.story_tables.specs.Reports.{row_by, queue_row}

none_below : (k : ℕ) → nat_lt k 0 ≡ false
none_below k = grind (arith, nat_tests)

less_zero : (n : ℕ) → nat_lt 0 (suc n) ≡ true
less_zero n = grind (arith, nat_tests)

less_suc : (k n : ℕ) → nat_lt (suc k) (suc n) ≡ nat_lt k n
less_suc k n = grind (arith, nat_tests)

abbrev by_tries : ℕ → FeedState
by_tries n = cond (n == 10) Paused (cond (n == 0) Pending Retrying)

fares_list : (xs ws : List Dispatch) (k n : ℕ) → cond (nat_lt k (length xs)) (by_tries n) (cond (nat_lt 0 (length ws)) Waiting Success) ≡ state_by_tries (slice_get xs k) ws n
fares_list [] [] k n = rw (none_below k) refl
fares_list [] (w ∷ ws) k n = rw (none_below k, less_zero (length ws)) refl
fares_list (x ∷ xs) ws zero n = rw (less_zero (length xs)) refl
fares_list (x ∷ xs) ws (suc k) n = rw (less_suc k (length xs)) (fares_list xs ws k n)

row_is : (h : History) (s : Bytes) → row_by s (facts_at h s) ≡ queue_row h s
row_is h s = ap (λ (state : FeedState). record { subscriber = s; length = length (feed h s); acked = acked h s; tries = tries h s; state = state }) (fares_list (feed h s) (waiting h s) (acked h s) (tries h s))

pub row_told : (h : History) (s : Bytes) (b : Bool) → option_map (row_by s) (cond b (Some (facts_at h s)) None) ≡ cond b (Some (queue_row h s)) None
row_told h s true = ap Some (row_is h s)
row_told h s false = refl

-- one more row, and those of the rest
pub rows_next : (h : History) (names : List Bytes) (k : ℕ) (s : Bytes) (rows pushed all : List QueueRow) (row : QueueRow) → k < length names → s ≡ get_or names k s → row ≡ queue_row h s → pushed ≡ rows ++ row ∷ []
    → rows ++ queue_rows h (drop k names) ≡ all → pushed ++ queue_rows h (drop (k + 1) names) ≡ all
rows_next h names k s rows pushed all row lt at row_is pushed_is whole =
    let rest : List QueueRow = queue_rows h (drop (k + 1) names) in
    ap (λ (xs : List QueueRow). xs ++ rest) (pushed_is ∙ ap (λ (x : QueueRow). rows ++ x ∷ []) row_is)
    ∙ append_assoc rows (queue_row h s ∷ []) rest
    ∙ ap (λ (t : Bytes). rows ++ queue_rows h (t ∷ drop (k + 1) names)) at ∙ sym (at_drop_more (λ (xs : List Bytes). rows ++ queue_rows h xs) names k s lt) ∙ whole

-- behind the last row
pub rows_whole : (h : History) (names : List Bytes) (k : ℕ) (rows all : List QueueRow) → length names ≤ k → rows ++ queue_rows h (drop k names) ≡ all → rows ≡ all
rows_whole h names k rows all le whole = sym (append-nil rows) ∙ sym (ap (λ (xs : List Bytes). rows ++ queue_rows h xs) (drop_all k names le)) ∙ whole
