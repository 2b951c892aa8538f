-- Each publication of a feed is in the table, and a page of a feed row by row.
use Rattle.std.proofs.Common.{◌≡◌, ℕ, zero, suc, ◌+◌, ◌-◌, ◌==◌, ◌<◌, ◌≤◌, true, false, cond, Option, Some, None, List, [], ◌∷◌, ◌++◌, length, length-append, append_assoc, append-nil, map, take, drop, min, refl, sym, ap, ◌∙◌, arith, subst, inl, inr}
use Rattle.std.specs.Prelude.{slice_get}
use Rattle.std.specs.Option.{option_map}
use Rattle.std.proofs.lemmas.Bool.{cases_lt}
use Rattle.std.proofs.lemmas.Bool.Decides.{nat_tests}
use Rattle.std.proofs.lemmas.List.{take_all, length-drop}
use Rattle.news_types.specs.declared.query.FeedRow.{FeedRow}
use Rattle.news_types.specs.Names.{Bytes, is_in}
use Rattle.news_types.specs.Products.{subscribers}
use Rattle.news_types.specs.declared.query.Publication.{Publication}
use Rattle.news_types.specs.Due.{Pub, shown as as_shown}
use Rattle.news_types.specs.History.{History}
use Rattle.news_types.specs.Publications.{pubs}
use Rattle.news_types.specs.Feeds.{Dispatch, feed}
use Rattle.news_types.specs.Answers.{feed_rows}
use Rattle.news_types.specs.Frames.{numbered}
use Rattle.news_types.proofs.Members.{each_get, get_within, some_is, none_some, mapped}
use Rattle.news_types.proofs.Numbering.{IsAmong, number_at, pubs_count_down, feed_among}
use Rattle.publish_queue.specs.Keeps.{number_of}
use Rattle.publications.specs.declared.table.Published.{Published}
use Rattle.publications.specs.Keeps.{shown, oldest_first, pub_at}
use Rattle.story_tables.specs.Pages.{row_of, row_shown}

-- ---- the table

pub oldest_counted : (ps : List Pub) → length (oldest_first ps) ≡ length ps
oldest_counted [] = refl
oldest_counted (p ∷ ps) = length-append (oldest_first ps) (p ∷ []) ∙ omega (arith, oldest_counted ps)

get_front : {A : Type 0} (xs : List A) (y : A) (k : ℕ) (x : A) → slice_get xs k ≡ Some x → slice_get (xs ++ y ∷ []) k ≡ Some x
get_front [] y k x is = absurd (none_some x is)
get_front (z ∷ xs) y zero x is = is
get_front (z ∷ xs) y (suc k) x is = get_front xs y k x is

pub get_last : {A : Type 0} (xs : List A) (y : A) → slice_get (xs ++ y ∷ []) (length xs) ≡ Some y
get_last [] y = refl
get_last (x ∷ xs) y = get_last xs y

-- the publication at a place, the newest at 0, is the one of its number
oldest_at : (ps : List Pub) (k n : ℕ) (p : Pub) → n + k + 1 ≡ length ps → slice_get ps k ≡ Some p → slice_get (oldest_first ps) n ≡ Some p
oldest_at [] k n p sum is = absurd (none_some p is)
oldest_at (q ∷ ps) zero n p sum is =
    let at : length (oldest_first ps) ≡ n = omega (arith, oldest_counted ps, sum) in
    subst (λ (k : ℕ). slice_get (oldest_first ps ++ q ∷ []) k ≡ Some p) at (get_last (oldest_first ps) q ∙ is)
oldest_at (q ∷ ps) (suc k) n p sum is = get_front (oldest_first ps) q n p (oldest_at ps k n p (omega (arith, sum)) is)

-- what is shown at a place is the publication there
got_shown : (ps : List Pub) (k : ℕ) (it : Publication) → slice_get (map as_shown ps) k ≡ Some it → (p : Pub) × (slice_get ps k ≡ Some p) × (as_shown p ≡ it)
got_shown [] k it is = absurd (none_some it is)
got_shown (p ∷ ps) zero it is = (p, refl, some_is (as_shown p) it is)
got_shown (p ∷ ps) (suc k) it is = got_shown ps k it is

-- one that is shown is the publication of its number
pub listed_among : (h : History) (it : Publication) → IsAmong (pubs h) it → (p : Pub) × (as_shown p ≡ it) × (pub_at (pubs h) it.number ≡ Some p)
listed_among h it among =
    let found = got_shown (pubs h) among.0 it among.1 in
    let at = number_at (pubs h) among.0 found.0 (pubs_count_down h) found.1 in
    let near = get_within (pubs h) among.0 found.0 found.1 in
    let same : found.0.number ≡ it.number = ap (λ (x : Publication). x.number) found.2 in
    let above : (it.number == 0) ≡ false = grind (arith, nat_tests) in
    (found.0, found.2, ap (λ b. cond b None (slice_get (oldest_first (pubs h)) (it.number - 1))) above ∙ oldest_at (pubs h) among.0 (it.number - 1) found.0 (omega (arith, at, near, same)) found.1)

pub numbered_listed : (h : History) (s : Bytes) (k : ℕ) (d : Dispatch) → numbered (feed h s) k ≡ Some d → (p : Pub) × (as_shown p ≡ d.shown) × (pub_at (pubs h) d.shown.number ≡ Some p)
numbered_listed h s zero d is = absurd (none_some d is)
numbered_listed h s (suc k) d is = listed_among h d.shown (each_get (λ (e : Dispatch). IsAmong (pubs h) e.shown) (feed h s) k d (feed_among h s) is)

abbrev row_with : ℕ → ℕ → Publication → FeedRow
row_with k n it = record { k = k; item = it.item; publication = n; kind = it.kind; version = it.version; release = it.release }

-- the entry of a feed whose number the queue tells, from the table
pub row_told : (h : History) (s : Bytes) (k number : ℕ) (o : Option ℕ) (kept : Option Published) → o ≡ cond (is_in s (subscribers h)) (option_map number_of (numbered (feed h s) k)) None → is_in s (subscribers h) ≡ true
    → o ≡ Some number → kept ≡ option_map shown (pub_at (pubs h) number) → option_map (row_shown k number) kept ≡ option_map (row_of k) (numbered (feed h s) k)
row_told h s k number o kept is there some keeps =
    let found = mapped number_of (numbered (feed h s) k) number (ap (λ b. cond b (option_map number_of (numbered (feed h s) k)) None) (sym there) ∙ sym is ∙ some) in
    let listed = numbered_listed h s k found.0 found.1 in
    let at : pub_at (pubs h) number ≡ Some listed.0 = ap (pub_at (pubs h)) (sym found.2) ∙ listed.2 in
    ap (option_map (row_shown k number)) (keeps ∙ ap (option_map shown) at)
    ∙ (λ j. Some (row_with k (sym found.2 j) (listed.1 j))) ∙ sym (ap (option_map (row_of k)) found.1)

-- there is none where it tells none
pub row_untold : (h : History) (s : Bytes) (k : ℕ) (o : Option ℕ) → o ≡ cond (is_in s (subscribers h)) (option_map number_of (numbered (feed h s) k)) None → is_in s (subscribers h) ≡ true
    → o ≡ None → None ≡ option_map (row_of k) (numbered (feed h s) k)
row_untold h s k o is there none = sym (ap (option_map (row_of k)) (unmapped (numbered (feed h s) k) (ap (λ b. cond b (option_map number_of (numbered (feed h s) k)) None) (sym there) ∙ sym is ∙ none)))
  where
    unmapped : (found : Option Dispatch) → option_map number_of found ≡ None → found ≡ None
    unmapped None e = refl
    unmapped (Some d) e = absurd (none_some d.shown.number (sym e))

-- ---- rows

drop_one : (l : List Dispatch) (k : ℕ) (p : Dispatch) → slice_get l k ≡ Some p → drop k l ≡ p ∷ drop (suc k) l
drop_one [] k p is = absurd (none_some p is)
drop_one (q ∷ l) zero p is = ap (λ (x : Dispatch). x ∷ l) (some_is q p is)
drop_one (q ∷ l) (suc k) p is = drop_one l k p is

take_one : (n m : ℕ) (p : Dispatch) (l : List Dispatch) → n ≡ suc m → take n (p ∷ l) ≡ p ∷ take m l
take_one n m p l is = ap (λ (j : ℕ). take j (p ∷ l)) is

-- entry k + 1, where the feed has more than k
pub there_at : (l : List Dispatch) (k : ℕ) → k < length l → (p : Dispatch) × (slice_get l k ≡ Some p)
there_at [] k lt = absurd (omega (arith, lt))
there_at (q ∷ l) zero lt = (q, refl)
there_at (q ∷ l) (suc k) lt = there_at l k (omega (arith, lt))

pub numbered_next : (l : List Dispatch) (k : ℕ) (p : Dispatch) → slice_get l k ≡ Some p → numbered l (k + 1) ≡ Some p
numbered_next l k p is = let next : suc k ≡ k + 1 = omega arith in subst (λ (j : ℕ). numbered l j ≡ Some p) next is

-- one row of a page, and the rest
pub page_step : (l : List Dispatch) (k end : ℕ) (p : Dispatch) → k < end → slice_get l k ≡ Some p →
    feed_rows (k + 1) (take (end - k) (drop k l)) ≡ row_of (k + 1) p ∷ feed_rows (k + 1 + 1) (take (end - (k + 1)) (drop (k + 1) l))
page_step l k end p lt is =
    let next : suc k ≡ k + 1 = omega arith in
    ap (λ (rest : List Dispatch). feed_rows (k + 1) (take (end - k) rest)) (drop_one l k p is)
    ∙ ap (feed_rows (k + 1)) (take_one (end - k) (end - (k + 1)) p (drop (suc k) l) (omega (arith, lt)))
    ∙ ap (λ (j : ℕ). row_of (k + 1) p ∷ feed_rows (k + 1 + 1) (take (end - (k + 1)) (drop j l))) next

-- a page ends with the feed, or behind a hundred entries
pub page_end : (l : List Dispatch) (after end : ℕ) → end ≡ min (length l) (after + 100) → take (end - after) (drop after l) ≡ take 100 (drop after l)
page_end l after end is =
    elim (cases_lt (after + 100) (length l)) [
      | inl more ↦ let full : end - after ≡ 100 = omega (arith, is, more) in ap (λ (n : ℕ). take n (drop after l)) full
      | inr less ↦ take_all (end - after) (drop after l) (omega (arith, is, less, length-drop after l)) ∙ sym (take_all 100 (drop after l) (omega (arith, less, length-drop after l)))
    ]

-- one more row, and the rest of the page
pub page_row : (l : List Dispatch) (k end : ℕ) (p : Dispatch) (rows pushed all : List FeedRow) (row : FeedRow) → k < end → slice_get l k ≡ Some p → row ≡ row_of (k + 1) p → pushed ≡ rows ++ row ∷ []
    → rows ++ feed_rows (k + 1) (take (end - k) (drop k l)) ≡ all → pushed ++ feed_rows (k + 1 + 1) (take (end - (k + 1)) (drop (k + 1) l)) ≡ all
page_row l k end p rows pushed all row lt is row_is pushed_is whole =
    let rest : List FeedRow = feed_rows (k + 1 + 1) (take (end - (k + 1)) (drop (k + 1) l)) in
    ap (λ (xs : List FeedRow). xs ++ rest) (pushed_is ∙ ap (λ (x : FeedRow). rows ++ x ∷ []) row_is)
    ∙ append_assoc rows (row_of (k + 1) p ∷ []) rest ∙ sym (ap (λ (xs : List FeedRow). rows ++ xs) (page_step l k end p lt is)) ∙ whole

-- behind the last row
pub page_whole : (l : List Dispatch) (after k end : ℕ) (rows : List FeedRow) → end ≤ k → end ≡ min (length l) (after + 100)
    → rows ++ feed_rows (k + 1) (take (end - k) (drop k l)) ≡ feed_rows (after + 1) (take (end - after) (drop after l)) → rows ≡ feed_rows (after + 1) (take 100 (drop after l))
page_whole l after k end rows le is whole =
    let over : end - k ≡ 0 = omega (arith, le) in
    sym (append-nil rows) ∙ sym (ap (λ (n : ℕ). rows ++ feed_rows (k + 1) (take n (drop k l))) over) ∙ whole ∙ ap (feed_rows (after + 1)) (page_end l after end is)
