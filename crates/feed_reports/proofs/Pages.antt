-- The report on a feed comes page by page.
use Rattle.std.proofs.Common.{◌≡◌, ℕ, zero, suc, ◌+◌, ◌≤◌, List, [], ◌∷◌, ◌++◌, length, take, drop, refl, sym, ap, ◌∙◌, append_assoc, arith}
use Rattle.std.proofs.lemmas.List.{drop-drop}
use Rattle.std.proofs.lemmas.Grind.{common_steps}
use Rattle.news_types.specs.Names.{Bytes}
use Rattle.news_types.specs.History.{History}
use Rattle.news_types.specs.Feeds.{Dispatch, feed}
use Rattle.news_types.specs.Answers.{feed_row, feed_rows}
use Rattle.feed_reports.specs.Feed.{feed_line, feed_report, feed_report_of}

-- the lines of some entries are those of the first n of them, and then those of the others
pub feed_report-page : (n k : ℕ) (ds : List Dispatch) → feed_report (feed_rows k ds) ≡ feed_report (feed_rows k (take n ds)) ++ feed_report (feed_rows (k + n) (drop n ds))
feed_report-page zero k ds = ap (λ i. feed_report (feed_rows i ds)) (let e : k ≡ k + 0 = omega arith in e)
feed_report-page (suc n) k [] = refl
feed_report-page (suc n) k (d ∷ ds) =
    let e : k + 1 + n ≡ k + suc n = omega arith in
    let rest : feed_report (feed_rows (k + 1) ds) ≡ feed_report (feed_rows (k + 1) (take n ds)) ++ feed_report (feed_rows (k + suc n) (drop n ds)) =
    feed_report-page n (k + 1) ds ∙ ap (λ i. feed_report (feed_rows (k + 1) (take n ds)) ++ feed_report (feed_rows i (drop n ds))) e in
    ap (λ z. feed_line (feed_row k d.shown) ++ z) rest
    ∙ sym (append_assoc (feed_line (feed_row k d.shown)) (feed_report (feed_rows (k + 1) (take n ds))) (feed_report (feed_rows (k + suc n) (drop n ds))))

-- so the whole report is that of a page of n entries, and then that of what is behind it
pub feed_report_of-page : (n : ℕ) (h : History) (s : Bytes) (after : ℕ) → feed_report_of h s after ≡ feed_report (feed_rows (after + 1) (take n (drop after (feed h s)))) ++ feed_report_of h s (after + n)
feed_report_of-page n h s after =
    let e : after + 1 + n ≡ after + n + 1 = omega arith in
    feed_report-page n (after + 1) (drop after (feed h s))
    ∙ ap (λ z. feed_report (feed_rows (after + 1) (take n (drop after (feed h s)))) ++ feed_report (feed_rows (after + 1 + n) z)) (drop-drop n after (feed h s))
    ∙ ap (λ i. feed_report (feed_rows (after + 1) (take n (drop after (feed h s)))) ++ feed_report (feed_rows i (drop (after + n) (feed h s)))) e

drop_past : (n : ℕ) (ds : List Dispatch) → length ds ≤ n → drop n ds ≡ []
drop_past n ds h = grind (arith, common_steps)

-- behind the end there is nothing
pub feed_report_of-end : (h : History) (s : Bytes) (after : ℕ) → length (feed h s) ≤ after → feed_report_of h s after ≡ []
feed_report_of-end h s after past = ap (λ z. feed_report (feed_rows (after + 1) z)) (drop_past after (feed h s) past)
