-- The pages of a report on a feed.
use Rattle.std.proofs.Common.{◌≡◌, inl, inr, if◌then◌else◌, ℕ, ◌+◌, ◌<◌, ◌≤◌, Bool, true, false, List, [], ◌∷◌, ◌++◌, length, take, drop, Option, Some, None, refl, sym, ap, subst, ◌∙◌, append-nil, append_assoc, arith}
use Rattle.std.specs.Prelude.{◌^◌, IfSome, MatchOption, codes, decimal}
use Rattle.news_types.specs.declared.query.Answer.{Answer}
use Rattle.news_types.specs.declared.query.Answer.TheVariants as told
use Rattle.news_types.specs.declared.query.Query.TheVariants as query
use Rattle.news_types.specs.declared.query.FeedRow.{FeedRow}
use Rattle.news_types.specs.declared.query.QueueRow.{QueueRow}
use Rattle.news_types.specs.declared.words.Thing.TheVariants as thing
use Rattle.news_types.specs.Names.{Bytes}
use Rattle.news_types.specs.History.{History}
use Rattle.news_types.specs.Products.{is_subscriber, subscribers}
use Rattle.news_types.specs.Feeds.{feed}
use Rattle.news_types.specs.Answers.{feed_rows, in_order, query_answer, queue_rows}
use Rattle.release_rules.specs.Writer.{moment_text}
use Rattle.desk_answers.specs.Answers.{answer_bytes}
use Rattle.feed_reports.specs.Line.{line}
use Rattle.feed_reports.specs.Feed.{feed_line, feed_report, kind_word, feed_report_of, page_report}
use Rattle.feed_reports.proofs.Pages.{feed_report_of-page, feed_report_of-end}
use Rattle.room_reports.specs.Written.{AreLines}
use Rattle.room_reports.specs.Texts.{feed_report_at, unknown_line}
use Rattle.room_reports.specs.Parts.{IsLater, IsPage}
use Rattle.room_reports.proofs.Writing.{lines_then}

-- ---- reports are whole lines

line_ends : (words : List Bytes) → (before : Bytes) × (line words ≡ before ++ 10 ∷ [])
line_ends [] = ([], refl)
line_ends (word ∷ []) = (word, refl)
line_ends (word ∷ next ∷ words) =
    let rest = line_ends (next ∷ words) in
    (word ++ codes " " ++ rest.0, ap (λ (l : Bytes). word ++ codes " " ++ l) rest.1 ∙ sym (append_assoc (word ++ codes " ") rest.0 (10 ∷ [])))

abbrev row_words : FeedRow → List Bytes
row_words row = decimal row.k ∷ decimal row.publication ∷ decimal row.item ∷ decimal row.version ∷ kind_word row.kind ∷ moment_text row.release ∷ []

report_whole : (rows : List FeedRow) → AreLines (feed_report rows)
report_whole [] = inl refl
report_whole (row ∷ rows) = lines_then (feed_line row) (feed_report rows) (inr (line_ends (row_words row))) (report_whole rows)

-- ---- one page, and what is behind it

known_report : (h : History) (s : Bytes) (after : ℕ) → is_subscriber h s ≡ true → feed_report_at s after h ≡ feed_report_of h s after
known_report h s after known = ap (λ (b : Bool). if b then feed_report_of h s after else unknown_line) known

module _ (h : History) (s : Bytes) (after : ℕ) (known : is_subscriber h s ≡ true) where
  paged : feed_report_at s after h ≡ page_report h s after ++ feed_report_of h s (after + 100)
  paged = known_report h s after known ∙ feed_report_of-page 100 h s after

  last_page : length (feed h s) ≤ after + 100 → feed_report_at s after h ≡ page_report h s after ++ []
  last_page ends = paged ∙ ap (λ (l : Bytes). page_report h s after ++ l) (feed_report_of-end h s (after + 100) ends)

  page_then : feed_report_at s after h ≡ page_report h s after ++ feed_report_at s (after + 100) h
  page_then = paged ∙ ap (λ (l : Bytes). page_report h s after ++ l) (sym (known_report h s (after + 100) known))

  page_is : (next : Option ℕ) (count : ℕ) → count ≡ length (feed h s) → MatchOption next (count ≤ after + 100) (λ n. (n ≡ after + 100) × (n < count)) → IsPage s after h (record { text = page_report h s after; next = next })
  page_is None count counts ends = record { front = last_page (subst (λ (n : ℕ). n ≤ after + 100) counts ends); lines = report_whole _ }
  page_is (Some n) count counts later = record { front = page_then ∙ ap (λ (k : ℕ). page_report h s after ++ feed_report_at s k h) (sym later.0); lines = report_whole _ }

pub is_later : (after count : ℕ) (next : Option ℕ) → MatchOption next (count ≤ after + 100) (λ n. (n ≡ after + 100) × (n < count)) → IfSome next (λ n. n < 2 ^ 32) → IsLater after next
is_later after count None ends fits = tt
is_later after count (Some n) later fits = (omega (arith, later.0), fits)

-- ---- what the answer to a question for a page says

feed_only : (known : Bool) (subscriber s : Bytes) (count n : ℕ) (rows those : List FeedRow) → told.Feed subscriber count rows ≡ (if known then told.Feed s n those else told.Unknown thing.Subscriber) → (known ≡ true) × (count ≡ n) × (rows ≡ those)
feed_only true subscriber s count n rows those is = (refl, cc, cc)
feed_only false subscriber s count n rows those is = absurd cc

not_known : (known : Bool) (answer : Answer) (s : Bytes) (n : ℕ) (those : List FeedRow) → ((subscriber : Bytes) (count : ℕ) (rows : List FeedRow) → answer ≡ told.Feed subscriber count rows → ⊥)
    → answer ≡ (if known then told.Feed s n those else told.Unknown thing.Subscriber) → known ≡ false
not_known true answer s n those never is = absurd (never s n those is)
not_known false answer s n those never is = refl

module _ (h : History) (s : Bytes) (after : ℕ) (frames : Bytes → ℕ → Bytes) where
  pub feed_page_is : (subscriber : Bytes) (count : ℕ) (rows : List FeedRow) (text : Bytes) (next : Option ℕ) → told.Feed subscriber count rows ≡ query_answer frames h (query.Feed s after) → text ≡ feed_report rows
      → MatchOption next (count ≤ after + 100) (λ n. (n ≡ after + 100) × (n < count)) → IsPage s after h (record { text = text; next = next })
  feed_page_is subscriber count rows text next answers text_is follows =
      let is = feed_only (is_subscriber h s) subscriber s count (length (feed h s)) rows (feed_rows (after + 1) (take 100 (drop after (feed h s)))) answers in
      subst (λ (t : Bytes). IsPage s after h (record { text = t; next = next })) (sym (text_is ∙ ap feed_report is.2)) (page_is h s after is.0 next count is.1 follows)

  pub unknown_page_is : (answer : Answer) (text : Bytes) → ((subscriber : Bytes) (count : ℕ) (rows : List FeedRow) → answer ≡ told.Feed subscriber count rows → ⊥) → answer ≡ query_answer frames h (query.Feed s after) → text ≡ unknown_line
      → IsPage s after h (record { text = text; next = None })
  unknown_page_is answer text never answers text_is =
      let unknown = not_known (is_subscriber h s) answer s (length (feed h s)) (feed_rows (after + 1) (take 100 (drop after (feed h s)))) never answers in
      subst (λ (t : Bytes). IsPage s after h (record { text = t; next = None })) (sym text_is) (record {
        front = ap (λ (b : Bool). if b then feed_report_of h s after else unknown_line) unknown ∙ sym (append-nil unknown_line);
        lines = inr (answer_bytes (told.Unknown thing.Subscriber), refl);
      })

-- ---- the report on all feeds

pub queue_only : (h : History) (rows : List QueueRow) (frames : Bytes → ℕ → Bytes) → told.Queue rows ≡ query_answer frames h query.Queue → rows ≡ queue_rows h (in_order (subscribers h))
queue_only h rows frames is = cc
