-- The report on a feed.
use Rattle.std.specs.Prelude.{ℕ, ◌+◌, ◌≤◌, ◌≡◌, List, [], ◌∷◌, ◌++◌, length, take, drop, codes, decimal}
use Rattle.std.specs.List.{flat_map}
use Rattle.news_types.specs.declared.words.Kind.{Kind}
use Rattle.news_types.specs.declared.words.Kind.TheVariants.{First, Correct, Kill, Recall}
use Rattle.news_types.specs.declared.query.FeedRow.{FeedRow}
use Rattle.news_types.specs.Names.{Bytes}
use Rattle.news_types.specs.History.{History}
use Rattle.news_types.specs.Feeds.{feed}
use Rattle.news_types.specs.Answers.{feed_rows}
use Rattle.release_rules.specs.Writer.{moment_text}
use Rattle.feed_reports.specs.Line.{line}

abbrev pub kind_word : Kind → Bytes
kind_word First = codes "first"
kind_word Correct = codes "correct"
kind_word Kill = codes "kill"
kind_word Recall = codes "recall"

abbrev pub feed_line : FeedRow → Bytes
feed_line row = line (decimal row.k ∷ decimal row.publication ∷ decimal row.item ∷ decimal row.version ∷ kind_word row.kind ∷ moment_text row.release ∷ [])

-- a line for each row
abbrev pub feed_report : List FeedRow → Bytes
feed_report rows = flat_map feed_line rows

-- the report on all entries of a subscriber's feed behind the first of them
abbrev pub feed_report_of : History → Bytes → ℕ → Bytes
feed_report_of h s after = feed_report (feed_rows (after + 1) (drop after (feed h s)))

-- the report on the 100 next of them
abbrev pub page_report : History → Bytes → ℕ → Bytes
page_report h s after = feed_report (feed_rows (after + 1) (take 100 (drop after (feed h s))))

-- the whole report is that of a page, and then that of what is behind the page
abbrev pub ComesInPages : Type 0
ComesInPages = (h : History) (s : Bytes) (after : ℕ) → feed_report_of h s after ≡ page_report h s after ++ feed_report_of h s (after + 100)

-- behind the end of a feed there is nothing to report
abbrev pub EndsWithFeed : Type 0
EndsWithFeed = (h : History) (s : Bytes) (after : ℕ) → length (feed h s) ≤ after → feed_report_of h s after ≡ []
