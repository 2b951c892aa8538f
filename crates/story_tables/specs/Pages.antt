-- The rows of a feed, and publications.
use Rattle.std.specs.Prelude.{ℕ}
use Rattle.news_types.specs.declared.query.FeedRow.{FeedRow}
use Rattle.news_types.specs.declared.query.Publication.{Publication}
use Rattle.news_types.specs.Feeds.{Dispatch}
use Rattle.news_types.specs.Answers.{feed_row}
use Rattle.publications.specs.declared.table.Published.{Published}

-- a publication as entry k of a feed
abbrev pub row_of : ℕ → Dispatch → FeedRow
row_of k d = feed_row k d.shown

-- what is kept of one of that number, as entry k of a feed
abbrev pub row_shown : ℕ → ℕ → Published → FeedRow
row_shown k number p = record { k = k; item = p.item; publication = number; kind = p.kind; version = p.version; release = p.release }

-- the same as it is shown
abbrev pub publication_of : ℕ → Published → Publication
publication_of number p = record { number = number; item = p.item; version = p.version; kind = p.kind; story = p.story; release = p.release }

-- the publication that is an entry of a feed
abbrev pub shown_in : Dispatch → Publication
shown_in d = d.shown
