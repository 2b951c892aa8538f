-- The answers to queries.
use Rattle.std.specs.Prelude.{◌≡◌, ◌<◌, ◌⊎◌, ℕ, List, [], ◌∷◌, ◌++◌, length, codes, decimal, Option, Some, None}
use Rattle.std.specs.List.{flat_map}
use Rattle.serde_json.specs.Data.{Members, no_members}
use Rattle.news_types.specs.declared.query.Publication.{Publication}
use Rattle.news_types.specs.Names.{Bytes}
use Rattle.news_types.specs.History.{History}
use Rattle.news_types.specs.Due.{Pub, shown}
use Rattle.news_types.specs.Publications.{pubs}
use Rattle.news_types.specs.Answers.{publication_at}
use Rattle.release_rules.specs.Writer.{moment_text}
use Rattle.feed_reports.specs.Line.{line}
use Rattle.told_objects.specs.Members.{◌with◌, text, number, list, answering, written}
use Rattle.archive_query.specs.Words.{act_word}
use Rattle.archive_query.specs.Query.{Query, hits}
use Rattle.archive_query.specs.Grammar.{IsQuery, IsBadAt, IsDeepAt}
use Rattle.archive_search.specs.declared.asked.Asked.{Asked}
use Rattle.archive_search.specs.declared.asked.Asked.TheVariants.{Found, Refused}
use Rattle.archive_search.specs.declared.asked.Hits.{Hits}
use Rattle.archive_search.specs.declared.hit.Hit.{Hit}
use Rattle.archive_search.specs.Pages.{page_of}

-- ---- what is told of publications

abbrev pub hit_of : Publication → Hit
hit_of p = record { act = p.kind; item = p.item; number = p.number; release = p.release; version = p.version }

abbrev pub hit_at : Option Pub → List Hit
hit_at None = []
hit_at (Some p) = hit_of (shown p) ∷ []

-- of the publications of these numbers, in their order
abbrev pub hits_told : List Pub → List ℕ → List Hit
hits_told ps numbers = flat_map (λ n. hit_at (publication_at n ps)) numbers

-- ---- as lines

abbrev pub total_line : ℕ → Bytes
total_line total = line (codes "total" ∷ decimal total ∷ [])

abbrev pub hit_line : Hit → Bytes
hit_line hit = line (decimal hit.number ∷ decimal hit.item ∷ decimal hit.version ∷ act_word hit.act ∷ moment_text hit.release ∷ [])

-- a line for each of the publications of these numbers
abbrev pub hit_report : List Pub → List ℕ → Bytes
hit_report ps numbers = flat_map hit_line (hits_told ps numbers)

-- how many publications the query finds, and the lines of those of a page
abbrev pub archive_report : History → Query → ℕ → Bytes
archive_report h q page = total_line (length (hits h q)) ++ hit_report (pubs h) (page_of page (hits h q))

-- ---- as objects, with keys in byte order

abbrev pub hit_row : Hit → Members
hit_row hit =
    no_members with text "act" (act_word hit.act) with number "item" hit.item with number "number" hit.number
    with text "release" (moment_text hit.release) with number "version" hit.version

abbrev pub found_object : ℕ → List Hit → Bytes
found_object total rows = written (answering "archive" with list "rows" hit_row rows with number "total" total)

-- the text is no query from that place on
abbrev pub refused_object : ℕ → Bytes
refused_object at = written (answering "bad-query" with number "at" at)

abbrev pub bad_line : ℕ → Bytes
bad_line at = refused_object at ++ 10 ∷ []

-- ---- what a text is answered

-- the text is no query from that place on; of one that is too long, the limit is told
abbrev pub IsRefusedAt : Bytes → ℕ → Type 0
IsRefusedAt text at = IsBadAt text at ⊎ (IsDeepAt text at ⊎ ((65536 < length text) × (at ≡ 65536)))

-- the report of the query that the text is, or the line of the place from which on it is none
abbrev pub AnswersQuery : History → ℕ → Bytes → Bytes → Type 0
AnswersQuery h page text bytes = ((q : Query) × IsQuery text q × (bytes ≡ archive_report h q page)) ⊎ ((at : ℕ) × IsRefusedAt text at × (bytes ≡ bad_line at))

-- ---- for private clauses

-- how many the query finds, and what is told of those of a page
pub record AreHits (h : History) (q : Query) (page : ℕ) (found : Hits) : Type 0 where
  pub total_is : found.total ≡ length (hits h q)
  pub rows_are : found.rows.items ≡ hits_told (pubs h) (page_of page (hits h q))

-- the hits of the query that the text is, or the place from which on it is none
abbrev pub IsAsked : History → ℕ → Bytes → Asked → Type 0
IsAsked h page text (Found found) = (q : Query) × IsQuery text q × AreHits h q page found
IsAsked h page text (Refused at) = IsRefusedAt text at
