-- What holds of the answers.
use Rattle.std.specs.Prelude.{◌≡◌, ◌⊎◌, ℕ}
use Rattle.news_types.specs.Names.{Bytes}
use Rattle.news_types.specs.History.{History}
use Rattle.news_types.specs.Publications.{pubs}
use Rattle.std.specs.Prelude.{length}
use Rattle.archive_query.specs.Query.{Query, hits}
use Rattle.archive_query.specs.Grammar.{IsQuery}
use Rattle.archive_search.specs.declared.told.Told as code
use Rattle.archive_search.specs.declared.told.Told.TheVariants as told
use Rattle.archive_search.specs.Pages.{page_of}
use Rattle.archive_search.specs.Answers.{hits_told, found_object, refused_object, IsRefusedAt}
use Rattle.archive_search.specs.Told.{archive_told}

-- it tells what the query finds
abbrev pub TellsFound : History → ℕ → Query → code.Told → Type 0
TellsFound h page q answer = answer ≡ told.Found (found_object (length (hits h q)) (hits_told (pubs h) (page_of page (hits h q))))

-- A text that is a query is told what that query finds, and one that is none from a place on is told the place. Each text is one
-- of these.
pub record AnswersAreAsSpelled : Type 0 where
  pub queries : (h : History) (page : ℕ) (text : Bytes) (q : Query) → IsQuery text q → TellsFound h page q (archive_told h page text)
  pub others : (h : History) (page : ℕ) (text : Bytes) (at : ℕ) → IsRefusedAt text at → archive_told h page text ≡ told.Refused (refused_object at)
  pub each : (text : Bytes) → ((q : Query) × IsQuery text q) ⊎ ((at : ℕ) × IsRefusedAt text at)
