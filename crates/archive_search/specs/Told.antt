-- What a text is answered as an object.
use Rattle.std.specs.Prelude.{ℕ, ◌-◌, nat_lt, length, if◌then◌else◌, Result, Ok, Err}
use Rattle.news_types.specs.Names.{Bytes}
use Rattle.news_types.specs.History.{History}
use Rattle.news_types.specs.Publications.{pubs}
use Rattle.archive_query.specs.Query.{Query, hits}
use Rattle.archive_query.specs.Tokens.{joined}
use Rattle.archive_query.specs.Reading.{Refused}
use Rattle.archive_query.specs.Parsing.{read_text}
use Rattle.archive_search.specs.declared.told.Told as code
use Rattle.archive_search.specs.declared.told.Told.TheVariants as told
use Rattle.archive_search.specs.Pages.{page_of}
use Rattle.archive_search.specs.Answers.{hits_told, found_object, refused_object}

-- where the token stands with which no query goes on
abbrev pub place_of : Bytes → Refused → ℕ
place_of text refused = length text - length (joined refused.rest)

abbrev pub judged_by : Bytes → Result Query Refused → Result Query ℕ
judged_by text (Ok q) = Ok q
judged_by text (Err refused) = Err (place_of text refused)

-- the query that a text is, or the place from which on it is none: the limit, where it is too long
unfoldable pub judged : Bytes → Result Query ℕ
judged text = if nat_lt 65536 (length text) then Err 65536 else judged_by text (read_text text)

abbrev pub told_by : History → ℕ → Result Query ℕ → code.Told
told_by h page (Ok q) = told.Found (found_object (length (hits h q)) (hits_told (pubs h) (page_of page (hits h q))))
told_by h page (Err at) = told.Refused (refused_object at)

-- how many publications the query finds that the text is, and those of a page; or the place from which on it is none
abbrev pub archive_told : History → ℕ → Bytes → code.Told
archive_told h page text = told_by h page (judged text)
