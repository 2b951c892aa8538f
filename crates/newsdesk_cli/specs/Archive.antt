-- What a query of the archive does to the log, its side and the output, and with which status it ends.
use Rattle.std.specs.Prelude.{◌⊎◌, ℕ}
use Rattle.news_types.specs.Names.{Bytes}
use Rattle.news_types.specs.History.{History}
use Rattle.news_io.specs.Disk.{DiskMeaning}
use Rattle.news_io.specs.Sink.{SinkMeaning}
use Rattle.store_files.specs.declared.trouble.Trouble.TheVariants as trouble
use Rattle.archive_search.specs.Answers.{AnswersQuery}
use Rattle.newsdesk_cli.specs.Telling.{IsTold, IsStopped}
use Rattle.newsdesk_cli.specs.Opened.{IsLook}

-- the answer to the query on a list was told: what it finds of a page, or where it is no query; or there was no memory
abbrev pub IsAsked : {O : Type 0} → SinkMeaning O → History → ℕ → Bytes → O → O → ℕ → Type 0
IsAsked sink h page query o o' status = ((answer : Bytes) × AnswersQuery h page query answer × IsTold sink answer o o' status) ⊎ IsStopped sink trouble.Memory o o' status

-- the query is asked of the list of the files
abbrev pub IsArchive : {D O : Type 0} → DiskMeaning D → SinkMeaning O → ℕ → Bytes → D → D → D → D → O → O → ℕ → Type 0
IsArchive disk sink page query log log' side side' o o' status = IsLook disk sink log log' side side' o o' status (λ store h. IsAsked sink h page query o o' status)
