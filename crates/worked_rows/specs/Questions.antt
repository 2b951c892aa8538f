-- Questions for publications.
use Rattle.std.specs.Prelude.{[], codes}
use Rattle.news_types.specs.declared.query.Answer.{Answer}
use Rattle.news_types.specs.declared.query.Query.{Query}
use Rattle.news_types.specs.declared.query.Publication.{Publication}
use Rattle.news_types.specs.declared.words.Kind.TheVariants.{Kill}
use Rattle.news_types.specs.History.{History}
use Rattle.news_types.specs.Answers.{query_answer}
use Rattle.worked_rows.specs.Examples.{fire}

-- no frame is asked for
abbrev pub told_of : History → Query → Answer
told_of h query = query_answer (λ s k. []) h query

-- the kill of item 1: the story that was flashed, with the note as its body
abbrev pub the_kill : Publication
the_kill = record { number = 2; item = 1; version = 2; kind = Kill; story = record (fire 3) { body = codes "Wrong." }; release = 1300 }
