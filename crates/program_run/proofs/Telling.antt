-- What is told of an answer's line, by what was said of it before.
use Rattle.std.proofs.Common.{inl, inr, ℕ, drop, take, sym}
use Rattle.std.proofs.lemmas.List.{take-append-drop}
use Rattle.news_types.specs.Names.{Bytes}
use Rattle.news_io.specs.Sink.{SinkMeaning}
use Rattle.newsdesk_cli.specs.Telling as old
use Rattle.store_files.specs.Trouble.{status_of}
use Rattle.store_files.specs.declared.trouble.Trouble.{Trouble}
use Rattle.store_files.specs.declared.trouble.Trouble.TheVariants as trouble
use Rattle.room_reports.specs.Written.{IsStopped}
use Rattle.program_run.specs.Telling.{IsTold, IsAnswered}

module _ {O : Type 0} (sink : SinkMeaning O) (line : Bytes) (o o' : O) (number : ℕ) where
  pub is_told : old.IsTold sink line o o' number → IsTold sink line o o' number
  is_told (inl t) = inl (t.0, record { wrote = t.1.wrote; passed = t.1.passed; calm = t.1.calm })
  is_told (inr t) = inr (t.0, record { front = take t.1.count line; first = (drop t.1.count line, sym (take-append-drop t.1.count line)); wrote = t.1.wrote; rose = t.1.rose })

  pub is_stopped : (why : Trouble) → old.IsStopped sink why o o' number → IsStopped sink (status_of why) o o' number
  is_stopped why t = record { status_is = t.status_is; line = t.line }

  pub is_answered : old.IsAnswered sink line o o' number → IsAnswered sink line o o' number
  is_answered (inl t) = inl (is_told t)
  is_answered (inr t) = inr (is_stopped trouble.Memory t)
