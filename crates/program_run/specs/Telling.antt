-- What is told of an answer's line, and all that a command leaves beside the files and the output.
use Rattle.std.specs.Prelude.{◌≡◌, ◌⊎◌, ℕ}
use Rattle.news_types.specs.Names.{Bytes}
use Rattle.news_io.specs.Faults.{Rose}
use Rattle.news_io.specs.Outside.{Outside}
use Rattle.news_io.specs.Sink.{SinkMeaning}
use Rattle.room_reports.specs.Written.{IsWhole, IsCut, IsStopped}
use Rattle.run_status.specs.declared.status.Status.{Status}
use Rattle.run_status.specs.declared.status.Status.TheVariants as status

module _ {O : Type 0} (sink : SinkMeaning O) where
  -- the line was written and has passed on; or the first of it was, where the output has failed
  abbrev pub IsTold : Bytes → O → O → ℕ → Type 0
  IsTold line o o' number = ((number ≡ 0) × IsWhole sink line o o') ⊎ ((number ≡ 5) × IsCut sink line o o')

  -- so; or there was no memory for it
  abbrev pub IsAnswered : Bytes → O → O → ℕ → Type 0
  IsAnswered line o o' number = IsTold line o o' number ⊎ IsStopped sink status.Memory o o' number

-- nothing was read from the input and the clock, and nothing sent
pub record Unread {D S O C L : Type 0} (before after : Outside D S O C L) : Type 0 where
  pub input : after.input ≡ before.input
  pub clock : after.clock ≡ before.clock
  pub links : after.links ≡ before.links

-- a failed disk is told only where one has failed, and else no disk has
abbrev pub StoreCounts : ℕ → ℕ → Status → Type 0
StoreCounts before now status.Store = Rose before now
StoreCounts before now why = now ≡ before
