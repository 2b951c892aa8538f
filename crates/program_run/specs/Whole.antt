-- An input that is read to its end before anything is done with it.
use Rattle.std.specs.Prelude.{◌≡◌, ◌≤◌, ℕ, List, [], length, Err}
use Rattle.news_io.specs.Faults.{Rose}
use Rattle.news_io.specs.Outside.{Meanings, Outside}
use Rattle.world_laws.specs.World.{Event}
use Rattle.line_run.specs.declared.ending.Ending.{Ending}
use Rattle.line_run.specs.declared.ending.Ending.TheVariants as end
use Rattle.program_run.specs.Members.{ReadTo, WasRead, status_by}
use Rattle.program_run.specs.Reported.{IsStopped, IsCalm}

-- the count of the input's failures, by what ended the reading: a failure, too many bytes, or want of memory
abbrev pub ReadCounts : ℕ → ℕ → Ending → Type 0
ReadCounts before now end.Read = Rose before now
ReadCounts before now end.TooLong = now ≡ before
ReadCounts before now end.Memory = now ≡ before
ReadCounts before now _ = ⊥

module _ {D S O C L : Type 0} (m : Meanings D S O C L) (before after : Outside D S O C L) (number : ℕ) (most : ℕ) where
  -- these are all its bytes, and they are not too many
  pub record IsReadWhole (read : List ℕ) : Type 0 where
    pub was_read : WasRead m before after read []
    pub few : length read ≤ most
    pub calm : m.source.faults after.input ≡ m.source.faults before.input

  -- it was not read to its end: the status tells why, and nothing else was done
  pub record IsNotRead (events : List Event) : Type 0 where
    pub why : Ending
    pub read : List ℕ
    pub more : List ℕ
    pub was_read : WasRead m before after read more
    pub read_to : ReadTo most read more (Err why)
    pub counts : ReadCounts (m.source.faults before.input) (m.source.faults after.input) why
    pub stopped : IsStopped m before after number (status_by why)
    pub none : events ≡ []
    pub calm : IsCalm m before after
    pub clock : after.clock ≡ before.clock
