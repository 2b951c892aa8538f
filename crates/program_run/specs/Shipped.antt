-- What `ship` does: the records of a store's list go to a standby, over the first of the links.
use Rattle.std.specs.Prelude.{◌≡◌, ◌⊎◌, ◌<◌, ℕ, false, List, [], ◌∷◌, ◌++◌, length, codes, decimal}
use Rattle.news_types.specs.Names.{Bytes, is_in}
use Rattle.news_types.specs.History.{History}
use Rattle.news_io.specs.Outside.{Meanings, Outside, FilesTell}
use Rattle.news_io.specs.Sink.{SinkMeaning}
use Rattle.news_io.specs.declared.record.Record.{Record}
use Rattle.room_reports.specs.Written.{IsWhole, IsCut, IsStopped}
use Rattle.room_standby.specs.Holds.{AreOf}
use Rattle.room_standby.specs.Ships.{Ships, ShipCounts, IsOfNumber}
use Rattle.room_standby.specs.declared.outcome.Ship.{Ship}
use Rattle.room_standby.specs.declared.outcome.Ship.TheVariants.{Level, LinkFault, NoKept, Memory}
use Rattle.run_status.specs.declared.status.Status.{Status}
use Rattle.run_status.specs.declared.status.Status.TheVariants as status
use Rattle.program_run.specs.Damage.{Finders}
use Rattle.program_run.specs.Looked.{Opened}
use Rattle.program_run.specs.Refused.{NotOpened}

-- ---- what is told

-- a word and a number
abbrev pub word_line : List ℕ → ℕ → Bytes
word_line word n = word ++ decimal n ++ 10 ∷ []

module _ {O : Type 0} (sink : SinkMeaning O) where
  -- a line was written, and then the line that tells this status
  pub record IsToldWhole (line : Bytes) (why : Status) (o o' : O) (number : ℕ) : Type 0 where
    pub mid : O
    pub whole : IsWhole sink line o mid
    pub stopped : IsStopped sink why mid o' number

  -- so; or the first of the line was, and the output has failed
  abbrev pub IsToldWith : Bytes → Status → O → O → ℕ → Type 0
  IsToldWith line why o o' number = IsToldWhole line why o o' number ⊎ ((number ≡ 5) × IsCut sink line o o')

  -- by what shipping came to: how many records the standby has, or the record at which it stopped
  abbrev pub TellsShip : Ship → O → O → ℕ → Type 0
  TellsShip (Level count) o o' number = IsToldWith (word_line (codes "level ") count) status.Done o o' number
  TellsShip (LinkFault n) o o' number = IsToldWith (word_line (codes "link-fault ") n) status.Link o o' number
  TellsShip (NoKept n reply) o o' number = IsToldWith (word_line (codes "no-kept ") n) status.NoReceipt o o' number
  TellsShip Memory o o' number = IsStopped sink status.Memory o o' number

-- ---- the command

module _ {D S O C L : Type 0} (m : Meanings D S O C L) (before after : Outside D S O C L) (number : ℕ)
    (name : Bytes) where
  -- The files opened to a list, which they keep, and its records were shipped to the standby of this name: what passed over
  -- the link, and what that came to, which was told.
  pub record HasShipped (l l' : L) : Type 0 where
    pub store : Bytes
    pub list : History
    pub opened : Opened m before after.log after.side store list
    pub records : List Record
    pub are : FilesTell m before → AreOf records list
    pub answer : Ship
    pub ships : Ships m.link l l' records name 0 answer
    -- each line that is sent is that of the list's entry of its number
    pub lines : FilesTell m before → (from : ℕ) → from < length records → IsOfNumber list records from
    pub counts : ShipCounts (m.link.faults l) (m.link.faults l') answer
    pub told : TellsShip m.sink answer before.output after.output number

  -- without a link to the standby the words are no command
  pub record IsNotLinked : Type 0 where
    pub log : after.log ≡ before.log
    pub side : after.side ≡ before.side
    pub told : IsStopped m.sink status.Usage before.output after.output number

  -- the link goes to others
  pub record IsElsewhere (l l' : L) : Type 0 where
    pub none : is_in name (m.link.serves l) ≡ false
    pub same : l' ≡ l
    pub refused : IsNotLinked

  -- over one link
  abbrev pub ShipsBy : Finders → L → L → Type 0
  ShipsBy find l l' = IsElsewhere l l' ⊎ (NotOpened find m before after number ⊎ HasShipped l l')

  -- over the first of these links; the others stay as they are
  abbrev pub ShipsOver : Finders → List L → List L → Type 0
  ShipsOver find [] links = (links ≡ []) × IsNotLinked
  ShipsOver find (l ∷ others) links = (l' : L) × (links ≡ l' ∷ others) × ShipsBy find l l'

  abbrev pub IsShipped : Finders → Type 0
  IsShipped find =
      (after.input ≡ before.input) × (after.clock ≡ before.clock) × ShipsOver find before.links after.links
