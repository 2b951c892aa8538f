-- What shipping a list to its standby does, over the links that a command was given.
use Rattle.std.specs.Prelude.{◌≡◌, ◌⊎◌, ℕ, false, List, [], ◌∷◌}
use Rattle.news_types.specs.Names.{Bytes, is_in}
use Rattle.news_io.specs.Disk.{DiskMeaning}
use Rattle.news_io.specs.Link.{LinkMeaning}
use Rattle.news_io.specs.Sink.{SinkMeaning}
use Rattle.standby_files.specs.Shipping.{IsShip}
use Rattle.newsdesk_cli.specs.Telling.{IsRefusedUse}

module _ {D O : Type 0} (disk : DiskMeaning D) (sink : SinkMeaning O) (name : Bytes) (log log' side side' : D) (o o' : O) (status : ℕ) where
  -- without a link to the standby the words are no command
  pub record IsNotLinked : Type 0 where
    pub same : log' ≡ log
    pub same_side : side' ≡ side
    pub refused : IsRefusedUse sink o o' status

  module _ {L : Type 0} (link : LinkMeaning L) where
    -- the link goes to others
    pub record IsElsewhere (l l' : L) : Type 0 where
      pub none : is_in name (link.serves l) ≡ false
      pub same_link : l' ≡ l
      pub refused : IsNotLinked

    -- over one link, where it goes to the standby
    abbrev pub ShipsBy : L → L → Type 0
    ShipsBy l l' = IsElsewhere l l' ⊎ IsShip disk sink link name log log' side side' o o' l l' status

    -- over the first of the links; the others stay as they are
    abbrev pub ShipsOver : List L → List L → Type 0
    ShipsOver [] links = (links ≡ []) × IsNotLinked
    ShipsOver (l ∷ others) links = (l' : L) × (links ≡ l' ∷ others) × ShipsBy l l'
