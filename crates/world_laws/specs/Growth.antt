-- What was kept, answered, sent or held stays so.
use Rattle.std.specs.Prelude.{◌≡◌, List, ◌++◌}
use Rattle.news_types.specs.declared.entry.Entry.{Entry}
use Rattle.news_types.specs.Names.{Bytes}
use Rattle.news_types.specs.Frames.{Frame, Writer}
use Rattle.world_laws.specs.World.{World, Event, Given, SentReceipt, run}

-- the later world has all that the earlier one has, and goes on from it
pub record GoesOn (earlier later : World) : Type 0 where
  pub list : (new : List Entry) × (later.server.list ≡ new ++ earlier.server.list)
  pub out : (new : List Given) × (later.out ≡ new ++ earlier.out)
  pub frames : (new : List Frame) × (later.frames ≡ new ++ earlier.frames)
  pub receipts : (new : List SentReceipt) × (later.receipts ≡ new ++ earlier.receipts)
  pub held : (s : Bytes) → (new : List Frame) × ((later.receivers s).held ≡ (earlier.receivers s).held ++ new)

-- whatever happens to whatever world
abbrev pub NothingIsLost : Type 0
NothingIsLost = (write : Writer) (w : World) (events : List Event) → GoesOn w (run write events w)
