-- What a room stands for: a store with its list of entries.
use Rattle.std.specs.Prelude.{Bool, List, [], ◌∷◌}
use Rattle.news_types.specs.declared.entry.Entry.{Entry}
use Rattle.news_types.specs.Names.{Bytes}
use Rattle.news_types.specs.History.{History}

-- the sixteen bytes of the store's identifier, whether its keeper tells the list, and the list
pub record Book : Type 0 where
  pub store : Bytes
  pub told : Bool
  pub list : History

-- the list, with these entries put to it one after another
abbrev pub followed_by : List Entry → History → History
followed_by [] h = h
followed_by (e ∷ es) h = followed_by es (e ∷ h)

-- the book with these entries more, one after another
abbrev pub onto : List Entry → Book → Book
onto more b = record { store = b.store; told = b.told; list = followed_by more b.list }
