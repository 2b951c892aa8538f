-- The list as records of a keeper, and what records are read as.
use Rattle.std.specs.Prelude.{◌≡◌, ℕ, ◌+◌, List, [], ◌∷◌, length, Option, Some}
use Rattle.news_types.specs.declared.entry.Entry.{Entry}
use Rattle.news_types.specs.Names.{Bytes}
use Rattle.news_types.specs.History.{History}
use Rattle.news_types.specs.Legal.{IsLegal}
use Rattle.news_types.specs.Members.{Each}
use Rattle.entry_codec.specs.Spelling.{entry_bytes}
use Rattle.news_types.specs.Doubt.{payloads}
use Rattle.entry_codec.specs.Formed.{IsEntry}

-- the bytes that an entry takes of the log: its length, its payload and the next gate
abbrev pub size_of : Entry → ℕ
size_of e = length (entry_bytes e) + 5

abbrev pub sizes : List Entry → ℕ
sizes [] = 0
sizes (e ∷ es) = size_of e + sizes es

-- a list that a room can stand for: each entry is within the limits, and one that may follow
pub record IsStored (h : History) : Type 0 where
  pub legal : IsLegal h
  pub formed : Each IsEntry h

-- these records are those of this list
pub record OpensTo (records : List Bytes) (h : History) : Type 0 where
  pub is : records ≡ payloads entry_bytes h
  pub kept : IsStored h

-- what a keeper opened to is this list
abbrev pub Opens : Option (List Bytes) → History → Type 0
Opens opened h = (opened ≡ Some (payloads entry_bytes h)) × IsStored h
