-- A list as it was.
use Rattle.std.specs.Prelude.{ℕ, nat_lt, List, [], ◌∷◌, map, length, if◌then◌else◌}
use Rattle.news_types.specs.History.{History}
use Rattle.news_io.specs.declared.record.Record.{Record}
use Rattle.news_room.specs.Log.{OpensTo}
use Rattle.news_room.specs.Opening.{bytes_of}

-- the list behind its first so many entries; all of it, where it has fewer
abbrev pub first_entries : ℕ → History → History
first_entries n [] = []
first_entries n (e ∷ h) = if nat_lt (length h) n then e ∷ h else first_entries n h

-- the records are those of the list
abbrev pub AreOf : List Record → History → Type 0
AreOf records h = OpensTo (map bytes_of records) h
