-- Entries that are given as their bytes, the payloads of a log's records.
use Rattle.std.specs.Prelude.{◌≡◌, ℕ, List, map, Result, Ok, Err}
use Rattle.news_types.specs.Names.{Bytes}
use Rattle.news_types.specs.declared.entry.Act.TheVariants.{Advance}
use Rattle.news_types.specs.declared.entry.Entry.{Entry}
use Rattle.byte_formats.specs.Gives.{all_of}
use Rattle.entry_codec.specs.Spelling.{entry_bytes}
use Rattle.entry_codec.specs.Commands.{entry}
use Rattle.entry_codec.specs.Formed.{IsEntry}

-- what was read, or an advance where there is a fault
abbrev pub read_entry : Result Entry ℕ → Entry
read_entry (Ok e) = e
read_entry (Err left) = record { moment = 0; act = Advance }

-- the entry that these bytes spell
unfoldable pub entry_in : Bytes → Entry
entry_in bytes = read_entry (all_of entry bytes)

abbrev pub entries_in : List Bytes → List Entry
entries_in payloads = map entry_in payloads

-- these bytes spell an entry
pub record IsPayload (bytes : Bytes) : Type 0 where
  pub is_entry : IsEntry (entry_in bytes)
  pub are : bytes ≡ entry_bytes (entry_in bytes)
