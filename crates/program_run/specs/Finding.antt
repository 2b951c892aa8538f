-- What finds the damage in payloads: the readers of entries and of segments.
use Rattle.std.specs.Prelude.{ℕ, ◌-◌, length, Option, Some, None, Result, Ok, Err}
use Rattle.news_types.specs.Names.{Bytes}
use Rattle.byte_formats.specs.Gives.{all_of}
use Rattle.entry_codec.specs.Commands.{entry}
use Rattle.entry_segments.specs.Reading as read
use Rattle.news_pair.specs.Segments.{segment_in}
use Rattle.program_run.specs.Damage.{Finders}

-- where reading stops
abbrev pub stop : {A : Type 0} → Bytes → Result A ℕ → Option ℕ
stop bytes (Ok x) = None
stop bytes (Err left) = Some (length bytes - left)

abbrev pub entry_at : Bytes → Option ℕ
entry_at bytes = stop bytes (all_of entry bytes)

abbrev pub segment_at : Bytes → Option ℕ
segment_at bytes = stop bytes (all_of read.segment bytes)

abbrev pub the_finders : Finders
the_finders = record { entry = entry_at; segment_place = segment_at; segment_in = segment_in }
