use Rattle.std.proofs.Common.{map, take}
use Rattle.std.specs.List.{flat_map}
use Rattle.sha2.specs.Hashers.{Holds256}
use Rattle.byte_formats.specs.Spelling.{text}
use Rattle.news_room.specs.Opening.{bytes_of}
use Rattle.list_marks.proofs.digest.digest_of.Given as goal

-- what was hashed is of the records so far
abbrev pub invariant-loop-here : goal.invariant-loop-here
invariant-loop-here l = Holds256 l.hasher (flat_map text (map bytes_of (take l.here-index l.records)))
