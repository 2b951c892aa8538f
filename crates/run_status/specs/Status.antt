-- The number of each status, and the line that tells it.
use Rattle.std.specs.Prelude.{ℕ, List, [], ◌++◌, codes, decimal, Option, Some, None}
use Rattle.run_status.specs.declared.status.Status.{Status}
use Rattle.run_status.specs.declared.status.Status.TheVariants as status

abbrev pub number_of : Status → ℕ
number_of status.Done = 0
number_of status.Usage = 2
number_of status.WrongStore = 3
number_of status.Input = 4
number_of status.Output = 5
number_of status.Store = 6
number_of (status.Damaged at found) = 7
number_of (status.DamagedSide at found) = 7
number_of status.Full = 8
number_of status.Memory = 9
number_of status.Link = 10
number_of status.NoReceipt = 11
number_of status.TooLong = 12
number_of (status.BadFrame at) = 13
number_of status.BadHead = 14
number_of status.Held = 15

-- a byte, or nothing where there is none
abbrev pub byte_or_null : Option ℕ → List ℕ
byte_or_null None = codes "null"
byte_or_null (Some byte) = decimal byte

-- a place in a file, and the byte there
abbrev pub place_of : ℕ → Option ℕ → List ℕ
place_of at found = codes "{\"at\":" ++ decimal at ++ codes ",\"found\":" ++ byte_or_null found

-- nothing is said where all was done, and nothing of a failed output
abbrev pub line_of : Status → List ℕ
line_of status.Done = []
line_of status.Usage = codes "{\"status\":2}\n"
line_of status.WrongStore = codes "{\"status\":3}\n"
line_of status.Input = codes "{\"status\":4}\n"
line_of status.Output = []
line_of status.Store = codes "{\"status\":6}\n"
line_of (status.Damaged at found) = place_of at found ++ codes ",\"status\":7}\n"
line_of (status.DamagedSide at found) = place_of at found ++ codes ",\"side\":true,\"status\":7}\n"
line_of status.Full = codes "{\"status\":8}\n"
line_of status.Memory = codes "{\"status\":9}\n"
line_of status.Link = codes "{\"status\":10}\n"
line_of status.NoReceipt = codes "{\"status\":11}\n"
line_of status.TooLong = codes "{\"status\":12}\n"
line_of (status.BadFrame at) = codes "{\"at\":" ++ decimal at ++ codes ",\"status\":13}\n"
line_of status.BadHead = codes "{\"status\":14}\n"
line_of status.Held = codes "{\"status\":15}\n"
