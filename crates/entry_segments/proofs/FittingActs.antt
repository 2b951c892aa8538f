-- What reading an act gives is within the limits.
use Rattle.std.proofs.Common.{ℕ, ◌≤◌, List, Result, Ok, Err}
use Rattle.std.specs.Prelude.{IfOk}
use Rattle.news_types.specs.declared.entry.Act.{Act}
use Rattle.byte_formats.specs.declared.stop.Stopped.{Stopped}
use Rattle.byte_formats.specs.Gives.{GivesAll, all_of}
use Rattle.byte_formats.proofs.Laws.{IsBytes}
use Rattle.byte_formats.proofs.Sounds.{sound_of}
use Rattle.byte_formats.proofs.Alls.{all_takes}
use Rattle.entry_codec.specs.Commands.{act_fields}
use Rattle.entry_codec.specs.Fits.{FitsAct}
use Rattle.entry_codec.proofs.EntryLaws.{OfTag, fields_lawful}

pub act_fits : (t : ℕ) → 1 ≤ t → t ≤ 7 → (r : Result Act Stopped) (bytes : List ℕ) → IsBytes bytes → GivesAll r (all_of (act_fields t) bytes) → IfOk r FitsAct
act_fits t low high (Ok a) bytes ib gives = (all_takes (act_fields t) (OfTag t) (sound_of (act_fields t) (OfTag t) (fields_lawful t low high)) bytes a ib gives).0.is.fits
act_fits t low high (Err e) bytes ib gives = tt
