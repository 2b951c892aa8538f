-- Where a log that is packed is damaged.
use Rattle.std.specs.Prelude.{◌≡◌, ℕ, List, [], ◌∷◌, nat_lt, if◌then◌else◌, Option, Some, None, Result, Ok, Err}
use Rattle.std.specs.Option.{option_or}
use Rattle.news_types.specs.declared.entry.Entry.{Entry}
use Rattle.byte_formats.specs.Gives.{all_of}
use Rattle.entry_codec.specs.Commands.{entry}
use Rattle.news_pair.specs.Damage.{Place, Framed, log_damage, records_in, stopped_at}
use Rattle.news_pair.specs.declared.pack_fault.PackFault.{PackFault}
use Rattle.news_pair.specs.declared.pack_fault.PackFault.TheVariants.{Damaged}

-- of a record behind this moment: its payload is no entry, or its moment is below that
abbrev pub row_behind : ℕ → Framed → Result Entry ℕ → Option Place
row_behind before r (Ok e) = if nat_lt e.moment before then Some (r.0, Some 1) else None
row_behind before r (Err left) = stopped_at {A = Entry} r (Err left)

unfoldable pub no_later : ℕ → Framed → Option Place
no_later before r = row_behind before r (all_of entry r.1)

abbrev pub moment_in : ℕ → Result Entry ℕ → ℕ
moment_in before (Ok e) = e.moment
moment_in before (Err left) = before

-- the first of these records, behind this moment, that is no entry or has a moment below that of the one before it
abbrev pub out_of_order : ℕ → List Framed → Option Place
out_of_order before [] = None
out_of_order before (r ∷ rs) = option_or (no_later before r) (out_of_order (moment_in before (all_of entry r.1)) rs)

-- the place that shows that a log cannot be packed
unfoldable pub pack_damage : List ℕ → Option Place
pack_damage log = option_or (log_damage log) (out_of_order 0 (records_in log))

-- Where damage is answered, it is this.
abbrev pub IsPackDamage : Option Place → PackFault → Type 0
IsPackDamage found (Damaged at byte) = found ≡ Some (at, byte)
IsPackDamage found e = Unit {0}

-- Ok is answered only where nothing was found, and damage only where it is what was found.
abbrev pub JudgedPack : {T : Type 0} → Option Place → Result T PackFault → Type 0
JudgedPack found (Ok x) = found ≡ None
JudgedPack found (Err e) = IsPackDamage found e
